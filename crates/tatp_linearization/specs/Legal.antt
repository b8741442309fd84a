-- Replies with which a call could have been answered.
use Rattle.std.specs.Prelude.{◌≡◌, ◌==◌, ◌⊎◌, if◌then◌else◌, List, [], ◌∷◌, ◌++◌, map}
use Rattle.std.specs.List.{AllByRecursion}
use Rattle.tatp_calls.specs.declared.call.Call.{Call}
use Rattle.tatp_calls.specs.Order.{in_order}
use Rattle.tatp_history.specs.declared.event.Event.{Event}
use Rattle.tatp_history.specs.declared.event.Event.TheVariants.{Asks, Ends}
use Rattle.tatp_history.specs.declared.observed.Observed.{Observed}
use Rattle.tatp_history.specs.Events.{asked_in}
use Rattle.tatp_history.specs.Configurations.{Configuration}
use Rattle.tatp_linearization.specs.declared.configuration.Configuration.{Configuration as Held}
use Rattle.tatp_linearization.specs.Held.{HoldsOfOne}

-- ---- another call in the place of the one that was asked at the same time
abbrev pub placed : Observed → Observed → Observed
placed y x = if x.asked == y.asked then y else x

abbrev pub with_call : Observed → List Observed → List Observed
with_call y calls = map (placed y) calls

abbrev pub events_with : Observed → List Event → List Event
events_with y [] = []
events_with y (Asks x ∷ more) = Asks (placed y x) ∷ events_with y more
events_with y (Ends asked at ∷ more) = Ends asked at ∷ events_with y more

-- ---- rows that calls result in, whatever their replies
abbrev pub calls_in : List Observed → List Call
calls_in calls = map (λ (x : Observed). x.call) calls

-- the calls that are open in configurations
abbrev pub open_calls : List Held → List Call
open_calls [] = []
open_calls (c ∷ cs) = calls_in c.opened.items ++ open_calls cs

-- those calls, and the calls of a window
abbrev pub all_calls : List Held → List Event → List Call
all_calls cs events = open_calls cs ++ calls_in (asked_in events)

-- the call is one of these
abbrev pub IsAmong : Call → List Call → Type 0
IsAmong call [] = ⊥
IsAmong call (other ∷ more) = (call ≡ other) ⊎ IsAmong call more

-- some of the calls, each any number of times, turn the rows of the first into those of the second
pub record MayLeave (calls : List Call) (c d : Configuration) : Type 0 where
  pub order : List Call
  pub made : AllByRecursion (λ call. IsAmong call calls) order
  pub rows : d ≡ record { rows = (in_order c.rows order).database; opened = [] }

-- the calls of a window and those open before it may turn one of these into the configuration
abbrev pub MayBeLeft : List Held → List Event → Configuration → Type 0
MayBeLeft cs events d = HoldsOfOne (MayLeave (all_calls cs events)) cs d
