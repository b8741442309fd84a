-- Configurations from which no order explains the rest of a window: a read that is open saw a
-- location that the subscriber doesn't have, and no call sets it before the read ends.
use Rattle.std.specs.Prelude.{◌≡◌, ℕ, Bool, true, false, ◌==◌, ◌⊎◌, List, [], ◌∷◌, slice_index}
use Rattle.std.specs.List.{AllByRecursion}
use Rattle.tatp_tables.specs.Tuples.{Tuple, has}
use Rattle.tatp_tables.specs.Database.{Database}
use Rattle.tatp_calls.specs.declared.call.Call.{Call}
use Rattle.tatp_calls.specs.declared.call.Call.TheVariants.{GetSubscriberData, GetNewDestination, GetAccessData, UpdateSubscriberData, UpdateLocation, InsertCallForwarding, DeleteCallForwarding}
use Rattle.tatp_calls.specs.declared.reply.Reply.TheVariants.{Values}
use Rattle.tatp_history.specs.declared.event.Event.{Event}
use Rattle.tatp_history.specs.declared.event.Event.TheVariants.{Asks, Ends}
use Rattle.tatp_history.specs.declared.observed.Recorded.TheVariants.{Exactly}
use Rattle.tatp_history.specs.declared.observed.Outcome.TheVariants.{Answered}
use Rattle.tatp_history.specs.declared.observed.Observed.{Observed}
use Rattle.tatp_history.specs.Histories.{IsIn}
use Rattle.tatp_history.specs.Configurations.{Configuration}

-- no Subscriber row has this location
abbrev pub NoneHasLocation : ℕ → Database → Type 0
NoneHasLocation location u =
    (row : Tuple) → has u.subscribers row ≡ true → slice_index row 33 ≡ location → ⊥

-- whether the call sets this location
abbrev pub sets_location : ℕ → Call → Bool
sets_location location (GetSubscriberData s) = false
sets_location location (GetNewDestination s t b e) = false
sets_location location (GetAccessData s t) = false
sets_location location (UpdateSubscriberData s x t y) = false
sets_location location (UpdateLocation n v) = v == location
sets_location location (InsertCallForwarding n t b e x) = false
sets_location location (DeleteCallForwarding n t b) = false

-- the call reads the subscriber, and was answered with this location
pub record SawLocation (location : ℕ) (x : Observed) : Type 0 where
  pub s_id : ℕ
  pub at : ℕ
  pub values : List ℕ
  pub reads : x.call ≡ GetSubscriberData s_id
  pub answered : x.outcome ≡ Answered at (Exactly (Values values))
  pub column : slice_index values 33 ≡ location

-- the call that was asked at this time ends in the events, and until then none is asked that sets
-- the location
abbrev pub NoneSetsUntil : ℕ → ℕ → List Event → Type 0
NoneSetsUntil location asked [] = ⊥
NoneSetsUntil location asked (Asks x ∷ more) =
    (sets_location location x.call ≡ false) × NoneSetsUntil location asked more
NoneSetsUntil location asked (Ends other at ∷ more) =
    (other ≡ asked) ⊎ NoneSetsUntil location asked more

abbrev pub NoneSets : ℕ → List Observed → Type 0
NoneSets location opened =
    AllByRecursion (λ (x : Observed). sets_location location x.call ≡ false) opened

-- the read of the configuration can't be answered as it was
pub record IsStuck (events : List Event) (c : Configuration) (read : Observed) (location : ℕ)
    : Type 0 where
  pub there : IsIn read c.opened
  pub saw : SawLocation location read
  pub rows : NoneHasLocation location c.rows
  pub opened : NoneSets location c.opened
  pub later : NoneSetsUntil location read.asked events

abbrev pub IsDoomed : List Event → Configuration → Type 0
IsDoomed events c = (read : Observed) × (location : ℕ) × IsStuck events c read location
