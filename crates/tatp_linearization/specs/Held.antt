-- Configurations as the search holds them, and what it makes of them.
use Rattle.std.specs.Prelude.{◌≡◌, ℕ, zero, suc, ◌≤◌, ◌⊎◌, ◌↔◌, false, List, [], ◌∷◌, ◌++◌, Option, Some, None, Ok, map, slice_get, remove}
use Rattle.std.specs.List.{AllByRecursion}
use Rattle.tatp_homes.specs.Home.{IsHome}
use Rattle.tatp_calls.specs.Arguments.{arguments_accepted}
use Rattle.tatp_calls.specs.Transactions.{transaction}
use Rattle.tatp_history.specs.declared.event.Event.{Event}
use Rattle.tatp_history.specs.declared.event.Event.TheVariants.{Asks, Ends}
use Rattle.tatp_history.specs.declared.observed.Observed.{Observed}
use Rattle.tatp_history.specs.Histories.{MayHaveReply}
use Rattle.tatp_history.specs.Changes.{changes_nothing}
use Rattle.tatp_history.specs.Locality.{AreAccepted}
use Rattle.tatp_history.specs.Configurations.{Configuration}
use Rattle.tatp_linearization.specs.declared.configuration.Configuration.{Configuration as Held}
use Rattle.tatp_linearization.specs.AtOnce.{AreLeft, TakesOne, FollowsAtOnce}
use Rattle.tatp_linearization.specs.Overwritten.{AreOut}
use Rattle.tatp_linearization.specs.Possible.{AreDistinct}

-- the configuration that the search holds
abbrev pub seen : Held → Configuration
seen c = record { rows = c.home.tables; opened = c.opened.items }

abbrev pub all_seen : List Held → List Configuration
all_seen cs = map seen cs

-- the configuration is one of these
abbrev pub Has : List Held → Configuration → Type 0
Has [] d = ⊥
Has (c ∷ cs) d = (d ≡ seen c) ⊎ Has cs d

-- ---- what holds of those that are held
abbrev pub IsAcceptedEvent : Event → Type 0
IsAcceptedEvent (Asks x) = arguments_accepted x.call ≡ Ok tt
IsAcceptedEvent (Ends asked at) = Unit {0}

-- the arguments of all open calls are in their domains
abbrev pub AreReady : List Held → Type 0
AreReady cs = AllByRecursion (λ (c : Held). AreAccepted c.opened.items) cs

-- the homes are of one s_id, and each configuration is there once
pub record AreApart (s : ℕ) (cs : List Held) : Type 0 where
  pub own : AllByRecursion (λ (c : Held). c.home.s_id ≡ s) cs
  pub distinct : AreDistinct (all_seen cs)

-- ---- one call is asked
-- the second is the first after the call was asked
pub record IsAsked (c : Held) (x : Observed) (d : Held) : Type 0 where
  pub follows : FollowsAtOnce (Asks x) (seen c) (seen d)
  pub own : d.home.s_id ≡ c.home.s_id

-- ---- one call takes effect
-- what might be left out before may be so then, and beside that only what the call makes needless
pub record AreOverwritten (c d : Held) (x : Observed) : Type 0 where
  pub still : c.overwritten ≤ d.overwritten
  pub others : AreOut c.home.tables x.call c.overwritten d.overwritten d.opened.items

pub record TakesAt (c d : Held) (i : ℕ) (x : Observed) : Type 0 where
  pub at : slice_get c.opened.items i ≡ Some x
  pub writes : changes_nothing x ≡ false
  pub may : MayHaveReply x.outcome (transaction x.call c.home.tables).reply
  pub rows : d.home.tables ≡ (transaction x.call c.home.tables).database
  pub settled : AreLeft (transaction x.call c.home.tables).database
      (remove c.opened.items i) d.opened.items
  pub own : d.home.s_id ≡ c.home.s_id
  pub home : IsHome c.home
  pub overwritten : AreOverwritten c d x

-- the second is the first after its open call at this place, which writes, took effect. There is
-- none where that call changes nothing, or can't have ended with its reply here
abbrev pub Takes : Held → ℕ → Option Held → Type 0
Takes c i (Some d) = (x : Observed) × TakesAt c d i x
Takes c i None =
    (x : Observed) → slice_get c.opened.items i ≡ Some x → changes_nothing x ≡ false
    → MayHaveReply x.outcome (transaction x.call c.home.tables).reply → ⊥

-- ---- lists of configurations
-- the new list has those of the old list, and those of which this holds
abbrev pub Adds : List Held → (Configuration → Type 0) → List Held → Type 0
Adds old Holds new = (d : Configuration) → Has new d ↔ (Has old d ⊎ Holds d)

-- the new list begins with the old list
abbrev pub StandFirst : List Held → List Held → Type 0
StandFirst old new = (rest : List Held) × (new ≡ old ++ rest)

-- the configuration is in the old list, or this holds of it
abbrev pub IsOldOr : List Held → (Configuration → Type 0) → Configuration → Type 0
IsOldOr old Holds d = Has old d ⊎ Holds d

-- this holds of one of the list and the configuration
abbrev pub HoldsOfOne
    : (Configuration → Configuration → Type 0) → List Held → Configuration → Type 0
HoldsOfOne Holds set d = (c : Configuration) × Has set c × Holds c d

-- ---- calls that take effect
-- the second is the first after this many open calls that write took effect
abbrev pub TakeMany : ℕ → Configuration → Configuration → Type 0
TakeMany zero c d = d ≡ c
TakeMany (suc n) c d = (e : Configuration) × TakesOne c e × TakeMany n e d

abbrev pub TakeSome : Configuration → Configuration → Type 0
TakeSome c d = (n : ℕ) × TakeMany n c d
