-- Turns in which open calls take effect before one is answered: each order that leads on from the
-- configurations of before leads on from one of those that result.
use Rattle.std.specs.Prelude.{◌≡◌, ℕ, ◌<◌, ◌≤◌, ◌⊎◌, List, [], ◌∷◌, ◌++◌, length, Option, Some, None, slice_get, remove}
use Rattle.tatp_tables.specs.Database.{Database}
use Rattle.tatp_history.specs.declared.event.Event.{Event}
use Rattle.tatp_history.specs.declared.event.Event.TheVariants.{Asks, Ends}
use Rattle.tatp_history.specs.declared.observed.Observed.{Observed}
use Rattle.tatp_history.specs.Histories.{IsIn}
use Rattle.tatp_history.specs.Locality.{AreAccepted}
use Rattle.tatp_history.specs.JustInTime.{NoneAskedAt}
use Rattle.tatp_history.specs.Configurations.{Configuration}
use Rattle.tatp_linearization.specs.declared.configuration.Configuration.{Configuration as Held}
use Rattle.tatp_linearization.specs.AtOnce.{TakesWrite}
use Rattle.tatp_linearization.specs.Overwritten.{IsBlind, AreButSome}
use Rattle.tatp_linearization.specs.Covering.{StandsFor, OneStandsFor, Opens, IsApart, AreEachApart, AreEachLater, From, FromOne, MayCome, MayFollow, IsRepresentedOr, AreCovered}
use Rattle.tatp_linearization.specs.Going.{LeadsOn, OneLeadsOn}
use Rattle.tatp_linearization.specs.declared.kinds.Kind.{Kind}
use Rattle.tatp_linearization.specs.Kinds.{IsTried}

-- ---- one call takes effect
abbrev pub IsOtherTime : ℕ → Observed → Type 0
IsOtherTime asked x = x.asked ≡ asked → ⊥

-- the configuration is the one that is held, without some of its calls that were overwritten and
-- were not asked at this time
pub record StandsForBut (asked : ℕ) (c : Held) (d : Configuration) : Type 0 where
  pub rows : d.rows ≡ c.home.tables
  pub opened : AreButSome (λ x. IsBlind c.home.tables x × IsOtherTime asked x) c.overwritten
      c.opened.items d.opened

-- the configuration is what the open call at a place makes of one for which this stands, but for
-- some of its calls that were overwritten, of which `Extra` holds too
pub record IsThere (Extra : Observed → Type 0) (c : Held) (i : ℕ) (e : Configuration) : Type 0 where
  pub before : Configuration
  pub call : Observed
  pub left : List Observed
  pub rows : before.rows ≡ c.home.tables
  pub takes : TakesWrite before e call left
  pub at : slice_get c.opened.items i ≡ Some call
  pub opened : AreButSome (λ x. IsBlind c.home.tables x × Extra x) c.overwritten
      (remove c.opened.items i) left

-- fewer calls are open in the second
pub record IsFewer (c d : Held) : Type 0 where
  pub few : length d.opened.items < length c.opened.items
  pub own : d.home.s_id ≡ c.home.s_id
  pub accepted : AreAccepted c.opened.items → AreAccepted d.opened.items
  pub apart : IsApart c → IsApart d

-- calls that take effect lead from the first to the second. Of events of which this is known, each
-- order that leads on from what the open call at the place makes of the first does from the second
pub record TakesOn (Known : List Event → Type 0) (c : Held) (i : ℕ) (d : Held) : Type 0 where
  pub sound : (e : Configuration) → StandsFor d e → From MayCome c e
  pub served : (asked : ℕ) (after : Database) (events : List Event) (e : Configuration)
      → Known events → IsApart c → IsThere (IsOtherTime asked) c i e → LeadsOn after events e
      → (b : Configuration) × StandsForBut asked d b × (length b.opened ≤ length e.opened)
      × LeadsOn after events b
  pub less : IsFewer c d

-- there is such a configuration, or no order of such events leads on
abbrev pub TakesAhead : (List Event → Type 0) → Held → ℕ → Option Held → Type 0
TakesAhead Known c i (Some d) = TakesOn Known c i d
TakesAhead Known c i None =
    (asked : ℕ) (after : Database) (events : List Event) (e : Configuration)
    → Known events → IsThere (IsOtherTime asked) c i e → LeadsOn after events e → ⊥

-- the same for a call of the kind, if one is given, before the end of the call that was asked at
-- this time
abbrev pub TakesTried
    : (List Event → Type 0) → Option Kind → ℕ → Held → ℕ → Option Held → Type 0
TakesTried Known kind asked c i (Some d) = TakesOn Known c i d
TakesTried Known kind asked c i None =
    (at : ℕ) (rest : List Event) (after : Database) (e : Configuration)
    → Known (Ends asked at ∷ rest) → (there : IsThere (IsOtherTime asked) c i e)
    → IsTried kind there.call.call → LeadsOn after (Ends asked at ∷ rest) e → ⊥

-- the call that was asked at this time is of the kind, if one is given
abbrev pub IsKindAt : ℕ → Held → Option Kind → Type 0
IsKindAt asked c kind =
    IsApart c → (x : Observed) → IsIn x c.opened.items → x.asked ≡ asked → IsTried kind x.call

-- ---- lists of them
-- those where the call was answered, those that were tried, and those to be tried in the next turn
pub record Lists : Type 0 where
  pub answered : List Held
  pub tried : List Held
  pub going : List Held

-- an order leads on from one of these in which the call that was asked at this time is open, and
-- fewer calls than this
abbrev pub FewerLeadOn : Database → List Event → ℕ → ℕ → List Held → Type 0
FewerLeadOn after events asked many set =
    (d : Configuration) × OneStandsFor set d × Opens asked d × (length d.opened < many)
    × LeadsOn after events d

-- an order leads on from one where the call was answered, or over its end from one that was tried
abbrev pub LeadsFurther
    : ℕ → ℕ → List Event → ℕ → List Held → List Held → Database → Type 0
LeadsFurther asked at rest many answered tried after =
    OneLeadsOn after rest answered ⊎ FewerLeadOn after (Ends asked at ∷ rest) asked many tried

-- so does each order that leads on from the configuration over the end of the call
abbrev pub IsServed : ℕ → ℕ → List Event → List Held → List Held → Configuration → Type 0
IsServed asked at rest answered tried d =
    (after : Database) → LeadsOn after (Ends asked at ∷ rest) d
    → LeadsFurther asked at rest (length d.opened) answered tried after

-- so does each from every configuration for which `c` stands and in which the call is open
abbrev pub AreServed : ℕ → ℕ → List Event → Held → List Held → List Held → Type 0
AreServed asked at rest c answered tried =
    (d : Configuration) → StandsFor c d → Opens asked d → IsServed asked at rest answered tried d

abbrev pub AreAllServed : ℕ → ℕ → List Event → List Held → List Held → List Held → Type 0
AreAllServed asked at rest set answered tried =
    (d : Configuration) → OneStandsFor set d → Opens asked d
    → IsServed asked at rest answered tried d

-- so does each from all that were tried
abbrev pub AreTriedOut : ℕ → ℕ → List Event → List Held → List Held → Type 0
AreTriedOut asked at rest answered tried = AreAllServed asked at rest tried answered tried

abbrev pub AreTriedOutAt : Event → List Event → List Held → List Held → Type 0
AreTriedOutAt (Asks x) rest answered tried = Unit {0}
AreTriedOutAt (Ends asked at) rest answered tried = AreTriedOut asked at rest answered tried

-- the lists have grown by what this holds of; what is newly tried is to be tried in the next turn
pub record Grow (Holds : Configuration → Type 0) (asked : ℕ) (old new : Lists) : Type 0 where
  pub answers : (d : Configuration) → OneStandsFor old.answered d → OneStandsFor new.answered d
  pub tries : (d : Configuration) → OneStandsFor old.tried d → OneStandsFor new.tried d
  pub goes : (d : Configuration) → OneStandsFor old.going d → OneStandsFor new.going d
  pub answered : (d : Configuration) → OneStandsFor new.answered d
      → IsRepresentedOr old.answered (λ e. Holds e × NoneAskedAt asked e.opened) d
  pub tried : (d : Configuration) → OneStandsFor new.tried d → IsRepresentedOr old.tried Holds d
  pub went : (d : Configuration) → OneStandsFor new.going d → IsRepresentedOr old.going Holds d
  pub next : (d : Configuration) → OneStandsFor new.tried d
      → OneStandsFor old.tried d ⊎ OneStandsFor new.going d

-- each of the new list is of the old one, or has fewer open calls than the configuration
abbrev pub WentFrom : Held → List Held → List Held → Type 0
WentFrom c old new = (k : ℕ) (d : Held) → slice_get new k ≡ Some d
    → ((j : ℕ) × (slice_get old j ≡ Some d)) ⊎ IsFewer c d

-- each of the list has fewer open calls than one of the set
abbrev pub WentFromOne : List Held → List Held → Type 0
WentFromOne set new = (k : ℕ) (d : Held) → slice_get new k ≡ Some d
    → (j : ℕ) × (c : Held) × (slice_get set j ≡ Some c) × IsFewer c d

-- it is to be tried in the next turn, unless others that were tried stand for all for which it does
abbrev pub IsTriedNext : Held → List Held → List Held → List Held → Type 0
IsTriedNext d tried old new = ((new ≡ old) × AreCovered tried d) ⊎ (new ≡ old ++ d ∷ [])

-- ---- at an event
-- each order that leads on over the end of the call, where it is open, leads on from the new list
abbrev pub AreAnswered : ℕ → ℕ → List Event → Held → List Held → Type 0
AreAnswered asked at rest c new =
    (after : Database) (d : Configuration) → StandsFor c d → Opens asked d
    → LeadsOn after (Ends asked at ∷ rest) d → OneLeadsOn after rest new

-- each order that leads on over the event leads on from the new list
abbrev pub AreFollowed : Event → List Event → Held → List Held → Type 0
AreFollowed event rest c new =
    (after : Database) (d : Configuration) → StandsFor c d
    → LeadsOn after (event ∷ rest) d → OneLeadsOn after rest new

-- the new list has what may follow on those of the set, and each order of events of which this is
-- known leads on from it
pub record FollowSet (Known : List Event → Type 0) (event : Event) (set new : List Held)
    : Type 0 where
  pub sound : (d : Configuration) → OneStandsFor new d → FromOne (MayFollow event) set d
  pub found : AreEachApart set → AreEachLater event set
      → (after : Database) (rest : List Event) → Known (event ∷ rest)
      → OneLeadsOn after (event ∷ rest) set → OneLeadsOn after rest new
