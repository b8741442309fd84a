-- Configurations that are possible after events, where open calls take effect at any time; and when
-- these are too many.
use Rattle.std.specs.Prelude.{◌≡◌, ℕ, zero, suc, ◌<◌, if◌then◌else◌, List, [], ◌∷◌, ◌++◌, length}
use Rattle.std.specs.List.{AllByRecursion}
use Rattle.tatp_tables.specs.Database.{Database}
use Rattle.tatp_calls.specs.Transactions.{transaction}
use Rattle.tatp_history.specs.declared.event.Event.{Event}
use Rattle.tatp_history.specs.declared.event.Event.TheVariants.{Asks, Ends}
use Rattle.tatp_history.specs.declared.observed.Observed.{Observed}
use Rattle.tatp_history.specs.Histories.{MayHaveReply}
use Rattle.tatp_history.specs.Outcomes.{may_take_effect}
use Rattle.tatp_history.specs.JustInTime.{Chooses, NoneAskedAt}
use Rattle.tatp_history.specs.Configurations.{Configuration, starting}
use Rattle.tatp_linearization.specs.AtOnce.{IsSettled}

-- the second is the first after one of its open calls took effect
abbrev pub CallTakesEffect : Configuration → Configuration → Type 0
CallTakesEffect c d =
    (x : Observed) × (left : List Observed) × Chooses c.opened x left
    × MayHaveReply x.outcome (transaction x.call c.rows).reply
    × (d ≡ record { rows = (transaction x.call c.rows).database; opened = left })

-- the second is the first after this many of its open calls took effect
abbrev pub CallsTakeEffect : ℕ → Configuration → Configuration → Type 0
CallsTakeEffect zero c d = d ≡ c
CallsTakeEffect (suc n) c d = (e : Configuration) × CallTakesEffect c e × CallsTakeEffect n e d

-- a call is open once it is asked, unless it was aborted; and a call has taken effect by the time
-- at which it is answered
abbrev pub Passes : Event → Configuration → Configuration → Type 0
Passes (Asks x) c d = d ≡ record {
  rows = c.rows;
  opened = if may_take_effect x.outcome then x ∷ c.opened else c.opened;
}
Passes (Ends asked at) c d = NoneAskedAt asked c.opened × (d ≡ c)

-- by these events the first configuration may become the second
abbrev pub MayBecome : List Event → Configuration → Configuration → Type 0
MayBecome [] c d = (n : ℕ) × CallsTakeEffect n c d
MayBecome (event ∷ more) c d =
    (n : ℕ) × (b : Configuration) × CallsTakeEffect n c b
    × (e : Configuration) × Passes event b e × MayBecome more e d

-- ---- too many
abbrev pub AreDistinct : List Configuration → Type 0
AreDistinct [] = Unit {0}
AreDistinct (c ∷ more) =
    AllByRecursion (λ (d : Configuration). c ≡ d → ⊥) more × AreDistinct more

-- this holds of more than `most` configurations
pub record AreMoreThan (most : ℕ) (Holds : Configuration → Type 0) : Type 0 where
  pub some : List Configuration
  pub many : most < length some
  pub distinct : AreDistinct some
  pub hold : AllByRecursion Holds some

-- the configuration is possible after the events, and no open call changes nothing and has a reply
-- that fits
abbrev pub IsPossible : Database → List Event → Configuration → Type 0
IsPossible u past c = MayBecome past (starting u) c × IsSettled c

-- after some first part of the events, more than `most` configurations are possible
abbrev pub NeedMore : ℕ → Database → List Event → Type 0
NeedMore most u events =
    (first : List Event) × (second : List Event) × (events ≡ first ++ second)
    × AreMoreThan most (IsPossible u first)
