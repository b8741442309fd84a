-- Configurations that one stands for: open calls that were overwritten may be left out.
use Rattle.std.specs.Prelude.{◌≡◌, ℕ, ◌<◌, ◌≤◌, ◌⊎◌, List, [], ◌∷◌, length, Option, Some, None, slice_get}
use Rattle.std.specs.List.{AllByRecursion}
use Rattle.tatp_homes.specs.Changes.{cell}
use Rattle.tatp_history.specs.declared.event.Event.{Event}
use Rattle.tatp_history.specs.declared.event.Event.TheVariants.{Asks, Ends}
use Rattle.tatp_history.specs.declared.observed.Observed.{Observed}
use Rattle.tatp_history.specs.Histories.{AreAskedApart}
use Rattle.tatp_history.specs.Locality.{AreAccepted}
use Rattle.tatp_history.specs.JustInTime.{NoneAskedAt}
use Rattle.tatp_history.specs.Configurations.{Configuration}
use Rattle.tatp_linearization.specs.declared.configuration.Configuration.{Configuration as Held}
use Rattle.tatp_linearization.specs.AtOnce.{IsSettled, FollowsAtOnce}
use Rattle.tatp_linearization.specs.Possible.{CallsTakeEffect}
use Rattle.tatp_linearization.specs.Held.{seen}
use Rattle.tatp_linearization.specs.Overwritten.{IsBlind, AreButSome}

-- the configuration is the one that is held, without some of its calls that were overwritten
pub record StandsFor (c : Held) (d : Configuration) : Type 0 where
  pub rows : d.rows ≡ c.home.tables
  pub opened : AreButSome (IsBlind c.home.tables) c.overwritten c.opened.items d.opened

-- one of these stands for it
abbrev pub OneStandsFor : List Held → Configuration → Type 0
OneStandsFor [] d = ⊥
OneStandsFor (c ∷ cs) d = StandsFor c d ⊎ OneStandsFor cs d

-- the first stands for each for which the second does
abbrev pub Covers : Held → Held → Type 0
Covers c d = (e : Configuration) → StandsFor d e → StandsFor c e

-- the location of the configuration's subscriber
abbrev pub own_location : Held → Option ℕ
own_location c = cell c.home.tables 33 (c.home.s_id ∷ 0 ∷ 0 ∷ [])

-- they aren't alike, or less may be left out of the first
abbrev pub IsOther : Held → Held → Type 0
IsOther c d = c.home.s_id ≡ d.home.s_id → seen c ≡ seen d → d.overwritten ≤ c.overwritten → ⊥

-- none of these is alike, where no less may be left out of it
abbrev pub AreOther : List Held → Held → Type 0
AreOther set d = (i : ℕ) (c : Held) → slice_get set i ≡ Some c → IsOther c d

-- one of these stands for each configuration for which `d` does
abbrev pub AreCovered : List Held → Held → Type 0
AreCovered set d = (e : Configuration) → StandsFor d e → OneStandsFor set e

-- the open calls at two places are the same, and where the second may be left out the first may
pub record IsKept (c : Held) (i : ℕ) (d : Held) (j : ℕ) : Type 0 where
  pub call : Observed
  pub inside : j < length d.opened.items
  pub first : slice_get c.opened.items i ≡ Some call
  pub second : slice_get d.opened.items j ≡ Some call
  pub early : call.asked < d.overwritten → IsBlind c.home.tables call
      → call.asked < c.overwritten

-- a call was asked at this time, and is open
abbrev pub Opens : ℕ → Configuration → Type 0
Opens asked d = NoneAskedAt asked d.opened → ⊥

-- no two of the open calls were asked at one time
abbrev pub IsApart : Held → Type 0
IsApart c = AreAskedApart c.opened.items

abbrev pub AreEachApart : List Held → Type 0
AreEachApart set = AllByRecursion IsApart set

-- the call that is asked at the event is asked after those that are open
abbrev pub IsLater : Event → Held → Type 0
IsLater (Asks x) c = AllByRecursion (λ (z : Observed). z.asked < x.asked) c.opened.items
IsLater (Ends asked at) c = Unit {0}

abbrev pub AreEachLater : Event → List Held → Type 0
AreEachLater event set = AllByRecursion (IsLater event) set

-- a call that ends may be dropped, as one that took effect before: the second configuration is the
-- first without it. Where there is no second, the call still has to take effect
abbrev pub IsLetGo : ℕ → Held → Option Held → Type 0
IsLetGo asked c (Some d) =
    Covers c d × (d.home.s_id ≡ c.home.s_id)
    × (AreAccepted c.opened.items → AreAccepted d.opened.items)
    × (IsApart c → NoneAskedAt asked d.opened.items)
    × ((e : Configuration) → StandsFor c e → NoneAskedAt asked e.opened → StandsFor d e)
IsLetGo asked c None =
    Opens asked (seen c) → (e : Configuration) → StandsFor c e → Opens asked e

-- ---- what becomes of one
-- `Holds` relates some configuration for which `c` stands to this one
abbrev pub From : (Configuration → Configuration → Type 0) → Held → Configuration → Type 0
From Holds c d = (e : Configuration) × StandsFor c e × Holds e d

abbrev pub FromOne
    : (Configuration → Configuration → Type 0) → List Held → Configuration → Type 0
FromOne Holds set d = (e : Configuration) × OneStandsFor set e × Holds e d

-- open calls take effect, and then no read is open whose reply fits
pub record MayCome (c d : Configuration) : Type 0 where
  pub calls : (n : ℕ) × CallsTakeEffect n c d
  pub settled : IsSettled c → IsSettled d

-- what may come before the end of the call that was asked at this time
abbrev pub MayAnswer : ℕ → Configuration → Configuration → Type 0
MayAnswer asked c d = MayCome c d × NoneAskedAt asked d.opened

-- the second may follow on the first at the event; before an end, open calls may take effect
abbrev pub MayFollow : Event → Configuration → Configuration → Type 0
MayFollow (Asks x) c d = FollowsAtOnce (Asks x) c d
MayFollow (Ends asked at) c d = MayAnswer asked c d

-- what is tried at an event
abbrev pub MayBeTried : Event → Configuration → Configuration → Type 0
MayBeTried (Asks x) c d = FollowsAtOnce (Asks x) c d
MayBeTried (Ends asked at) c d = MayCome c d

-- ---- lists of them
-- one of the old list stands for the configuration, or this holds of it
abbrev pub IsRepresentedOr : List Held → (Configuration → Type 0) → Configuration → Type 0
IsRepresentedOr old Holds d = OneStandsFor old d ⊎ Holds d

-- the new list stands for all for which the old one does, and for each of which `Has` holds; for
-- no others but some of which `May` holds
pub record Gains (May Has : Configuration → Type 0) (old new : List Held) : Type 0 where
  pub kept : (d : Configuration) → OneStandsFor old d → OneStandsFor new d
  pub sound : (d : Configuration) → OneStandsFor new d → IsRepresentedOr old May d
  pub found : (d : Configuration) → Has d → OneStandsFor new d

-- the homes are of this s_id
abbrev pub AreOf : ℕ → List Held → Type 0
AreOf s set = AllByRecursion (λ (c : Held). c.home.s_id ≡ s) set

-- ---- a call that may have taken effect
-- it stands for a configuration in which the call isn't open
pub record IsGone (asked : ℕ) (c : Held) (d : Configuration) : Type 0 where
  pub apart : IsApart c
  pub stands : StandsFor c d
  pub none : NoneAskedAt asked d.opened

abbrev pub GainsGone : ℕ → Held → List Held → List Held → Type 0
GainsGone asked c old new = Gains (From (MayAnswer asked) c) (IsGone asked c) old new
