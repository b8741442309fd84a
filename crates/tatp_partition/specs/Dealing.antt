-- The extents of a database are dealt to its partitions.
use Rattle.std.specs.Prelude.{◌≡◌, ◌==◌, ◌-◌, ◌%◌, ℕ, Bool, List, length, filter, Some, slice_get, slice_set}
use Rattle.tatp_encoding.specs.Modules.{ModuleState}
use Rattle.tatp_extents.specs.Extents.{ExtentState}
use Rattle.tatp_partition.specs.Opening.{opened_site}
use Rattle.tatp_partition.specs.Moving.{with_extent}
use Rattle.tatp_partition.specs.Sites.{SiteState}
use Rattle.tatp_partition.specs.Sound.{IsSite}

-- the partition in which extent e opens: the extents are dealt to the partitions in turn
abbrev pub opening_partition : ℕ → ℕ → ℕ
opening_partition partitions e = (e - 1) % partitions

-- whether an extent opens in partition p
abbrev pub opens_in : ℕ → ℕ → ExtentState → Bool
opens_in partitions p x = opening_partition partitions x.number == p

-- those of these extents that open in partition p
abbrev pub dealt_to : ℕ → ℕ → List ExtentState → List ExtentState
dealt_to partitions p extents = filter (opens_in partitions p) extents

-- the site of partition p, just opened with slots for all extents, and with those of these that
-- were dealt to it
pub record IsSiteDealt
    (modul : ModuleState) (partitions p total : ℕ) (extents : List ExtentState)
    (s : SiteState)
    : Type 0 where
  pub site : IsSite s
  pub fields : s ≡ opened_site modul p total (dealt_to partitions p extents) s.standard

-- the sites of all partitions, just opened with slots for all extents, and with these
pub record AreSitesDealt
    (modul : ModuleState) (partitions total : ℕ) (extents : List ExtentState)
    (sites : List SiteState)
    : Type 0 where
  pub count : length sites ≡ partitions
  pub each : (p : ℕ) (s : SiteState)
      → slice_get sites p ≡ Some s → IsSiteDealt modul partitions p total extents s

-- the site of partition p, just opened with those of all extents that were dealt to it
abbrev pub IsSiteOpened : ModuleState → ℕ → ℕ → List ExtentState → SiteState → Type 0
IsSiteOpened modul partitions p extents s =
    IsSiteDealt modul partitions p (length extents) extents s

-- the sites of all partitions, just opened with all extents
abbrev pub AreSitesOpened : ModuleState → ℕ → List ExtentState → List SiteState → Type 0
AreSitesOpened modul partitions extents sites =
    AreSitesDealt modul partitions (length extents) extents sites

-- extent x lands at site p
pub record LandsAt (sites : List SiteState) (p : ℕ) (x : ExtentState) (sites' : List SiteState)
    : Type 0 where
  pub before : SiteState
  pub there : slice_get sites p ≡ Some before
  pub site : IsSite (with_extent before x.number (Some x))
  pub after : sites' ≡ slice_set sites p (with_extent before x.number (Some x))
