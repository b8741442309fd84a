-- The causes that concern an extent, as tests.
use Rattle.std.specs.Prelude.{ℕ, ◌==◌, ◌&&◌, ◌||◌, ◌≤◌, Bool, false}
use Rattle.std.specs.Option.{option_map_or}
use Rattle.tatp_extents.specs.Extents.{ExtentState}
use Rattle.tatp_partition.specs.Sites.{slot}
use Rattle.tatp_settle.specs.declared.extents.ExtentCause.{ExtentCause}
use Rattle.tatp_settle.specs.declared.extents.ExtentCause.TheVariants.{IsAsMixed, InParcel, StandsTwice}
use Rattle.tatp_settle.specs.Closings.{ClosedSiteState, times_standing}
use Rattle.tatp_settle.specs.Runs.{Run}
use Rattle.tatp_settle.specs.Causes.{IsMixed, IsInParcel}

-- whether a log of this number that is mixed was at the site
abbrev pub mixed_here : ClosedSiteState → ℕ → Bool
mixed_here s e =
    ((e == 0) && ((s.partition == 0) && s.homeless.mixed))
    || option_map_or (λ (x : ExtentState). x.mixed) (slot s.slots e) false

-- whether the extent has this number and is mixed
abbrev pub mixed_as : ℕ → ExtentState → Bool
mixed_as e x = (x.number == e) && x.mixed

-- the cause holds of the extent of this number
abbrev pub IsExtentCause : ExtentCause → Run → ℕ → Type 0
IsExtentCause IsAsMixed run e = IsMixed run.closed e
IsExtentCause InParcel run e = IsInParcel run.closed e
IsExtentCause StandsTwice run e = 2 ≤ times_standing run.closed e
