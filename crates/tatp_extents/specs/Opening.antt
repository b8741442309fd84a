-- The extents that clean rows are opened into.
use Rattle.std.specs.Prelude.{ℕ, ◌+◌, ◌*◌, ◌-◌, ◌/◌, ◌<◌, ◌≤◌, min, false, List, [], map, length}
use Rattle.std.specs.List.{range_with_len}
use Rattle.tatp_limits.specs.declared.limits.TheConstants.{EXTENT_SUBSCRIBERS, MAX_SUBSCRIBERS}
use Rattle.tatp_tables.specs.Database.{Database}
use Rattle.tatp_tables.specs.Clean.{IsClean}
use Rattle.tatp_homes.specs.Home.{SubscriberRows}
use Rattle.tatp_homes.specs.Loading.{homes_in}
use Rattle.tatp_tables.specs.declared.row.Rows.{Rows}
use Rattle.tatp_audits.specs.Audits.{IsVerdict}
use Rattle.tatp_extents.specs.Extents.{ExtentState, first_subscriber}
use Rattle.tatp_extents.specs.declared.open_error.OpenError.{OpenError}
use Rattle.tatp_extents.specs.declared.open_error.OpenError.TheVariants.{TooMany, NotClean, NoMemory}

-- the last subscriber of extent e, of n in all
abbrev pub last_subscriber : ℕ → ℕ → ℕ
last_subscriber n e = min (EXTENT_SUBSCRIBERS * e) n

-- how many extents n subscribers make
abbrev pub extent_count : ℕ → ℕ
extent_count n = (n + (EXTENT_SUBSCRIBERS - 1)) / EXTENT_SUBSCRIBERS

-- the homes of extent e in a database of n subscribers
abbrev pub homes_of_extent : Database → ℕ → ℕ → List SubscriberRows
homes_of_extent u n e =
    homes_in u (first_subscriber e) (last_subscriber n e + 1 - first_subscriber e)

-- an extent that was just opened
abbrev pub opened_extent : ℕ → List SubscriberRows → ExtentState
opened_extent e homes = record {
  number = e;
  moves = 0;
  mixed = false;
  chapters = 0;
  kept_stamp = 0;
  opening = homes;
  homes = homes;
  log = [];
}

-- the extents of a database of n subscribers, just opened, in order
abbrev pub opened_extents : Database → ℕ → List ExtentState
opened_extents u n =
    map (λ e. opened_extent e (homes_of_extent u n e)) (range_with_len 1 (extent_count n))

-- why rows aren't opened
abbrev pub RefusesRows : Rows → OpenError → Type 0
RefusesRows r TooMany = MAX_SUBSCRIBERS < length r.subscribers
RefusesRows r (NotClean verdict) =
    (length r.subscribers ≤ MAX_SUBSCRIBERS) × IsVerdict r verdict × (IsClean r → ⊥)
RefusesRows r NoMemory = length r.subscribers ≤ MAX_SUBSCRIBERS
