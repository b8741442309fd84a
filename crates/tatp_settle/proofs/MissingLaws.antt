-- The extents that are missing: what a search by number finds.
use Rattle.std.proofs.Common.{◌≡◌, ℕ, ◌+◌, ◌<◌, ◌≤◌, List, [], Option, Some, None, arith}
use Rattle.std.specs.Option.{IfNone, IfSome, MatchOption}
use Rattle.tatp_settle.specs.CallPlaces.{IsFirstNumber}
use Rattle.tatp_extents.specs.Extents.{ExtentState}
use Rattle.tatp_extents.specs.Chapters.{ChapterState}
use Rattle.tatp_partition.specs.Sites.{SiteState}
use Rattle.tatp_settle.specs.Closings.{ClosedState, closed_of, greatest_place, times_standing, IsMissing}
use Rattle.tatp_settle.specs.Settlements.{IsLeastMissing}

-- what the search of the numbers up to the greatest place finds
pub missing_first : (c : ClosedState) (greatest : ℕ) (r : Option ℕ) → greatest ≡ greatest_place c
    → MatchOption r ((k : ℕ) → 0 ≤ k → k < greatest + 1 → times_standing c k ≡ 0 → ⊥) (λ e. (0 ≤ e) × (e < greatest + 1) × (times_standing c e ≡ 0) × ((k : ℕ) → 0 ≤ k → k < e → times_standing c k ≡ 0 → ⊥))
    → IsFirstNumber (IsMissing c) r
missing_first c greatest None is none = λ e missing. let within = missing.within in none e (omega arith) (omega (arith, is, within)) missing.nowhere
missing_first c greatest (Some e) is found = let within = found.1 in (record { within = omega (arith, is, within); nowhere = found.2 }, λ k l missing. found.3 k (omega arith) l missing.nowhere)

pub missing_some : (c : ClosedState) (r : Option ℕ) → IsFirstNumber (IsMissing c) r → IfSome r (IsLeastMissing c)
missing_some c None first = tt
missing_some c (Some e) first = record { missing = first.0; least = first.1 }

pub missing_none : (c : ClosedState) (r : Option ℕ) → IsFirstNumber (IsMissing c) r → IfNone r ((e : ℕ) → IsMissing c e → ⊥)
missing_none c None first = first
missing_none c (Some e) first = tt

-- what is missing of sites and parcels is so whatever chapters came
missing_with : (sites : List SiteState) (parcels : List ExtentState) (chapters : List ChapterState) (e : ℕ) → IsMissing (closed_of sites parcels []) e → IsMissing (closed_of sites parcels chapters) e
missing_with sites parcels chapters e missing = record { within = missing.within; nowhere = missing.nowhere }

pub missing_without : (sites : List SiteState) (parcels : List ExtentState) (chapters : List ChapterState) (e : ℕ) → IsMissing (closed_of sites parcels chapters) e → IsMissing (closed_of sites parcels []) e
missing_without sites parcels chapters e missing = record { within = missing.within; nowhere = missing.nowhere }

pub least_with : (sites : List SiteState) (parcels : List ExtentState) (chapters : List ChapterState) (e : ℕ) → IsLeastMissing (closed_of sites parcels []) e → IsLeastMissing (closed_of sites parcels chapters) e
least_with sites parcels chapters e h = record {
  missing = missing_with sites parcels chapters e h.missing;
  least = λ other sooner missing. h.least other sooner (missing_without sites parcels chapters other missing);
}
