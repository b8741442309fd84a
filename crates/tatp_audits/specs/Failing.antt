-- Tests on keys, and the least key that a test singles out.
use Rattle.std.specs.Prelude.{◌≡◌, ℕ, Bool, true, false, ◌&&◌, not, nat_le, List, count_by, Option, MatchOption}
use Rattle.std.specs.List.{list_any}
use Rattle.std.specs.Cmp.Lexicographic.{slice_cmp}
use Rattle.std.specs.Ordering.{nat_cmp, is_gt}
use Rattle.tatp_tables.specs.Tuples.{Tuple, same}

-- whether the first key is after the second in the order of keys
abbrev pub is_above : Tuple → Tuple → Bool
is_above a b = is_gt (slice_cmp nat_cmp a b)

-- how often a key occurs in a list
abbrev pub times : List Tuple → Tuple → ℕ
times keys k = count_by (same k) keys

-- whether a key occurs twice
abbrev pub is_twice : List Tuple → Tuple → Bool
is_twice keys k = nat_le 2 (times keys k)

-- whether some row with this key is not right
abbrev pub is_wrong : (Tuple → Bool) → (Tuple → Tuple) → List Tuple → Tuple → Bool
is_wrong right key rows k = list_any (λ row. not (right row) && same k (key row)) rows

-- no key fails
abbrev pub NoneFails : (Tuple → Bool) → Type 0
NoneFails fails = (k : Tuple) → fails k ≡ false

-- the key fails, and is after no other that does
abbrev pub IsLeast : (Tuple → Bool) → Tuple → Type 0
IsLeast fails k =
    (fails k ≡ true) × ((other : Tuple) → fails other ≡ true → is_above k other ≡ false)

-- the least key that fails, or none where none does
abbrev pub Finds : (Tuple → Bool) → Option Tuple → Type 0
Finds fails found = MatchOption found (NoneFails fails) (IsLeast fails)
