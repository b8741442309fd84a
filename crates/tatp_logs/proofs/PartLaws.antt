-- A part of a list is the same part of a longer one.
use Rattle.std.proofs.Common.{◌≡◌, ℕ, ◌+◌, ◌-◌, ◌≤◌, List, ◌++◌, length, take, drop, slice_range, ◌∙◌, ap, arith}
use Rattle.std.proofs.lemmas.List.{drop-append-le, take-append-le, length-drop}

pub part_of_more : (xs more : List ℕ) (first count : ℕ) → first + count ≤ length xs → slice_range (xs ++ more) first (first + count) ≡ slice_range xs first (first + count)
part_of_more xs more first count within =
    ap (take (first + count - first)) (drop-append-le first xs more (omega arith))
    ∙ take-append-le (first + count - first) (drop first xs) more (omega (arith, length-drop first xs))
