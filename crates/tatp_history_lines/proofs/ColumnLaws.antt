-- Columns at places.
use Rattle.std.proofs.Common.{◌≡◌, ℕ, zero, suc, ◌+◌, ◌<◌, ◌≤◌, ◌∙◌, ap, replicate, refl, arith, Some, None, slice_get}
use Rattle.std.proofs.lemmas.List.{length-replicate}
use Rattle.std.proofs.lemmas.List.FromFn.{length-range_with_len}
use Rattle.std.proofs.lemmas.Option.{slice_get_past}
use Rattle.std.specs.List.{range_with_len}

pub run_at : (first n place : ℕ) → place < n → slice_get (range_with_len first n) place ≡ Some (first + place)
run_at first zero place h = absurd (omega (arith, h))
run_at first (suc n) zero h = ap Some (omega arith)
run_at first (suc n) (suc place) h = run_at (first + 1) n place (omega (arith, h)) ∙ ap Some (omega arith)

pub run_past : (first n place : ℕ) → n ≤ place → slice_get (range_with_len first n) place ≡ None
run_past first n place h = slice_get_past (range_with_len first n) place (omega (arith, h, length-range_with_len first n))

pub copies_at : (n c place : ℕ) → place < n → slice_get (replicate n c) place ≡ Some c
copies_at zero c place h = absurd (omega (arith, h))
copies_at (suc n) c zero h = refl
copies_at (suc n) c (suc place) h = copies_at n c place (omega (arith, h))

pub copies_past : (n c place : ℕ) → n ≤ place → slice_get (replicate n c) place ≡ None
copies_past n c place h = slice_get_past (replicate n c) place (omega (arith, h, length-replicate n c))
