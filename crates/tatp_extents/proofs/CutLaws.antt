-- Ranges, and lists cut into pieces as long as an extent.
use Rattle.std.specs.Prelude.{◌≡◌, ℕ, zero, suc, ◌+◌, ◌*◌, ◌-◌, ◌≤◌, min, List, ◌∷◌, ◌++◌, map, take, drop, length}
use Rattle.std.specs.List.{range_with_len, flat_map}
use Rattle.std.proofs.Common.{refl, ap, sym, ◌∙◌, arith}
use Rattle.std.proofs.Math.Seq.{take-add}
use Rattle.std.proofs.lemmas.List.{drop-drop, take_all}
use Rattle.tatp_limits.specs.declared.limits.TheConstants.{EXTENT_SUBSCRIBERS}
use Rattle.tatp_extents.specs.Opening.{extent_count}

-- ---- lists over a range
pub map-from : {X : Type 0} (f g : ℕ → X) (a n : ℕ) → ((e : ℕ) → a ≤ e → f e ≡ g e) → map f (range_with_len a n) ≡ map g (range_with_len a n)
map-from f g a zero h = refl
map-from f g a (suc n) h = λ i. h a (omega arith) i ∷ map-from f g (a + 1) n (λ e l. h e (omega arith)) i

pub drop-range : (k a n : ℕ) → drop k (range_with_len a n) ≡ range_with_len (a + k) (n - k)
drop-range zero a n = let e : a ≡ a + 0 = omega arith in let m : n ≡ n - 0 = omega arith in λ i. range_with_len (e i) (m i)
drop-range (suc k) a zero = let m : 0 ≡ 0 - suc k = omega arith in ap (range_with_len (a + suc k)) m
drop-range (suc k) a (suc n) =
    let e : a + 1 + k ≡ a + suc k = omega arith in let m : n - k ≡ suc n - suc k = omega arith in
    drop-range k (a + 1) n ∙ (λ i. range_with_len (e i) (m i))

pub take-range : (k a n : ℕ) → take k (range_with_len a n) ≡ range_with_len a (min k n)
take-range zero a n = let m : 0 ≡ min 0 n = omega arith in ap (range_with_len a) m
take-range (suc k) a zero = let m : 0 ≡ min (suc k) 0 = omega arith in ap (range_with_len a) m
take-range (suc k) a (suc n) =
    let m : suc (min k n) ≡ min (suc k) (suc n) = omega arith in
    ap (λ more. a ∷ more) (take-range k (a + 1) n) ∙ ap (range_with_len a) m

-- ---- pieces as long as an extent
-- piece e of a list, the pieces being numbered from 1
abbrev pub piece : {X : Type 0} → List X → ℕ → List X
piece xs e = take EXTENT_SUBSCRIBERS (drop (EXTENT_SUBSCRIBERS * (e - 1)) xs)

-- n pieces from piece e on, one after another
pieces_from : {X : Type 0} (xs : List X) (e n : ℕ) → 1 ≤ e → flat_map (piece xs) (range_with_len e n) ≡ take (EXTENT_SUBSCRIBERS * n) (drop (EXTENT_SUBSCRIBERS * (e - 1)) xs)
pieces_from xs e zero h = refl
pieces_from xs e (suc n) h =
    let next : EXTENT_SUBSCRIBERS * (e + 1 - 1) ≡ EXTENT_SUBSCRIBERS * (e - 1) + EXTENT_SUBSCRIBERS = omega arith in
    let all : EXTENT_SUBSCRIBERS + EXTENT_SUBSCRIBERS * n ≡ EXTENT_SUBSCRIBERS * suc n = omega arith in
    ap (λ more. piece xs e ++ more) (pieces_from xs (e + 1) n (omega arith) ∙ ap (λ k. take (EXTENT_SUBSCRIBERS * n) (drop k xs)) next ∙ ap (take (EXTENT_SUBSCRIBERS * n)) (sym (drop-drop EXTENT_SUBSCRIBERS (EXTENT_SUBSCRIBERS * (e - 1)) xs)))
    ∙ sym (take-add EXTENT_SUBSCRIBERS (EXTENT_SUBSCRIBERS * n) (drop (EXTENT_SUBSCRIBERS * (e - 1)) xs))
    ∙ ap (λ k. take k (drop (EXTENT_SUBSCRIBERS * (e - 1)) xs)) all

-- all pieces, one after another, are the list
pub all_pieces : {X : Type 0} (xs : List X) → flat_map (piece xs) (range_with_len 1 (extent_count (length xs))) ≡ xs
all_pieces xs = pieces_from xs 1 (extent_count (length xs)) (omega arith) ∙ take_all (EXTENT_SUBSCRIBERS * extent_count (length xs)) xs (omega arith)
