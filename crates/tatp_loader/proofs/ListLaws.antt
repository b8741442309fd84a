-- Lists by position: what a front has, what a search over a list says of each element, counts of a front.
use Rattle.std.proofs.Common.{◌≡◌, ℕ, zero, suc, ◌+◌, ◌<◌, ◌≤◌, Bool, true, false, cond, ◌||◌, List, [], ◌∷◌, ◌++◌, length, take, Some, refl, sym, ◌∙◌, ap, arith}
use Rattle.std.specs.Prelude.{slice_get, count_by}
use Rattle.std.specs.List.{list_any}
use Rattle.std.proofs.lemmas.List.Sums.{sum_by_push, sum_by-take-le}

pub front_has : {A : Type 0} (xs : List A) (n i : ℕ) (x : A) → i < n → slice_get xs i ≡ Some x → slice_get (take n xs) i ≡ Some x
front_has [] n i x lt e = cc
front_has (y ∷ xs) zero i x lt e = absurd (omega arith)
front_has (y ∷ xs) (suc n) zero x lt e = e
front_has (y ∷ xs) (suc n) (suc i) x lt e = front_has xs n i x (omega arith) e

pub in_front : {A : Type 0} (xs : List A) (n i : ℕ) (x : A) → slice_get (take n xs) i ≡ Some x → (i < n) × (slice_get xs i ≡ Some x)
in_front xs zero i x e = cc
in_front [] (suc n) i x e = cc
in_front (y ∷ xs) (suc n) zero x e = (omega arith, e)
in_front (y ∷ xs) (suc n) (suc i) x e = let r = in_front xs n i x e in (omega (arith, r.0), r.1)

pub none_passes : {A : Type 0} (f : A → Bool) (xs : List A) (i : ℕ) (x : A) → list_any f xs ≡ false → slice_get xs i ≡ Some x → f x ≡ false
none_passes f [] i x h e = cc
none_passes f (y ∷ xs) zero x h e =
    let same : y ≡ x = cc in
    elim (f y) as (λ b. f y ≡ b → (b || list_any f xs) ≡ false → f x ≡ false) [
      | true ↦ λ is all. absurd cc
      | false ↦ λ is all. sym (ap f same) ∙ is
    ] refl h
none_passes f (y ∷ xs) (suc i) x h e =
    none_passes f xs i x (elim (f y) as (λ b. (b || list_any f xs) ≡ false → list_any f xs ≡ false) [ true ↦ λ all. absurd cc | false ↦ λ all. all ] h) e

pub no_pass : {A : Type 0} (f : A → Bool) (xs : List A) → ((i : ℕ) (x : A) → slice_get xs i ≡ Some x → f x ≡ false) → list_any f xs ≡ false
no_pass f [] each = refl
no_pass f (y ∷ xs) each = ap (λ b. b || list_any f xs) (each 0 y refl) ∙ no_pass f xs (λ i x e. each (suc i) x e)

-- one more element of the front is counted where it passes
count-front : {A : Type 0} (f : A → Bool) (xs : List A) (i : ℕ) (x : A) → slice_get xs i ≡ Some x → take (suc i) xs ≡ take i xs ++ x ∷ []
count-front f [] i x e = cc
count-front f (y ∷ xs) zero x e = let same : y ≡ x = cc in ap (λ z. z ∷ []) same
count-front f (y ∷ xs) (suc i) x e = ap (λ more. y ∷ more) (count-front f xs i x e)

pub count_more : {A : Type 0} (f : A → Bool) (xs : List A) (i : ℕ) (x : A) → slice_get xs i ≡ Some x → count_by f (take (suc i) xs) ≡ count_by f (take i xs) + cond (f x) 1 0
count_more f xs i x e = ap (count_by f) (count-front f xs i x e) ∙ sum_by_push (λ y. cond (f y) 1 0) (take i xs) x

some_at : {A : Type 0} (xs : List A) (i : ℕ) → i < length xs → (x : A) × (slice_get xs i ≡ Some x)
some_at [] i lt = absurd (omega arith)
some_at (y ∷ xs) zero lt = (y, refl)
some_at (y ∷ xs) (suc i) lt = some_at xs i (omega arith)

-- where each that passes stands after fewer than so many, there are no more
pub count_within : {A : Type 0} (f : A → Bool) (most : ℕ) (xs : List A) → ((i : ℕ) (x : A) → slice_get xs i ≡ Some x → f x ≡ true → count_by f (take i xs) < most) → (n : ℕ) → n ≤ length xs → count_by f (take n xs) ≤ most
count_within f most xs each zero le = omega arith
count_within f most xs each (suc n) le =
    let here = some_at xs n (omega arith) in
    elim (f here.0) as (λ b. f here.0 ≡ b → count_by f (take (suc n) xs) ≤ most) [
      | true ↦ λ is. omega (arith, count_more f xs n here.0 here.1, ap (λ b. cond {A = ℕ} b 1 0) is, each n here.0 here.1 is)
      | false ↦ λ is. omega (arith, count_more f xs n here.0 here.1, ap (λ b. cond {A = ℕ} b 1 0) is, count_within f most xs each n (omega arith))
    ] refl

-- where there are no more than so many, each that passes stands after fewer
pub count_before : {A : Type 0} (f : A → Bool) (most : ℕ) (xs : List A) → count_by f xs ≤ most → (i : ℕ) (x : A) → slice_get xs i ≡ Some x → f x ≡ true → count_by f (take i xs) < most
count_before f most xs few i x e is =
    omega (arith, count_more f xs i x e, ap (λ b. cond {A = ℕ} b 1 0) is, sum_by-take-le (λ y. cond (f y) 1 0) xs (suc i), few)
