-- Places in lists.
use Rattle.std.proofs.Common.{◌≡◌, ℕ, zero, suc, ◌<◌, ◌≤◌, ◌⊎◌, ◌+◌, true, false, nat_lt, ltb-true, ltb-false, List, [], ◌∷◌, ◌++◌, take, drop, length, Some, get_or, slice_get, remove, refl, sym, ◌∙◌, ap, subst, arith, inl, inr}
use Rattle.std.specs.List.{AllByRecursion}
use Rattle.tatp_history.specs.declared.observed.Observed.{Observed}
use Rattle.tatp_history.specs.JustInTime.{Chooses}

pub get_at : {X : Type 0} (xs : List X) (i : ℕ) (x : X) → i < length xs → x ≡ get_or xs i x → slice_get xs i ≡ Some x
get_at [] i x lt e = absurd (omega (arith, lt))
get_at (y ∷ ys) zero x lt e = ap Some (sym e)
get_at (y ∷ ys) (suc i) x lt e = get_at ys i x (omega (arith, lt)) e

pub all_get : {X : Type 0} (P : X → Type 0) (xs : List X) (i : ℕ) (x : X) → AllByRecursion P xs → slice_get xs i ≡ Some x → P x
all_get P [] i x h e = absurd cc
all_get P (y ∷ ys) zero x h e = let is : y ≡ x = cc in subst P is h.0
all_get P (y ∷ ys) (suc i) x h e = all_get P ys i x h.1 e

pub all_of_get : {X : Type 0} (P : X → Type 0) (xs : List X) → ((i : ℕ) (x : X) → slice_get xs i ≡ Some x → P x) → AllByRecursion P xs
all_of_get P [] f = tt
all_of_get P (y ∷ ys) f = (f 0 y refl, all_of_get P ys (λ i x e. f (suc i) x e))

pub all_remove : {X : Type 0} (P : X → Type 0) (xs : List X) (i : ℕ) → AllByRecursion P xs → AllByRecursion P (remove xs i)
all_remove P [] zero h = tt
all_remove P [] (suc i) h = tt
all_remove P (y ∷ ys) zero h = h.1
all_remove P (y ∷ ys) (suc i) h = (h.0, all_remove P ys i h.1)

pub take_more : {X : Type 0} (xs : List X) (i : ℕ) (x : X) → slice_get xs i ≡ Some x → take (i + 1) xs ≡ take i xs ++ x ∷ []
take_more {X = X} xs i x at = subst (λ n. take n xs ≡ take i xs ++ x ∷ []) next (more xs i at)
  where
    next : suc i ≡ i + 1
    next = omega arith

    more : (ys : List X) (j : ℕ) → slice_get ys j ≡ Some x → take (suc j) ys ≡ take j ys ++ x ∷ []
    more [] j h = absurd cc
    more (y ∷ ys) zero h = let is : y ≡ x = cc in ap (λ v. v ∷ []) is
    more (y ∷ ys) (suc j) h = ap (λ vs. y ∷ vs) (more ys j h)

-- lists that are alike up to a place
pub alike_more : {X : Type 0} (xs ys : List X) (i : ℕ) (x y : X) → slice_get xs i ≡ Some x → slice_get ys i ≡ Some y → x ≡ y → take i xs ≡ take i ys → take (i + 1) xs ≡ take (i + 1) ys
alike_more xs ys i x y at at' e alike = take_more xs i x at ∙ ((λ k. alike k ++ e k ∷ []) ∙ sym (take_more ys i y at'))

pub chooses_at : (xs : List Observed) (i : ℕ) (x : Observed) → slice_get xs i ≡ Some x → Chooses xs x (remove xs i)
chooses_at [] i x e = absurd cc
chooses_at (y ∷ ys) zero x e = let is : y ≡ x = cc in inl (sym is, refl)
chooses_at (y ∷ ys) (suc i) x e = inr (remove ys i, refl, chooses_at ys i x e)

pub at_chooses : (xs : List Observed) (x : Observed) (rest : List Observed) → Chooses xs x rest → (i : ℕ) × (i < length xs) × (slice_get xs i ≡ Some x) × (rest ≡ remove xs i)
at_chooses [] x rest c = absurd c
at_chooses (y ∷ ys) x rest c = elim c [
  | inl p ↦ (0, omega arith, ap Some (sym p.0), p.1)
  | inr p ↦ let r = at_chooses ys x p.0 p.2 in let lt = r.1 in (suc r.0, omega (arith, lt), r.2, p.1 ∙ ap (λ zs. y ∷ zs) r.3)
]

pub same_item : {X : Type 0} (xs : List X) (i : ℕ) (x y : X) → slice_get xs i ≡ Some x → slice_get xs i ≡ Some y → x ≡ y
same_item xs i x y e f = let h : Some x ≡ Some y = sym e ∙ f in cc

-- ---- a list up to a place, and from it on
pub drop_at : {X : Type 0} (xs : List X) (i : ℕ) (x : X) → slice_get xs i ≡ Some x → drop i xs ≡ x ∷ drop (suc i) xs
drop_at [] i x e = absurd cc
drop_at (y ∷ ys) zero x e = let is : y ≡ x = cc in ap (λ z. z ∷ ys) is
drop_at (y ∷ ys) (suc i) x e = drop_at ys i x e

pub take_at : {X : Type 0} (xs : List X) (i : ℕ) (x : X) (rest : List X) → slice_get xs i ≡ Some x → take (suc i) xs ++ rest ≡ take i xs ++ x ∷ rest
take_at [] i x rest e = absurd cc
take_at (y ∷ ys) zero x rest e = let is : y ≡ x = cc in ap (λ z. z ∷ rest) is
take_at (y ∷ ys) (suc i) x rest e = ap (λ zs. y ∷ zs) (take_at ys i x rest e)

pub remove_at : {X : Type 0} (xs : List X) (i : ℕ) (x : X) (rest : List X) → i ≤ length xs → remove (take i xs ++ x ∷ rest) i ≡ take i xs ++ rest
remove_at xs zero x rest le = refl
remove_at [] (suc i) x rest le = absurd (omega (arith, le))
remove_at (y ∷ ys) (suc i) x rest le = ap (λ zs. y ∷ zs) (remove_at ys i x rest (omega (arith, le)))

pub get_mid : {X : Type 0} (xs : List X) (i : ℕ) (x : X) (rest : List X) → i ≤ length xs → slice_get (take i xs ++ x ∷ rest) i ≡ Some x
get_mid xs zero x rest le = refl
get_mid [] (suc i) x rest le = absurd (omega (arith, le))
get_mid (z ∷ zs) (suc i) x rest le = get_mid zs i x rest (omega (arith, le))

pub get_some : {X : Type 0} (xs : List X) (i : ℕ) → i < length xs → (x : X) × (slice_get xs i ≡ Some x)
get_some [] i lt = absurd (omega (arith, lt))
get_some (y ∷ ys) zero lt = (y, refl)
get_some (y ∷ ys) (suc i) lt = get_some ys i (omega (arith, lt))

pub take_length : {X : Type 0} (xs : List X) (i : ℕ) (rest : List X) → i ≤ length xs → i ≤ length (take i xs ++ rest)
take_length xs zero rest le = omega arith
take_length [] (suc i) rest le = absurd (omega (arith, le))
take_length (y ∷ ys) (suc i) rest le = let more = take_length ys i rest (omega (arith, le)) in omega (arith, more)

pub all_more : {X : Type 0} (P : X → Type 0) (xs : List X) (x : X) → AllByRecursion P xs → P x → AllByRecursion P (xs ++ x ∷ [])
all_more P [] x h k = (k, tt)
all_more P (y ∷ ys) x h k = (h.0, all_more P ys x h.1 k)

pub below_or_is : (j i : ℕ) → j < i + 1 → (j < i) ⊎ (j ≡ i)
below_or_is j i lt = elim (nat_lt j i) as (λ b. nat_lt j i ≡ b → (j < i) ⊎ (j ≡ i)) [
  | true ↦ λ e. inl (ltb-true j i e)
  | false ↦ λ e. let le = ltb-false j i e in inr (omega (arith, lt, le))
] refl
