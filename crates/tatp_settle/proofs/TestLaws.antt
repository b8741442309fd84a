-- Tests of lists: what they decide, and what is found by them.
use Rattle.std.proofs.Common.{◌≡◌, ℕ, zero, suc, ◌+◌, ◌<◌, ◌||◌, ◌&&◌, nat_le, Bool, true, false, cond, List, [], ◌∷◌, map, length, filter, find, count_by, Option, Some, None, is_some, slice_index_or, refl, sym, ◌∙◌, ap, arith}
use Rattle.std.specs.Bool.{Decides}
use Rattle.std.specs.List.{flat_map, list_any, Contains}
use Rattle.std.specs.Option.{option_to_list, option_map_or}
use Rattle.std.proofs.lemmas.Bool.Decides.{nat_tests}
use Rattle.std.proofs.lemmas.List.Folds.{list_any-append}
use Rattle.tatp_settle.proofs.StandingLaws.{count_cons}

-- an element that passes
abbrev pub Passes : {A : Type 0} → (A → Bool) → List A → Type 0
Passes {A} q xs = (x : A) × Contains xs x × (q x ≡ true)

head_contained : {A : Type 0} (x : A) (xs : List A) → Contains (x ∷ xs) x
head_contained x xs = (0, omega arith, refl)

tail_contained : {A : Type 0} (y x : A) (xs : List A) → Contains xs x → Contains (y ∷ xs) x
tail_contained y x xs h = let l = h.1 in (suc h.0, omega (arith, l), h.2)

passing_one : {A : Type 0} (q : A → Bool) (x : A) (xs : List A) (b : Bool) → (list_any q xs ≡ true → Passes q xs) → q x ≡ b → (b || list_any q xs) ≡ true → Passes q (x ∷ xs)
passing_one q x xs true rest is h = (x, head_contained x xs, is)
passing_one q x xs false rest is h = let r = rest h in (r.0, tail_contained x r.0 xs r.1, r.2)

passing : {A : Type 0} (q : A → Bool) (xs : List A) → list_any q xs ≡ true → Passes q xs
passing q [] h = absurd cc
passing q (x ∷ xs) h = passing_one q x xs (q x) (passing q xs) refl h

or_true : (a b : Bool) → b ≡ true → (a || b) ≡ true
or_true true b h = refl
or_true false b h = h

found : {A : Type 0} (q : A → Bool) (xs : List A) (x : A) (k : ℕ) → k < length xs → slice_index_or xs k x ≡ x → q x ≡ true → list_any q xs ≡ true
found q [] x k l is h = absurd (omega (arith, l))
found q (y ∷ xs) x zero l is h = ap (λ b. b || list_any q xs) (ap q is ∙ h)
found q (y ∷ xs) x (suc k) l is h = or_true (q y) (list_any q xs) (found q xs x k (omega (arith, l)) is h)

pub decides_passes : {A : Type 0} (q : A → Bool) (xs : List A) → Decides (list_any q xs) (Passes q xs)
decides_passes q xs = (passing q xs, λ p. found q xs p.0 p.1.0 p.1.1 p.1.2 p.2)

-- ---- one that passes, and how many do
counted_one : {A : Type 0} (q : A → Bool) (x : A) (xs : List A) (b : Bool) → is_some (find q xs) ≡ nat_le 1 (count_by q xs) → q x ≡ b → is_some (cond b (Some x) (find q xs)) ≡ nat_le 1 (count_by q (x ∷ xs))
counted_one q x xs true rest is = let e : count_by q (x ∷ xs) ≡ 1 + count_by q xs = count_cons q x xs ∙ ap (λ b. cond b 1 0 + count_by q xs) is in grind (arith, nat_tests, e)
counted_one q x xs false rest is =
    let e : count_by q (x ∷ xs) ≡ 0 + count_by q xs = count_cons q x xs ∙ ap (λ b. cond b 1 0 + count_by q xs) is in
    let same : count_by q xs ≡ count_by q (x ∷ xs) = omega (arith, e) in
    rest ∙ ap (λ (n : ℕ). nat_le 1 n) same

-- one is found where one passes
pub found_counted : {A : Type 0} (q : A → Bool) (xs : List A) → is_some (find q xs) ≡ nat_le 1 (count_by q xs)
found_counted q [] = refl
found_counted q (x ∷ xs) = counted_one q x xs (q x) (found_counted q xs) refl

pub none_found : {A : Type 0} (q : A → Bool) (xs : List A) → find q xs ≡ None → count_by q xs ≡ 0
none_found q xs is = let k : false ≡ nat_le 1 (count_by q xs) = ap is_some (sym is) ∙ found_counted q xs in grind (arith, nat_tests, k)

pub some_found : {A : Type 0} (q : A → Bool) (xs : List A) (x : A) → find q xs ≡ Some x → count_by q xs ≡ 0 → ⊥
some_found q xs x is none = let k : true ≡ nat_le 1 (count_by q xs) = ap is_some (sym is) ∙ found_counted q xs in grind (arith, nat_tests, k, none)

-- ---- tests of joined, mapped and filtered lists
pub any_mapped : {A B : Type 0} (q : B → Bool) (f : A → B) (xs : List A) → list_any q (map f xs) ≡ list_any (λ x. q (f x)) xs
any_mapped q f [] = refl
any_mapped q f (x ∷ xs) = ap (λ b. q (f x) || b) (any_mapped q f xs)

filtered_one : {A : Type 0} (r t : A → Bool) (x : A) (xs : List A) (b : Bool) → list_any t (cond b (x ∷ xs) xs) ≡ ((b && t x) || list_any t xs)
filtered_one r t x xs true = refl
filtered_one r t x xs false = refl

pub any_filtered : {A : Type 0} (r t : A → Bool) (xs : List A) → list_any t (filter r xs) ≡ list_any (λ x. r x && t x) xs
any_filtered r t [] = refl
any_filtered r t (x ∷ xs) = filtered_one r t x (filter r xs) (r x) ∙ ap (λ b. (r x && t x) || b) (any_filtered r t xs)

or_swap : (a b c d : Bool) → ((a || b) || (c || d)) ≡ ((a || c) || (b || d))
or_swap true b true d = refl
or_swap true b false d = refl
or_swap false true true d = refl
or_swap false true false d = refl
or_swap false false true d = refl
or_swap false false false d = refl

pub any_both : {A : Type 0} (f g : A → Bool) (xs : List A) → (list_any f xs || list_any g xs) ≡ list_any (λ x. f x || g x) xs
any_both f g [] = refl
any_both f g (x ∷ xs) = or_swap (f x) (list_any f xs) (g x) (list_any g xs) ∙ ap (λ b. (f x || g x) || b) (any_both f g xs)

pub any_joined : {A B : Type 0} (q : B → Bool) (f : A → List B) (xs : List A) → list_any q (flat_map f xs) ≡ list_any (λ x. list_any q (f x)) xs
any_joined q f [] = refl
any_joined q f (x ∷ xs) = list_any-append q (f x) (flat_map f xs) ∙ ap (λ b. list_any q (f x) || b) (any_joined q f xs)

or_none : (a : Bool) → (a || false) ≡ a
or_none true = refl
or_none false = refl

pub any_listed : {A : Type 0} (q : A → Bool) (v : Option A) → list_any q (option_to_list v) ≡ option_map_or q v false
any_listed q None = refl
any_listed q (Some x) = or_none (q x)
