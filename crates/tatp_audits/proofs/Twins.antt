-- The first key of a sorted list that equals the next is the least that stands twice.
use Rattle.std.specs.Prelude.{◌≡◌, ℕ, ◌≤◌, ◌<◌, ◌+◌, Bool, true, false, cond, nat_le, List, [], ◌∷◌, Option, Some, None, length, IsSorted, IsPermutation}
use Rattle.std.proofs.Common.{refl, sym, ap, subst, ◌∙◌, arith, zero-add}
use Rattle.std.proofs.lemmas.Bool.Decides.{nat_tests}
use Rattle.std.proofs.lemmas.List.Sums.{sum_by-cons}
use Rattle.std.proofs.lemmas.List.Sorted.{sum_by-IsPermutation}
use Rattle.std.specs.Cmp.Lexicographic.{slice_cmp}
use native.Mathlib.Numerals.{unary_clauses}
use Rattle.std.specs.Cmp.Lexicographic.{pointwise, texts_ties}
use Rattle.std.proofs.lemmas.List.{get_or_default}
use Rattle.std.proofs.Common.{nat_eq, get_or, drop, drop-cons, length-drop, suc, ◌-◌}
use Rattle.std.specs.Ordering.{nat_cmp}
use Rattle.tatp_tables.specs.Tuples.{Tuple, same}
use Rattle.tatp_audits.specs.Failing.{is_above, times, is_twice, Finds}
use Rattle.tatp_audits.proofs.Order.{same_itself, same_turned, above_chain, above_same, above_from_sort, same_from_both, Finds-same}

-- the first key from x on that equals the next
abbrev pub twin_from : Tuple → List Tuple → Option Tuple
twin_from x [] = None
twin_from x (y ∷ ys) = cond (same x y) (Some x) (twin_from y ys)

abbrev pub first_twin : List Tuple → Option Tuple
first_twin [] = None
first_twin (x ∷ xs) = twin_from x xs

-- none is above the next
pub data Rises : Tuple → List Tuple → Type 0 where
  last : (x : Tuple) → Rises x []
  more : (x y : Tuple) (ys : List Tuple) → is_above x y ≡ false → Rises y ys → Rises x (y ∷ ys)

times-cons : (x : Tuple) (xs : List Tuple) (k : Tuple) → times (x ∷ xs) k ≡ cond (same k x) 1 0 + times xs k
times-cons x xs k = sum_by-cons (λ y. cond (same k y) 1 0) x xs

-- what stands there is not below the first
low : (x : Tuple) (ys : List Tuple) → Rises x ys → (k : Tuple) → 1 ≤ times (x ∷ ys) k → is_above x k ≡ false
low x [] up k h = elim (same k x) as (λ b. same k x ≡ b → is_above x k ≡ false) [
  | true ↦ λ e. above_same x k (same_turned x k ∙ e)
  | false ↦ λ e. let f : times (x ∷ []) k ≡ 0 = times-cons x [] k ∙ ap (λ b. cond b 1 0 + times [] k) e in absurd (omega arith)
] refl
low x (y ∷ ys) (more x' y' ys' le up) k h = elim (same k x) as (λ b. same k x ≡ b → is_above x k ≡ false) [
  | true ↦ λ e. above_same x k (same_turned x k ∙ e)
  | false ↦ λ e. let f : times (x ∷ y ∷ ys) k ≡ 0 + times (y ∷ ys) k = times-cons x (y ∷ ys) k ∙ ap (λ b. cond b 1 0 + times (y ∷ ys) k) e in
      above_chain x y k le (low y ys up k (omega arith))
] refl

nothing : (x : Tuple) (k : Tuple) → is_twice (x ∷ []) k ≡ false
nothing x k = ap (nat_le 2) (times-cons x [] k) ∙ elim (same k x) as (λ b. nat_le 2 (cond b 1 0 + times [] k) ≡ false) [ true ↦ refl | false ↦ refl ]

-- the search over the rest, where the first is not the second
apart : (x y : Tuple) (ys : List Tuple) → is_above x y ≡ false → Rises y ys → same x y ≡ false → (k : Tuple) → is_twice (y ∷ ys) k ≡ is_twice (x ∷ y ∷ ys) k
apart x y ys le up ne k = elim (same k x) as (λ b. same k x ≡ b → is_twice (y ∷ ys) k ≡ is_twice (x ∷ y ∷ ys) k) [
  | true ↦ λ e.
      let none : times (y ∷ ys) k ≡ 0 = grind (arith, gone e) in
      ap (nat_le 2) none ∙ sym (ap (nat_le 2) (times-cons x (y ∷ ys) k ∙ (λ i. cond (e i) 1 0 + none i)))
  | false ↦ λ e. sym (ap (nat_le 2) (times-cons x (y ∷ ys) k ∙ ap (λ b. cond b 1 0 + times (y ∷ ys) k) e ∙ zero-add _))
] refl
  where
    gone : same k x ≡ true → 1 ≤ times (y ∷ ys) k → ⊥
    gone e h =
        let up_k : is_above y x ≡ false = above_chain y k x (low y ys up k h) (above_same k x e) in
        let is : same x y ≡ true = same_from_both x y le up_k in cc

pub twin_found : (x : Tuple) (ys : List Tuple) → Rises x ys → Finds (is_twice (x ∷ ys)) (twin_from x ys)
twin_found x [] up = nothing x
twin_found x (y ∷ ys) (more x' y' ys' le up) = elim (same x y) as (λ b. same x y ≡ b → Finds (is_twice (x ∷ y ∷ ys)) (cond b (Some x) (twin_from y ys))) [
  | true ↦ λ e. (two e, λ other h. low x (y ∷ ys) (more x y ys le up) other (grind (arith, nat_tests, h)))
  | false ↦ λ e. Finds-same (is_twice (y ∷ ys)) (is_twice (x ∷ y ∷ ys)) (twin_from y ys) (apart x y ys le up e) (twin_found y ys up)
] refl
  where
    two : same x y ≡ true → is_twice (x ∷ y ∷ ys) x ≡ true
    two e =
        let first : times (x ∷ y ∷ ys) x ≡ 1 + times (y ∷ ys) x = times-cons x (y ∷ ys) x ∙ ap (λ b. cond b 1 0 + times (y ∷ ys) x) (same_itself x) in
        let second : times (y ∷ ys) x ≡ 1 + times ys x = times-cons y ys x ∙ ap (λ b. cond b 1 0 + times ys x) e in
        grind (arith, nat_tests, first, second)

rises : (x : Tuple) (xs : List Tuple) → IsSorted (slice_cmp nat_cmp) (x ∷ xs) → Rises x xs
rises x [] up = last x
rises x (y ∷ ys) up = more x y ys (above_from_sort x y (up 0 x (omega arith) (omega arith))) (rises y ys (λ k d low high. simp unary_clauses (simp unary_clauses at (up (suc k) d (omega arith) (omega arith)))))

pub first_twin_found : (xs : List Tuple) → IsSorted (slice_cmp nat_cmp) xs → Finds (is_twice xs) (first_twin xs)
first_twin_found [] up = λ k. refl
first_twin_found (x ∷ xs) up = twin_found x xs (rises x xs up)

-- what stands twice in a list stands twice in another order of it
pub moved_twice : (xs ys : List Tuple) (found : Option Tuple) → IsPermutation xs ys → Finds (is_twice ys) found → Finds (is_twice xs) found
moved_twice xs ys found moved h = Finds-same (is_twice ys) (is_twice xs) found (λ k. ap (nat_le 2) (sum_by-IsPermutation (λ y. cond (same k y) 1 0) xs ys moved)) h

-- the loop's steps: j is the place before i
drop_two : (xs : List Tuple) (j : ℕ) (d : Tuple) → j + 1 < length xs → drop j xs ≡ get_or xs j d ∷ get_or xs (j + 1) d ∷ drop (j + 2) xs
drop_two xs j d h =
    let a : j < length xs = omega arith in
    let e : drop j xs ≡ get_or xs j d ∷ drop (suc j) xs = drop-cons xs j d a in
    let f : drop (suc j) xs ≡ get_or xs (suc j) d ∷ drop (suc (suc j)) xs = drop-cons xs (suc j) d (omega arith) in
    let g : suc j ≡ j + 1 = omega arith in
    let k : suc (suc j) ≡ j + 2 = omega arith in
    e ∙ ap (λ l. get_or xs j d ∷ l) (f ∙ (λ i. get_or xs (g i) d ∷ drop (k i) xs))

pub twin_step : (xs : List Tuple) (j : ℕ) (d : Tuple) → j + 1 < length xs → same (get_or xs j d) (get_or xs (j + 1) d) ≡ false → first_twin (drop j xs) ≡ first_twin (drop (j + 1) xs)
twin_step xs j d h ne =
    let a : j + 1 < length xs = h in
    let f : drop (j + 1) xs ≡ get_or xs (j + 1) d ∷ drop (suc (j + 1)) xs = drop-cons xs (j + 1) d a in
    let k : j + 2 ≡ suc (j + 1) = omega arith in
    ap first_twin (drop_two xs j d h) ∙ ap (λ b. cond b (Some (get_or xs j d)) (twin_from (get_or xs (j + 1) d) (drop (j + 2) xs))) ne
    ∙ (λ i. twin_from (get_or xs (j + 1) d) (drop (k i) xs)) ∙ sym (ap first_twin f)

pub twin_here : (xs : List Tuple) (j : ℕ) (d : Tuple) → j + 1 < length xs → same (get_or xs j d) (get_or xs (j + 1) d) ≡ true → first_twin (drop j xs) ≡ Some (get_or xs j d)
twin_here xs j d h is = ap first_twin (drop_two xs j d h) ∙ ap (λ b. cond b (Some (get_or xs j d)) (twin_from (get_or xs (j + 1) d) (drop (j + 2) xs))) is

short : (xs : List Tuple) → length xs ≤ 1 → first_twin xs ≡ None
short [] h = refl
short (x ∷ []) h = refl
short (x ∷ y ∷ ys) h = absurd (omega arith)

pub twin_end : (xs : List Tuple) (j : ℕ) → length xs ≤ j + 1 → first_twin (drop j xs) ≡ None
twin_end xs j h = short (drop j xs) (simp length-drop (omega arith))

-- the neighbours at i - 1 and i, as an index gives them
read : (xs : List Tuple) (i : ℕ) (x d : Tuple) → i < length xs → x ≡ get_or xs i x → get_or xs i d ≡ x
read xs i x d h e = get_or_default xs i d x h ∙ sym e

same_of : (a b : Tuple) (r : Bool) → r ≡ pointwise nat_eq a b → same a b ≡ r
same_of a b r e = sym (e ∙ texts_ties a b)

neighbours : (xs : List Tuple) (j i : ℕ) (a b d : Tuple) (r : Bool) → j + 1 ≡ i → i < length xs → a ≡ get_or xs j a → b ≡ get_or xs i b → r ≡ pointwise nat_eq a b → same (get_or xs j d) (get_or xs (j + 1) d) ≡ r
neighbours xs j i a b d r is h ea eb e =
    let f : get_or xs j d ≡ a = read xs j a d (omega arith) ea in
    let g : get_or xs (j + 1) d ≡ b = ap (λ k. get_or xs k d) is ∙ read xs i b d h eb in
    (λ k. same (f k) (g k)) ∙ same_of a b r e

pub stop : (xs : List Tuple) (i : ℕ) (a b r : Tuple) → IsSorted (slice_cmp nat_cmp) xs → 1 ≤ i → i < length xs → first_twin xs ≡ first_twin (drop (i - 1) xs)
    → a ≡ get_or xs (i - 1) a → b ≡ get_or xs i b → r ≡ get_or xs (i - 1) r → true ≡ pointwise nat_eq a b → Finds (is_twice xs) (Some r)
stop xs i a b r up from in' at ea eb er e =
    subst (Finds (is_twice xs)) (at ∙ twin_here xs (i - 1) r (omega arith) (neighbours xs (i - 1) i a b r true (omega arith) in' ea eb e) ∙ ap Some (sym er)) (first_twin_found xs up)

pub go_on : (xs : List Tuple) (i : ℕ) (a b : Tuple) → 1 ≤ i → i < length xs → first_twin xs ≡ first_twin (drop (i - 1) xs)
    → a ≡ get_or xs (i - 1) a → b ≡ get_or xs i b → false ≡ pointwise nat_eq a b → first_twin xs ≡ first_twin (drop (i + 1 - 1) xs)
go_on xs i a b from in' at ea eb e =
    let k : i - 1 + 1 ≡ i + 1 - 1 = omega arith in
    at ∙ twin_step xs (i - 1) a (omega arith) (neighbours xs (i - 1) i a b a false (omega arith) in' ea eb e) ∙ ap (λ n. first_twin (drop n xs)) k

pub finish : (xs : List Tuple) (i : ℕ) → IsSorted (slice_cmp nat_cmp) xs → length xs ≤ i → first_twin xs ≡ first_twin (drop (i - 1) xs) → Finds (is_twice xs) None
finish xs i up end at = subst (Finds (is_twice xs)) (at ∙ twin_end xs (i - 1) (omega arith)) (first_twin_found xs up)

-- the search over sorted keys, told of the keys before the sort
pub twice_of : (keys keys' sorted sorted' : List Tuple) (found : Option Tuple) → IsPermutation keys' sorted → keys' ≡ keys → sorted' ≡ sorted → Finds (is_twice sorted') found → Finds (is_twice keys) found
twice_of keys keys' sorted sorted' found moved e f h = subst (λ l. Finds (is_twice l) found) e (moved_twice keys' sorted found moved (subst (λ l. Finds (is_twice l) found) f h))
