-- How many rows of a list pass a test; of clean lists, each s_id stands once.
use Rattle.std.specs.Prelude.{◌≡◌, ℕ, zero, suc, ◌+◌, ◌≤◌, ◌<◌, max, Bool, true, false, cond, nat_lt, nat_le, ◌&&◌, ◌||◌, ◌==◌, List, [], ◌∷◌, ◌++◌, take, drop, length, slice_index_or, count_by}
use Rattle.std.specs.List.{list_any}
use Rattle.std.proofs.Common.{refl, sym, ap, subst, ◌∙◌, arith, inl, inr}
use Rattle.std.proofs.lemmas.Bool.Decides.{nat_tests}
use Rattle.std.proofs.lemmas.Bool.{cases_lt, cond-true}
use Rattle.std.proofs.lemmas.List.Sums.{sum_by-cons, sum_by-append}
use Rattle.std.proofs.Math.Seq.{split_at}
use Rattle.tatp_tables.specs.Tuples.{Tuple, same}
use Rattle.tatp_tables.proofs.TupleLaws.{same_is, same_itself}
use Rattle.tatp_tables.specs.Keys.{has_key}
use Rattle.tatp_tables.specs.Clean.{count_of_key, IdsRunFromOne}
use Rattle.tatp_tables.specs.declared.row.Rows.{Rows}

-- ---- counts
pub count_by-cons : (p : Tuple → Bool) (x : Tuple) (xs : List Tuple) → count_by p (x ∷ xs) ≡ cond (p x) 1 0 + count_by p xs
count_by-cons p x xs = sum_by-cons (λ y. cond (p y) 1 0) x xs

pub count_by-append : (p : Tuple → Bool) (xs ys : List Tuple) → count_by p (xs ++ ys) ≡ count_by p xs + count_by p ys
count_by-append p xs ys = sum_by-append (λ y. cond (p y) 1 0) xs ys

-- where nothing is counted, nothing passes
pub none_counted : (p : Tuple → Bool) (xs : List Tuple) (q : Tuple) → count_by p xs ≡ 0 → list_any (same q) xs ≡ true → p q ≡ false
none_counted p [] q e h = cc
none_counted p (x ∷ xs) q e h =
    let parts : cond (p x) 1 0 + count_by p xs ≡ 0 = sym (count_by-cons p x xs) ∙ e in
    elim (same q x) as (λ b. same q x ≡ b → (b || list_any (same q) xs) ≡ true → p q ≡ false) [
      | true ↦ λ is _. ap p (same_is q x is) ∙ not_counted (p x) (count_by p xs) parts
      | false ↦ λ is more. none_counted p xs q (omega arith) more
    ] refl h
  where
    not_counted : (b : Bool) (n : ℕ) → cond b 1 0 + n ≡ 0 → b ≡ false
    not_counted true n e = absurd (omega arith)
    not_counted false n e = refl

-- where something is counted, a row passes
pub record Passing (p : Tuple → Bool) (xs : List Tuple) : Type 0 where
  pub row : Tuple
  pub is_in : list_any (same row) xs ≡ true
  pub passes : p row ≡ true

pub one_counted : (p : Tuple → Bool) (xs : List Tuple) → 1 ≤ count_by p xs → Passing p xs
one_counted p [] h = absurd (omega arith)
one_counted p (x ∷ xs) h =
    elim (p x) as (λ b. p x ≡ b → 1 ≤ cond b 1 0 + count_by p xs → Passing p (x ∷ xs)) [
      | true ↦ λ e _. record { row = x; is_in = ap (λ b. b || list_any (same x) xs) (same_itself x); passes = e }
      | false ↦ λ e k. let more = one_counted p xs (omega arith) in record {
        row = more.row;
        is_in = elim (same more.row x) as (λ b. (b || list_any (same more.row) xs) ≡ true) [ true ↦ refl | false ↦ more.is_in ];
        passes = more.passes;
      }
    ] refl (subst (λ n. 1 ≤ n) (count_by-cons p x xs) h)

-- what passes once doesn't before its place
pub none_before : (p : Tuple → Bool) (xs : List Tuple) (i : ℕ) (d : Tuple) → i < length xs → p (slice_index_or xs i d) ≡ true → count_by p xs ≤ 1 → count_by p (take i xs) ≡ 0
none_before p xs i d lt h once =
    let e : count_by p xs ≡ count_by p (take i xs) + (cond (p (slice_index_or xs i d)) 1 0 + count_by p (drop (suc i) xs)) =
    ap (count_by p) (split_at xs i d lt) ∙ count_by-append p (take i xs) (slice_index_or xs i d ∷ drop (suc i) xs)
    ∙ ap (λ n. count_by p (take i xs) + n) (count_by-cons p (slice_index_or xs i d) (drop (suc i) xs)) in
    omega (arith, cond-true {A = ℕ} (p (slice_index_or xs i d)) 1 0 h)

-- ---- each s_id stands once
-- whether the first column is 1 to n
abbrev pub within : ℕ → Tuple → Bool
within n [] = false
within n (x ∷ xs) = nat_lt 0 x && nat_le x n

within_more : (n : ℕ) (row : Tuple) → cond (within (suc n) row) 1 0 ≡ cond (within n row) 1 0 + cond (has_key (suc n ∷ []) row) 1 0
within_more n [] = omega arith
within_more n (x ∷ xs) = within_bits n x
  where
    within_bits : (n x : ℕ) → cond (nat_lt 0 x && nat_le x (suc n)) 1 0 ≡ cond (nat_lt 0 x && nat_le x n) 1 0 + cond ((x == suc n) && true) 1 0
    within_bits n x = grind (arith, nat_tests)

within_none : (row : Tuple) → cond {A = ℕ} (within 0 row) 1 0 ≡ 0
within_none [] = refl
within_none (x ∷ xs) = grind (arith, nat_tests)

pub within_apart : (n s : ℕ) (row : Tuple) → (1 ≤ s → n < s) → cond (within n row) 1 0 + cond (has_key (s ∷ []) row) 1 0 ≤ 1
within_apart n s [] out = omega arith
within_apart n s (x ∷ xs) out = apart_bits n s x out
  where
    apart_bits : (n s x : ℕ) → (1 ≤ s → n < s) → cond (nat_lt 0 x && nat_le x n) 1 0 + cond ((x == s) && true) 1 0 ≤ 1
    apart_bits n s x out = grind (arith, nat_tests)

-- counts add up where tests do
count_by-split : (p q r : Tuple → Bool) → ((x : Tuple) → cond {A = ℕ} (r x) 1 0 ≡ cond (p x) 1 0 + cond (q x) 1 0) → (xs : List Tuple) → count_by r xs ≡ count_by p xs + count_by q xs
count_by-split p q r h [] = omega arith
count_by-split p q r h (x ∷ xs) = omega (arith, count_by-cons p x xs, count_by-cons q x xs, count_by-cons r x xs, h x, count_by-split p q r h xs)

pub count_by-apart : (p q : Tuple → Bool) → ((x : Tuple) → cond {A = ℕ} (p x) 1 0 + cond (q x) 1 0 ≤ 1) → (xs : List Tuple) → count_by p xs + count_by q xs ≤ length xs
count_by-apart p q h [] = omega arith
count_by-apart p q h (x ∷ xs) = omega (arith, count_by-cons p x xs, count_by-cons q x xs, h x, count_by-apart p q h xs)

count_by-none : (p : Tuple → Bool) → ((x : Tuple) → cond {A = ℕ} (p x) 1 0 ≡ 0) → (xs : List Tuple) → count_by p xs ≡ 0
count_by-none p h [] = refl
count_by-none p h (x ∷ xs) = omega (arith, count_by-cons p x xs, h x, count_by-none p h xs)

-- n rows have the s_ids 1 to n
pub count-within : (n : ℕ) (xs : List Tuple) → ((s : ℕ) → 1 ≤ s → s ≤ n → count_of_key (s ∷ []) xs ≡ 1) → count_by (within n) xs ≡ n
count-within zero xs each = count_by-none (within 0) within_none xs
count-within (suc n) xs each = omega (
  arith,
  count_by-split (within n) (has_key (suc n ∷ [])) (within (suc n)) (within_more n) xs,
  count-within n xs (λ s l m. each s l (omega arith)),
  each (suc n) (omega arith) (omega arith),
)

pub ids_stand_once : (r : Rows) → IdsRunFromOne r → (s : ℕ) → count_of_key (s ∷ []) r.subscribers ≤ 1
ids_stand_once r ids s =
    let xs = r.subscribers in
    let n = max 1 (length r.subscribers) in
    elim (cases_lt n s) [
      | inl lt ↦ omega (arith, count-within n xs ids, count_by-apart (within n) (has_key (s ∷ [])) (λ row. within_apart n s row (λ _. lt)) xs)
      | inr le ↦ elim (cases_lt 0 s) [
        | inl l ↦ omega (arith, ids s l le)
        | inr z ↦ omega (arith, count-within n xs ids, count_by-apart (within n) (has_key (s ∷ [])) (λ row. within_apart n s row (λ m. omega arith)) xs)
      ]
    ]
