-- The rows that begin with a key, and what a find by a key gives.
use Rattle.std.specs.Prelude.{◌≡◌, ℕ, zero, suc, ◌≤◌, Bool, true, false, ◌&&◌, ◌||◌, ◌==◌, not, [], ◌∷◌, take, length, Some, None, find, is_some, slice_index}
use Rattle.std.proofs.Common.{refl, sym, ap, subst, ◌∙◌, arith, ⊎_elim}
use Rattle.std.proofs.lemmas.Bool.{and_parts, and_from, or_cases, or_right, eqb-true, eq-eqb, both_ways, not-true, not_from_false}
use Rattle.tatp_tables.specs.Tuples.{Tuple, Tuples, rows_of, same, has, insert_row, remove_row, replace_row}
use Rattle.tatp_tables.proofs.TupleLaws.{same_is, same_itself, has-rows_of, has-insert_row, has-remove_row}
use Rattle.tatp_tables.proofs.FindLaws.{found_passes, found_there, not_found}
use Rattle.tatp_tables.specs.Keys.{has_key, row_at}

-- ---- keys
pub heads_equal : (x k : ℕ) (b : Bool) → ((x == k) && b) ≡ true → x ≡ k
heads_equal x k b h = eqb-true x k (and_parts (x == k) b h).0

-- a row begins with its first columns
pub has_key-take : (n : ℕ) (row : Tuple) → has_key (take n row) row ≡ true
has_key-take zero row = refl
has_key-take (suc n) [] = refl
has_key-take (suc n) (x ∷ xs) = ap (λ b. b && has_key (take n xs) xs) (eq-eqb x x refl) ∙ has_key-take n xs

-- a row that has a key begins with it
pub key_is : (key row : Tuple) → has_key key row ≡ true → take (length key) row ≡ key
key_is [] row h = refl
key_is (k ∷ ks) [] h = cc
key_is (k ∷ ks) (x ∷ xs) h = λ i. heads_equal x k (has_key ks xs) h i ∷ key_is ks xs (and_parts (x == k) _ h).1 i

-- whether a row has a key of at most n parts is told by its first n columns
pub has_key-front : (n : ℕ) (key row : Tuple) → length key ≤ n → has_key key row ≡ has_key key (take n row)
has_key-front n [] row l = refl
has_key-front zero (k ∷ ks) row l = absurd (omega arith)
has_key-front (suc n) (k ∷ ks) [] l = refl
has_key-front (suc n) (k ∷ ks) (x ∷ xs) l = ap (λ b. (x == k) && b) (has_key-front n ks xs (omega arith))

pub has_key-alike : (n : ℕ) (key row other : Tuple) → length key ≤ n → take n other ≡ take n row → has_key key other ≡ has_key key row
has_key-alike n key row other l e = has_key-front n key other l ∙ ap (has_key key) e ∙ sym (has_key-front n key row l)

pub length-take-le : (n : ℕ) (row : Tuple) → length (take n row) ≤ n
length-take-le zero row = omega arith
length-take-le (suc n) [] = omega arith
length-take-le (suc n) (x ∷ xs) = omega (arith, length-take-le n xs)

pub length-take-is : (n : ℕ) (row : Tuple) → n ≤ length row → length (take n row) ≡ n
length-take-is zero row l = refl
length-take-is (suc n) [] l = absurd (omega arith)
length-take-is (suc n) (x ∷ xs) l = ap suc (length-take-is n xs (omega arith))

-- a row that begins with another's first n columns has the same first n columns
pub take-alike : (n : ℕ) (row other : Tuple) → n ≤ length row → has_key (take n row) other ≡ true → take n other ≡ take n row
take-alike n row other l h = ap (λ m. take m other) (sym (length-take-is n row l)) ∙ key_is (take n row) other h

pub first_is : (s : ℕ) (row : Tuple) → has_key (s ∷ []) row ≡ true → slice_index row 0 ≡ s
first_is s [] h = cc
first_is s (x ∷ xs) h = heads_equal x s true h

-- a row that has a key has the key's first part
pub has_key-head : (k : ℕ) (ks row : Tuple) → has_key (k ∷ ks) row ≡ true → has_key (k ∷ []) row ≡ true
has_key-head k ks [] h = h
has_key-head k ks (x ∷ xs) h = ap (λ b. b && true) (and_parts (x == k) _ h).0

-- two keys of one row begin alike
pub key_heads : (a s : ℕ) (row : Tuple) → has_key (a ∷ []) row ≡ true → has_key (s ∷ []) row ≡ true → a ≡ s
key_heads a s row h k = sym (first_is a row h) ∙ first_is s row k

pub first_has_key : (s : ℕ) (row : Tuple) → 1 ≤ length row → slice_index row 0 ≡ s → has_key (s ∷ []) row ≡ true
first_has_key s [] l e = absurd (omega arith)
first_has_key s (x ∷ xs) l e = ap (λ b. b && true) (eq-eqb x s e)

pub take-one : (row : Tuple) → 1 ≤ length row → take 1 row ≡ slice_index row 0 ∷ []
take-one [] l = absurd (omega arith)
take-one (x ∷ more) l = refl

pub take-two : (row : Tuple) → 2 ≤ length row → take 2 row ≡ slice_index row 0 ∷ slice_index row 1 ∷ []
take-two [] l = absurd (omega arith)
take-two (x ∷ []) l = absurd (omega arith)
take-two (x ∷ y ∷ more) l = refl

pub take-three : (row : Tuple) → 3 ≤ length row → take 3 row ≡ slice_index row 0 ∷ slice_index row 1 ∷ slice_index row 2 ∷ []
take-three [] l = absurd (omega arith)
take-three (x ∷ []) l = absurd (omega arith)
take-three (x ∷ y ∷ []) l = absurd (omega arith)
take-three (x ∷ y ∷ z ∷ more) l = refl

-- ---- finds
pub has-found : (p : Tuple → Bool) (u : Tuples) (row : Tuple) → find p (rows_of u) ≡ Some row → has u row ≡ true
has-found p u row e = has-rows_of u row ∙ found_there p (rows_of u) row e

pub row_at-has : (u : Tuples) (key row : Tuple) → row_at u key ≡ Some row → has u row ≡ true
row_at-has u key row e = has-found (has_key key) u row e

pub row_at-key : (u : Tuples) (key row : Tuple) → row_at u key ≡ Some row → has_key key row ≡ true
row_at-key u key row e = found_passes (has_key key) (rows_of u) row e

-- where none is found, no row has the key
pub row_at-none : (u : Tuples) (key row : Tuple) → row_at u key ≡ None → has u row ≡ true → has_key key row ≡ false
row_at-none u key row e h = not_found (has_key key) (rows_of u) row e (sym (has-rows_of u row) ∙ h)

-- a row of the set that has the key
pub record HasKeyed (u : Tuples) (key : Tuple) : Type 0 where
  pub row : Tuple
  pub is_in : has u row ≡ true
  pub keyed : has_key key row ≡ true

pub HasKeyed-from_row_at : (u : Tuples) (key : Tuple) → is_some (row_at u key) ≡ true → HasKeyed u key
HasKeyed-from_row_at u key h =
    elim (row_at u key) as (λ o. row_at u key ≡ o → is_some o ≡ true → HasKeyed u key) [
      | None ↦ λ e k. absurd (cc)
      | Some row ↦ λ e k. record { row = row; is_in = row_at-has u key row e; keyed = row_at-key u key row e }
    ] refl h

-- where a row has the key, one is found
pub row_at-some : (u : Tuples) (key row : Tuple) → has u row ≡ true → has_key key row ≡ true → is_some (row_at u key) ≡ true
row_at-some u key row is_in keyed =
    elim (row_at u key) as (λ o. row_at u key ≡ o → is_some o ≡ true) [
      | None ↦ λ e. absurd (both_ways (has_key key row) (row_at-none u key row e is_in) keyed)
      | Some r ↦ λ e. refl
    ] refl

-- ---- what holds of each row, after one more and one less
pub each-insert_row : (P : Tuple → Type 0) (u : Tuples) (row : Tuple) → P row → ((q : Tuple) → has u q ≡ true → P q) → (q : Tuple) → has (insert_row u row) q ≡ true → P q
each-insert_row P u row here there q h =
    ⊎_elim (λ e. subst P (sym (same_is q row e)) here) (there q) (or_cases (same q row) (has u q) (sym (has-insert_row u row q) ∙ h))

pub has-from_remove_row : (u : Tuples) (row q : Tuple) → has (remove_row u row) q ≡ true → has u q ≡ true
has-from_remove_row u row q h = (and_parts (not (same q row)) (has u q) (sym (has-remove_row u row q) ∙ h)).1

-- what is left isn't the row that went
pub gone : (u : Tuples) (row q : Tuple) → has (remove_row u row) q ≡ true → row ≡ q → ⊥
gone u row q h e = both_ways (same q row) (not-true (same q row) (and_parts (not (same q row)) (has u q) (sym (has-remove_row u row q) ∙ h)).0) (ap (λ r. same q r) e ∙ same_itself q)

pub has-inserted : (u : Tuples) (row : Tuple) → has (insert_row u row) row ≡ true
has-inserted u row = has-insert_row u row row ∙ ap (λ b. b || has u row) (same_itself row)

pub has-insert_row_there : (u : Tuples) (row q : Tuple) → has u q ≡ true → has (insert_row u row) q ≡ true
has-insert_row_there u row q h = has-insert_row u row q ∙ or_right (same q row) (has u q) h

pub has-remove_row_other : (u : Tuples) (row q : Tuple) → has u q ≡ true → same q row ≡ false → has (remove_row u row) q ≡ true
has-remove_row_other u row q h e = has-remove_row u row q ∙ and_from (not (same q row)) (has u q) (not_from_false (same q row) e) h

-- ---- keys that are unique in one set
abbrev pub UniqueIn : ℕ → Tuples → Type 0
UniqueIn n u = (row other : Tuple) → has u row ≡ true → has u other ≡ true → take n row ≡ take n other → row ≡ other

pub UniqueIn-insert_row : (n : ℕ) (u : Tuples) (row : Tuple) → ((q : Tuple) → has u q ≡ true → take n row ≡ take n q → row ≡ q) → UniqueIn n u → UniqueIn n (insert_row u row)
UniqueIn-insert_row n u row only unique a b ha hb =
    each-insert_row (λ x. take n x ≡ take n b → x ≡ b) u row
    (each-insert_row (λ y. take n row ≡ take n y → row ≡ y) u row (λ _. refl) only b hb)
    (λ q hq. each-insert_row (λ y. take n q ≡ take n y → q ≡ y) u row (λ e. sym (only q hq (sym e))) (λ r hr. unique q r hq hr) b hb) a ha

pub UniqueIn-remove_row : (n : ℕ) (u : Tuples) (row : Tuple) → UniqueIn n u → UniqueIn n (remove_row u row)
UniqueIn-remove_row n u row unique a b ha hb = unique a b (has-from_remove_row u row a ha) (has-from_remove_row u row b hb)

-- a row that keeps its key may change
pub UniqueIn-replace_row : (n : ℕ) (u : Tuples) (row new : Tuple) → has u row ≡ true → take n new ≡ take n row → UniqueIn n u → UniqueIn n (replace_row u row new)
UniqueIn-replace_row n u row new is_in alike unique = UniqueIn-insert_row n (remove_row u row) new
    (λ q hq e. absurd (gone u row q hq (unique row q is_in (has-from_remove_row u row q hq) (sym alike ∙ e))))
    (UniqueIn-remove_row n u row unique)

-- a row may come whose key none has
pub UniqueIn-insert_new : (n : ℕ) (u : Tuples) (row : Tuple) → row_at u (take n row) ≡ None → UniqueIn n u → UniqueIn n (insert_row u row)
UniqueIn-insert_new n u row none unique = UniqueIn-insert_row n u row
    (λ q hq e. absurd (both_ways (has_key (take n row) q) (row_at-none u (take n row) q none hq) (ap (λ k. has_key k q) e ∙ has_key-take n q))) unique

-- ---- each row of the first set is one of the second's, up to what stands past the first n columns
abbrev pub Covers : ℕ → Tuples → Tuples → Type 0
Covers n u v = (row : Tuple) → has u row ≡ true → (other : Tuple) × (has v other ≡ true) × (take n other ≡ take n row)

pub Covers-replaced : (n : ℕ) (u : Tuples) (row new : Tuple) → take n new ≡ take n row → Covers n u (replace_row u row new)
Covers-replaced n u row new alike q h =
    elim (same q row) as (λ b. same q row ≡ b → (other : Tuple) × (has (replace_row u row new) other ≡ true) × (take n other ≡ take n q)) [
      | true ↦ λ e. (new, has-inserted (remove_row u row) new, alike ∙ ap (take n) (sym (same_is q row e)))
      | false ↦ λ e. (q, has-insert_row_there (remove_row u row) new q (has-remove_row_other u row q h e), refl)
    ] refl

pub Covers-replace_row : (n : ℕ) (u : Tuples) (row new : Tuple) → has u row ≡ true → take n new ≡ take n row → Covers n (replace_row u row new) u
Covers-replace_row n u row new is_in alike = each-insert_row (λ q. (other : Tuple) × (has u other ≡ true) × (take n other ≡ take n q)) (remove_row u row) new
    (row, is_in, sym alike)
    (λ q h. (q, has-from_remove_row u row q h, refl))

pub Covers-insert_row : (n : ℕ) (u : Tuples) (row : Tuple) → Covers n u (insert_row u row)
Covers-insert_row n u row q h = (q, has-insert_row_there u row q h, refl)

pub Covers-remove_row : (n : ℕ) (u : Tuples) (row : Tuple) → Covers n (remove_row u row) u
Covers-remove_row n u row q h = (q, has-from_remove_row u row q h, refl)
