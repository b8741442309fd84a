-- The columns of a Subscriber row as a home keeps it: two, then thirty small ones, then two. Lists
-- that are filled from the front.
use Rattle.std.specs.Prelude.{◌≡◌, ℕ, zero, suc, ◌+◌, ◌-◌, ◌<◌, List, [], ◌∷◌, ◌++◌, length, slice_set, slice_index, slice_index_or}
use Rattle.std.proofs.Common.{refl, sym, ap, ◌∙◌, arith, inl, inr}
use Rattle.std.proofs.lemmas.List.{get_or_append_left, get_or-append_right, get_or-set_same, get_or-set_other, length-set, same_lists, get_or_default}
use Rattle.std.proofs.lemmas.Grind.{get_or_default_zero}
use Rattle.std.proofs.lemmas.Bool.{cases_lt, cases_eq}

abbrev pub columns_of : (s n : ℕ) (small : List ℕ) (m v : ℕ) → List ℕ
columns_of s n small m v = s ∷ n ∷ (small ++ m ∷ v ∷ [])

length_append : (small : List ℕ) (m v n : ℕ) → length small ≡ n → length (small ++ m ∷ v ∷ []) ≡ n + 2
length_append [] m v n e = omega (arith, e)
length_append (x ∷ small) m v n e =
    let f : length small ≡ n - 1 = omega (arith, e) in
    let g = length_append small m v (n - 1) f in
    omega (arith, e, g)

pub length_columns : (s n : ℕ) (small : List ℕ) (m v : ℕ) → length small ≡ 30 → length (columns_of s n small m v) ≡ 34
length_columns s n small m v e = let g = length_append small m v 30 e in omega (arith, g)

-- the last two, after the thirty
last_two : (row : List ℕ) (j : ℕ) → j < 2 → slice_index_or (slice_index row 32 ∷ slice_index row 33 ∷ []) j 0 ≡ slice_index row (30 + j + 2)
last_two row zero lt = refl
last_two row (suc zero) lt = refl
last_two row (suc (suc j)) lt = absurd (omega arith)

column_at : (row small : List ℕ) (k : ℕ) → length small ≡ 30 → ((i : ℕ) → i < 30 → slice_index small i ≡ slice_index row (i + 2)) → k < 34
    → slice_index_or (columns_of (slice_index row 0) (slice_index row 1) small (slice_index row 32) (slice_index row 33)) k 0 ≡ slice_index row k
column_at row small zero long same lt = refl
column_at row small (suc zero) long same lt = refl
column_at row small (suc (suc i)) long same lt =
    let last = slice_index row 32 ∷ slice_index row 33 ∷ [] in
    let sum : i + 2 ≡ suc (suc i) = omega arith in
    elim (cases_lt i 30) as (λ _. slice_index_or (small ++ last) i 0 ≡ slice_index row (suc (suc i))) [
      | inl less ↦
          let within : i < length small = omega (arith, less, long) in
          get_or_append_left small last 0 i within ∙ same i less ∙ ap (λ k. slice_index row k) sum
      | inr more ↦
          let short : i - 30 < 2 = omega (arith, lt, more) in
          let back : 30 + (i - 30) + 2 ≡ suc (suc i) = omega (arith, more) in
          get_or-append_right small last 30 i 0 long more ∙ last_two row (i - 30) short ∙ ap (λ k. slice_index row k) back
    ]

-- the columns of a row, taken apart and put together
pub columns_are : (row small : List ℕ) → length row ≡ 34 → length small ≡ 30 → ((i : ℕ) → i < 30 → slice_index small i ≡ slice_index row (i + 2))
    → columns_of (slice_index row 0) (slice_index row 1) small (slice_index row 32) (slice_index row 33) ≡ row
columns_are row small l long same =
    let cols = columns_of (slice_index row 0) (slice_index row 1) small (slice_index row 32) (slice_index row 33) in
    let lc : length cols ≡ 34 = length_columns (slice_index row 0) (slice_index row 1) small (slice_index row 32) (slice_index row 33) long in
    same_lists cols row (lc ∙ sym l) (λ k d lt.
    let lt34 : k < 34 = omega (arith, lt, lc) in
    let ltr : k < length row = omega (arith, lt34, l) in
    get_or_default_zero cols k d lt ∙ column_at row small k long same lt34 ∙ sym (get_or_default_zero row k d ltr))

-- a list whose entries before a place are another's, after one more is set
module _ {A : Type 0} (d : A) where
  abbrev pub AreFirst : ℕ → ℕ → (ℕ → A) → List A → Type 0
  AreFirst n place f xs = (length xs ≡ n) × ((k : ℕ) → k < place → slice_index_or xs k d ≡ f k)

  pub first_set : (n place : ℕ) (f : ℕ → A) (xs : List A) (x : A) → place < n → AreFirst n place f xs → x ≡ f place → AreFirst n (place + 1) f (slice_set xs place x)
  first_set n place f xs x lt same e =
      let within : place < length xs = omega (arith, lt, same.0) in (
        length-set xs place x ∙ same.0,
        λ k less. elim (cases_eq k place) as (λ _. slice_index_or (slice_set xs place x) k d ≡ f k) [
          | inl here ↦ ap (λ i. slice_index_or (slice_set xs place x) i d) here ∙ get_or-set_same xs place x d within ∙ e ∙ ap f (sym here)
          | inr other ↦ let before : k < place = omega (arith, less, other) in get_or-set_other xs place k x d other ∙ same.1 k before
        ],
      )

  -- all of them
  pub first_all : (n : ℕ) (xs ys : List A) → AreFirst n n (λ k. slice_index_or ys k d) xs → length ys ≡ n → xs ≡ ys
  first_all n xs ys same l = same_lists xs ys (same.0 ∙ sym l) (λ k e lt.
      let within : k < n = omega (arith, lt, same.0) in
      let also : k < length ys = omega (arith, within, l) in
      get_or_default xs k e d lt ∙ same.1 k within ∙ get_or_default ys k d e also)
