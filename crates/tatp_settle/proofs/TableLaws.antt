-- Tables: their cells, and how they are filled.
use Rattle.std.proofs.Common.{◌≡◌, ℕ, zero, suc, ◌+◌, inl, inr, true, List, [], ◌∷◌, ◌++◌, length, map, take, replicate, Option, Some, None, Result, Ok, Err, OnOk, is_ok, if◌then◌else◌, Vec, Global, slice_get, slice_set, slice_index_or, Bor, refl, sym, ◌∙◌, ap, subst, arith}
use Rattle.std.specs.Option.{option_and_then, option_copied}
use Rattle.std.specs.Slice.{IsItemAt}
use Rattle.std.proofs.lemmas.Bool.{cases_eq}
use Rattle.std.proofs.lemmas.List.{map_push, map-append, length-map, length-set}
use Rattle.std.proofs.lemmas.Option.{slice_get_past, slice_get_read}
use Rattle.tatp_settle.specs.Placing.{IsFresh, IsFreshCell, Puts}
use Rattle.tatp_logs.specs.Lists.{lists_of}
use Rattle.tatp_settle.specs.Runs.{at_call}

-- as many empty cells as there are elements in the list, and so in each row
abbrev pub fresh_row : {A : Type 0} → (P : Type 0) → List A → List (Option P)
fresh_row P list = replicate (length list) None

abbrev pub fresh_rows : {A : Type 0} → (P : Type 0) → List (List A) → List (List (Option P))
fresh_rows P lists = map (fresh_row P) lists

fresh_cell : {A : Type 0} (P : Type 0) (list : List A) (number : ℕ) → IsFreshCell (slice_get list number) (slice_get (fresh_row P list) number)
fresh_cell P [] number = refl
fresh_cell P (x ∷ list) zero = refl
fresh_cell P (x ∷ list) (suc number) = fresh_cell P list number

pub fresh_are_fresh : {A : Type 0} (P : Type 0) (lists : List (List A)) → IsFresh (at_call lists) (at_call (fresh_rows P lists))
fresh_are_fresh P [] client number = refl
fresh_are_fresh P (list ∷ lists) zero number = fresh_cell P list number
fresh_are_fresh P (list ∷ lists) (suc client) number = fresh_are_fresh P lists client number

-- ---- what stands where
-- what a slice lends at an index is the element there
pub lent_at : {A : Type 0} (xs : List A) (i : ℕ) (r : Option (Bor A)) → IsItemAt xs i r → option_copied r ≡ slice_get xs i
lent_at xs i None h = sym (slice_get_past xs i h.3)
lent_at xs i (Some x) h = sym (slice_get_read xs (length xs) i x.now refl h.3.0 h.1)

module _ {A : Type 0} where
  at_row : (rows : List (Vec A Global)) (r : ℕ) (row : Vec A Global) (n : ℕ) → slice_get rows r ≡ Some row → at_call (lists_of rows) r n ≡ slice_get row.items n
  at_row [] r row n here = absurd cc
  at_row (v ∷ rows) zero row n here = ap (λ (o : Option (Vec A Global)). option_and_then (λ (v : Vec A Global). slice_get v.items n) o) here
  at_row (v ∷ rows) (suc r) row n here = at_row rows r row n here

  pub row_is : (rows : List (Vec A Global)) (r n : ℕ) (x : A) (d : Vec A Global) → at_call (lists_of rows) r n ≡ Some x → d ≡ slice_index_or rows r d → slice_get rows r ≡ Some d
  row_is [] r n x d h e = absurd cc
  row_is (v ∷ rows) zero n x d h e = ap (λ (v : Vec A Global). Some v) (sym e)
  row_is (v ∷ rows) (suc r) n x d h e = row_is rows r n x d h e

  -- how many rows there are
  pub rows_counted : (rows : List (Vec A Global)) (table : List (List A)) → lists_of rows ≡ table → length rows ≡ length table
  rows_counted rows table is = sym (length-map rows (λ (v : Vec A Global). v.items)) ∙ ap length is

  pub rows_kept : (rows : List (Vec A Global)) (table : List (List A)) (r : ℕ) (row : Vec A Global) → lists_of rows ≡ table → length (lists_of (slice_set rows r row)) ≡ length table
  rows_kept rows table r row is = length-map (slice_set rows r row) (λ (v : Vec A Global). v.items) ∙ (length-set rows r row ∙ rows_counted rows table is)

  -- ---- one cell filled
  at_other : (rows : List (Vec A Global)) (r : ℕ) (row : Vec A Global) (c n : ℕ) → (c ≡ r → ⊥) → at_call (lists_of (slice_set rows r row)) c n ≡ at_call (lists_of rows) c n
  at_other [] r row c n other = refl
  at_other (v ∷ rows) zero row zero n other = absurd (other refl)
  at_other (v ∷ rows) zero row (suc c) n other = refl
  at_other (v ∷ rows) (suc r) row zero n other = refl
  at_other (v ∷ rows) (suc r) row (suc c) n other = at_other rows r row c n (λ e. other (ap suc e))

  at_same : (rows : List (Vec A Global)) (r : ℕ) (row row' : Vec A Global) (n : ℕ) → slice_get rows r ≡ Some row → at_call (lists_of (slice_set rows r row')) r n ≡ slice_get row'.items n
  at_same [] r row row' n here = absurd cc
  at_same (v ∷ rows) zero row row' n here = refl
  at_same (v ∷ rows) (suc r) row row' n here = at_same rows r row row' n here

  set_same : (xs : List A) (n : ℕ) (x y : A) → slice_get xs n ≡ Some y → slice_get (slice_set xs n x) n ≡ Some x
  set_same [] n x y here = absurd cc
  set_same (z ∷ xs) zero x y here = refl
  set_same (z ∷ xs) (suc n) x y here = set_same xs n x y here

  set_other : (xs : List A) (n : ℕ) (x : A) (m : ℕ) → (m ≡ n → ⊥) → slice_get (slice_set xs n x) m ≡ slice_get xs m
  set_other [] n x m other = refl
  set_other (z ∷ xs) zero x zero other = absurd (other refl)
  set_other (z ∷ xs) zero x (suc m) other = refl
  set_other (z ∷ xs) (suc n) x zero other = refl
  set_other (z ∷ xs) (suc n) x (suc m) other = set_other xs n x m (λ e. other (ap suc e))

module _ {P : Type 0} where
  cell_filled : (rows : List (Vec (Option P) Global)) (r n : ℕ) (value : P) (row row' : Vec (Option P) Global) → slice_get rows r ≡ Some row → at_call (lists_of rows) r n ≡ Some None → row'.items ≡ slice_set row.items n (Some value)
      → Puts (at_call (lists_of rows)) r n value true (at_call (lists_of (slice_set rows r row')))
  cell_filled rows r n value row row' here empty is = (
    empty,
    at_same rows r row row' n here ∙ (ap (λ xs. slice_get xs n) is ∙ set_same row.items n (Some value) None (sym (at_row rows r row n here) ∙ empty)),
    λ c m other. elim (cases_eq c r) as (λ _. at_call (lists_of (slice_set rows r row')) c m ≡ at_call (lists_of rows) c m) [
      | inr apart ↦ at_other rows r row' c m apart
      | inl e ↦ rw e (at_same rows r row row' m here ∙ (ap (λ xs. slice_get xs m) is ∙ (set_other row.items n (Some value) m (λ k. other e k) ∙ sym (at_row rows r row m here))))
    ],
  )

  -- the cell of a table that was empty is filled, the others are kept
  pub filled : (rows : List (Vec (Option P) Global)) (table : List (List (Option P))) (r n : ℕ) (value : P) (row row' : Vec (Option P) Global) → lists_of rows ≡ table → slice_get rows r ≡ Some row → at_call table r n ≡ Some None → row'.items ≡ slice_set row.items n (Some value)
      → Puts (at_call table) r n value true (at_call (lists_of (slice_set rows r row')))
  filled rows table r n value row row' is here empty set =
      subst (λ (t : List (List (Option P))). Puts (at_call t) r n value true (at_call (lists_of (slice_set rows r row')))) is
      (cell_filled rows r n value row row' here (ap (λ (t : List (List (Option P))). at_call t r n) is ∙ empty) set)

-- ---- row by row
-- one more row
pub row_pushed : {A : Type 0} (rows : List (Vec A Global)) (table : List (List A)) (row : Vec A Global) (cells : List A) → lists_of rows ≡ table → row.items ≡ cells → lists_of (rows ++ row ∷ []) ≡ table ++ cells ∷ []
row_pushed rows table row cells is same = map_push (λ (v : Vec _ Global). v.items) rows row ∙ (λ i. is i ++ same i ∷ [])

take_push : {A B : Type 0} (f : A → B) (xs : List A) (i : ℕ) (y : A) → slice_get xs i ≡ Some y → take (suc i) (map f xs) ≡ take i (map f xs) ++ f y ∷ []
take_push f [] i y here = absurd cc
take_push f (x ∷ xs) zero y here = let e : x ≡ y = cc in ap (λ z. f z ∷ []) e
take_push f (x ∷ xs) (suc i) y here = ap (λ t. f x ∷ t) (take_push f xs i y here)

pub fresh_more : {V A : Type 0} (f : V → List A) (P : Type 0) (lists : List V) (table : List (List (Option P))) (i : ℕ) (list : V) → slice_get lists i ≡ Some list
    → table ≡ fresh_rows P (take i (map f lists)) → table ++ fresh_row P (f list) ∷ [] ≡ fresh_rows P (take (i + 1) (map f lists))
fresh_more f P lists table i list here before =
    ap (λ (t : List (List (Option P))). t ++ fresh_row P (f list) ∷ []) before
    ∙ (sym (map_push (fresh_row P) (take i (map f lists)) (f list))
    ∙ ap (fresh_rows P) (sym (take_push f lists i list here) ∙ ap (λ n. take n (map f lists)) next))
  where
    next : suc i ≡ i + 1
    next = omega arith

-- the rows of a table behind those of another
pub appended : {A T E : Type 0} (r : Result T E) (now low high : List (Vec A Global)) (front back : List (List A)) → lists_of low ≡ front → lists_of high ≡ back → now ≡ (if is_ok r then low ++ high else low) → OnOk r (lists_of now ≡ front ++ back)
appended (Ok x) now low high front back l h is = ap (λ (rows : List (Vec _ Global)). lists_of rows) is ∙ (map-append (λ (v : Vec _ Global). v.items) low high ∙ (λ i. l i ++ h i))
appended (Err e) now low high front back l h is = tt
