-- The first column of a row outside its domain: a loop's steps.
use Rattle.std.specs.Prelude.{◌≡◌, ℕ, suc, ◌+◌, ◌≤◌, ◌<◌, ◌==◌, true, false, ◌&&◌, [], ◌∷◌, length, drop, slice_index, if◌then◌else◌}
use Rattle.std.proofs.Common.{refl, sym, ap, ◌∙◌, arith, drop-cons, length-drop}
use Rattle.std.proofs.lemmas.Bool.Decides.{nat_tests}
use Rattle.tatp_tables.specs.Tuples.{Tuple}
use Rattle.tatp_tables.specs.Columns.{column_count, first_column}
use Rattle.tatp_tables.specs.Domains.{is_in_domain, are_in_domain, is_row}
use Rattle.tatp_tables.specs.declared.table.Table.{Table}
use Rattle.tatp_audits.specs.Audits.{column_outside}

-- the columns before place i have values in their domains
pub record IsFineUpTo (c : ℕ) (row : Tuple) (i : ℕ) : Type 0 where
  pub domain : are_in_domain c row ≡ are_in_domain (c + i) (drop i row)
  pub column : column_outside c row ≡ column_outside (c + i) (drop i row)

pub fine_none : (c : ℕ) (row : Tuple) → IsFineUpTo c row 0
fine_none c row = let e : c ≡ c + 0 = omega arith in record { domain = ap (λ n. are_in_domain n row) e; column = ap (λ n. column_outside n row) e }

at_place : (row : Tuple) (i : ℕ) → i < length row → drop i row ≡ slice_index row i ∷ drop (suc i) row
at_place row i h = drop-cons row i 0 h

pub fine_more : (c : ℕ) (row : Tuple) (i : ℕ) → IsFineUpTo c row i → i < length row → is_in_domain (c + i) (slice_index row i) ≡ true → IsFineUpTo c row (i + 1)
fine_more c row i fine h e =
    let n : suc (c + i) ≡ c + (i + 1) = omega arith in
    let m : suc i ≡ i + 1 = omega arith in
    record {
      domain = fine.domain ∙ ap (are_in_domain (c + i)) (at_place row i h) ∙ ap (λ b. b && are_in_domain (suc (c + i)) (drop (suc i) row)) e ∙ (λ k. are_in_domain (n k) (drop (m k) row));
      column = fine.column ∙ ap (column_outside (c + i)) (at_place row i h) ∙ ap (λ b. if b then column_outside (suc (c + i)) (drop (suc i) row) else c + i) e ∙ (λ k. column_outside (n k) (drop (m k) row));
    }

pub fine_stops : (c : ℕ) (row : Tuple) (i : ℕ) → IsFineUpTo c row i → i < length row → is_in_domain (c + i) (slice_index row i) ≡ false → (are_in_domain c row ≡ false) × (c + i ≡ column_outside c row)
fine_stops c row i fine h e = (
  fine.domain ∙ ap (are_in_domain (c + i)) (at_place row i h) ∙ ap (λ b. b && are_in_domain (suc (c + i)) (drop (suc i) row)) e,
  sym (fine.column ∙ ap (column_outside (c + i)) (at_place row i h) ∙ ap (λ b. if b then column_outside (suc (c + i)) (drop (suc i) row) else c + i) e),
)

nothing_left : (row : Tuple) (i : ℕ) → length row ≤ i → drop i row ≡ []
nothing_left row i h = empty (drop i row) (simp length-drop (omega arith))
  where
    empty : (xs : Tuple) → length xs ≤ 0 → xs ≡ []
    empty [] h = refl
    empty (x ∷ xs) h = absurd (omega arith)

pub fine_all : (c : ℕ) (row : Tuple) (i : ℕ) → IsFineUpTo c row i → length row ≤ i → are_in_domain c row ≡ true
fine_all c row i fine h = fine.domain ∙ ap (are_in_domain (c + i)) (nothing_left row i h)

-- a row with as many columns as its table is a row of it where they fit
pub is_row-fits : (t : Table) (row : Tuple) → length row ≡ column_count t → is_row t row ≡ are_in_domain (first_column t) row
is_row-fits t row e = let h : (length row == column_count t) ≡ true = grind (arith, nat_tests) in ap (λ b. b && are_in_domain (first_column t) row) h
