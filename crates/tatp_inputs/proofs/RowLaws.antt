-- Reading the rows of an input line by line.
use Rattle.std.specs.Prelude.{◌≡◌, ℕ, ◌+◌, Bool, true, false, List, [], ◌∷◌, Some, None, Result, Ok, Err, cond}
use Rattle.std.specs.List.{fold}
use Rattle.std.proofs.Common.{refl, sym, ap, ◌∙◌}
use Rattle.tatp_tables.specs.Rows.{with_row}
use Rattle.tatp_tables.specs.declared.row.Row.{Row}
use Rattle.tatp_tables.specs.declared.row.Rows.{Rows}
use Rattle.tatp_population.specs.PopulationText.{on_rows, in_tables}
use Rattle.tatp_streams.specs.LineReading.{LinesLeft, IsWithinLimit, with_line}
use Rattle.tatp_inputs.specs.Parts.{is_dot, before_dot}
use Rattle.tatp_inputs.specs.RowLines.{row_in, rows_from, rows_of_lines, TakesRows}
use Rattle.tatp_inputs.proofs.PartLaws.{PartSoFar, part_starts, part_goes_on, part_ends_at_dot, part_ends, dot_before}

-- these rows, and after them the rows of the lines from line n on up to the line `.`; else the number of the first that is no row
abbrev pub told_from : Rows → ℕ → List (List ℕ) → Result Rows ℕ
told_from rows n lines = on_rows (fold with_row rows) (rows_from n (before_dot lines))

-- ---- a line
row_first_told : (rows : Rows) (row : Row) (later : Result (List Row) ℕ)
    → on_rows (fold with_row rows) (on_rows (λ more. row ∷ more) later) ≡ on_rows (fold with_row (with_row rows row)) later
row_first_told rows row (Ok more) = refl
row_first_told rows row (Err n) = refl

row_told : (rows rows' : Rows) (row : Row) (n : ℕ) (line : List ℕ) (more : List (List ℕ)) (t : Bool) → t ≡ false → row_in line ≡ Some row → rows' ≡ with_row rows row
    → on_rows (fold with_row rows) (rows_from n (cond t [] (line ∷ before_dot more))) ≡ told_from rows' (n + 1) more
row_told rows rows' row n line more true dot is e = cc
row_told rows rows' row n line more false dot is e = rw (is, e) (row_first_told rows row (rows_from (n + 1) (before_dot more)))

no_row_told : (rows : Rows) (n : ℕ) (line : List ℕ) (more : List (List ℕ)) (t : Bool) → t ≡ false → row_in line ≡ None
    → on_rows (fold with_row rows) (rows_from n (cond t [] (line ∷ before_dot more))) ≡ Err n
no_row_told rows n line more true dot is = cc
no_row_told rows n line more false dot is = rw is refl

-- ---- the rows of the part
pub record RowsSoFar (rows : Rows) (before now : ℕ) (all left : LinesLeft) : Type 0 where
  pub told : told_from rows (now + 1) left.lines ≡ rows_of_lines (before + 1) (before_dot all.lines)
  pub part : PartSoFar before now all left

pub rows_start : (rows : Rows) (n : ℕ) (left : LinesLeft) → rows ≡ in_tables [] → RowsSoFar rows n n left left
rows_start rows n left e = record { told = ap (λ first. told_from first (n + 1) left.lines) e; part = part_starts n left }

pub rows_go_on : (rows rows' : Rows) (row : Row) (before now now' : ℕ) (line : List ℕ) (all left : LinesLeft) → is_dot line ≡ false → row_in line ≡ Some row → rows' ≡ with_row rows row → now' ≡ now + 1
    → RowsSoFar rows before now all (with_line line left) → RowsSoFar rows' before now' all left
rows_go_on rows rows' row before now now' line all left dot is e next s = record {
  told = ap (λ n. told_from rows' (n + 1) left.lines) next ∙ (sym (row_told rows rows' row (now + 1) line left.lines (is_dot line) dot is e) ∙ s.told);
  part = part_goes_on before now now' line all left dot next s.part;
}

pub rows_end_at_dot : (rows : Rows) (before now now' : ℕ) (line : List ℕ) (all left : LinesLeft) → is_dot line ≡ true → now' ≡ now + 1 → RowsSoFar rows before now all (with_line line left) → TakesRows true rows before now' all left
rows_end_at_dot rows before now now' line all left dot next s = record {
  read = sym s.told ∙ ap (λ part. on_rows (fold with_row rows) (rows_from (now + 1) part)) (dot_before (is_dot line) line left.lines dot);
  part = part_ends_at_dot before now now' line all left dot next s.part;
}

pub rows_end : (rows : Rows) (before now now' : ℕ) (all left : LinesLeft) → left.lines ≡ [] → IsWithinLimit left.input → now' ≡ now → RowsSoFar rows before now all left → TakesRows false rows before now' all left
rows_end rows before now now' all left none within same s = record {
  read = sym s.told ∙ ap (told_from rows (now + 1)) none;
  part = part_ends before now now' all left none within same s.part;
}

pub row_refused : (rows : Rows) (before now now' : ℕ) (line : List ℕ) (all left : LinesLeft) → is_dot line ≡ false → row_in line ≡ None → now' ≡ now + 1 → RowsSoFar rows before now all (with_line line left)
    → rows_of_lines (before + 1) (before_dot all.lines) ≡ Err now'
row_refused rows before now now' line all left dot is next s = sym s.told ∙ (no_row_told rows (now + 1) line left.lines (is_dot line) dot is ∙ ap Err (sym next))
