-- The rows that lines are: docs/FORMATS.md.
use Rattle.std.specs.Prelude.{◌≡◌, ℕ, Bool, ◌+◌, List, [], ◌∷◌, Option, None, Result, Ok, if◌then◌else◌}
use Rattle.std.specs.Str.{is_utf8}
use Rattle.tatp_streams.specs.LineReading.{LinesLeft}
use Rattle.tatp_texts.specs.Text.{row_of}
use Rattle.tatp_tables.specs.declared.row.Row.{Row}
use Rattle.tatp_tables.specs.declared.row.Rows.{Rows}
use Rattle.tatp_population.specs.PopulationText.{on_rows, row_first, in_tables}
use Rattle.tatp_inputs.specs.Parts.{before_dot, TakesPart}

-- the row that a line is, if it is UTF-8 and a row
unfoldable pub row_in : List ℕ → Option Row
row_in line = if is_utf8 line then row_of line else None

-- the rows that the lines from line n on are, or the number of the first line that is no row
abbrev pub rows_from : ℕ → List (List ℕ) → Result (List Row) ℕ
rows_from n [] = Ok []
rows_from n (line ∷ more) = row_first n (row_in line) (rows_from (n + 1) more)

-- the same, table by table
abbrev pub rows_of_lines : ℕ → List (List ℕ) → Result Rows ℕ
rows_of_lines n lines = on_rows in_tables (rows_from n lines)

-- a part is taken up to the first line `.` or the end, and its lines are these rows
pub record TakesRows (dot : Bool) (rows : Rows) (before after : ℕ) (all left : LinesLeft)
    : Type 0 where
  pub read : rows_of_lines (before + 1) (before_dot all.lines) ≡ Ok rows
  pub part : TakesPart dot before after all left
