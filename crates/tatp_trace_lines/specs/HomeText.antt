-- The rows of a home as lines of a population text: docs/FORMATS.md.
use Rattle.std.specs.Prelude.{List, [], ◌∷◌, ◌++◌, ℕ}
use Rattle.tatp_tables.specs.Database.{Database}
use Rattle.tatp_texts.specs.Text.{text_of}
use Rattle.tatp_tables.specs.Tuples.{Tuple, rows_of}
use Rattle.tatp_tables.specs.declared.row.Row.{Row}
use Rattle.tatp_tables.specs.declared.row.Row.TheVariants.{S, A, F, C}

-- a line for each row of a table
abbrev pub rows_text : (Tuple → Row) → List Tuple → List ℕ
rows_text row [] = []
rows_text row (columns ∷ more) = text_of (row columns) ++ 10 ∷ rows_text row more

-- table by table, each by key
abbrev pub home_text : Database → List ℕ
home_text u =
    rows_text S (rows_of u.subscribers)
    ++ (rows_text A (rows_of u.accesses)
    ++ (rows_text F (rows_of u.facilities) ++ rows_text C (rows_of u.forwardings)))
