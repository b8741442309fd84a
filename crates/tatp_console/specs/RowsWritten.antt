-- The rows that `call --rows` writes after the replies: docs/FORMATS.md.
use Rattle.std.specs.Prelude.{ℕ, Bool, true, false, List, [], ◌++◌, codes}
use Rattle.std.specs.List.{flat_map, range_with_len}
use Rattle.tatp_tables.specs.Database.{Database, of_subscriber}
use Rattle.tatp_trace_lines.specs.HomeText.{home_text}

-- the rows of `count` subscribers from `first` on, one after another: those of each table by table,
-- each by key
abbrev pub rows_text : Database → ℕ → ℕ → List ℕ
rows_text u first count =
    flat_map (λ s. home_text (of_subscriber u s)) (range_with_len first count)

-- a line `.`, and the rows of the subscribers 1 to n
abbrev pub rows_told : ℕ → Database → List ℕ
rows_told n u = codes ".\n" ++ rows_text u 1 n

-- the same where rows are asked for, else nothing
abbrev pub rows_if_asked : Bool → ℕ → Database → List ℕ
rows_if_asked true n u = rows_told n u
rows_if_asked false n u = []
