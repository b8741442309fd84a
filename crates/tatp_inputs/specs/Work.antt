-- The rows of a run, and the lines that it answers.
use Rattle.std.specs.Prelude.{◌≡◌, ℕ, ◌+◌, ◌≤◌, List, length, Option, Some, None, Result, Ok, Err}
use Rattle.tatp_limits.specs.declared.limits.TheConstants.{MAX_SUBSCRIBERS}
use Rattle.rand_core.specs.Stream.{next_u64}
use Rattle.rand_core.specs.Steps.{stream_of, steps_u64_low}
use Rattle.rand_pcg.specs.Lcg.{started, increment_of}
use Rattle.rand_pcg.specs.Pcg.{pcg64, multiplier_128}
use Rattle.tatp_streams.specs.LineReading.{LinesLeft}
use Rattle.tatp_tables.specs.Clean.{IsClean}
use Rattle.tatp_tables.specs.declared.row.Rows.{Rows}
use Rattle.tatp_population.specs.DrawnRows as drawn
use Rattle.tatp_tasks.specs.declared.population.Population.{Population}
use Rattle.tatp_tasks.specs.declared.population.Population.TheVariants.{Read, Generated}
use Rattle.tatp_inputs.specs.Parts.{before_dot, after_dot}
use Rattle.tatp_inputs.specs.RowLines.{rows_of_lines}

-- rows, and the lines that are answered over them
pub record Work : Type 0 where
  pub rows : Rows
  pub lines : List (List ℕ)

-- ---- lines that have both
-- the work of the rows before the line `.` and the lines after it, or the number of the wrong line;
-- where the line `.` is missing, this number is n
abbrev pub work_by : ℕ → Result Rows ℕ → Option (List (List ℕ)) → Result Work ℕ
work_by n (Err bad) after = Err bad
work_by n (Ok rows) None = Err n
work_by n (Ok rows) (Some lines) = Ok (record { rows = rows; lines = lines })

-- the work of the lines from line n on, or the number of the line that is wrong
abbrev pub brought : ℕ → List (List ℕ) → Result Work ℕ
brought n lines =
    work_by (n + length lines) (rows_of_lines n (before_dot lines)) (after_dot lines)

-- how many lines the rows take, with the line `.`
abbrev pub lines_of_rows : List (List ℕ) → ℕ
lines_of_rows lines = length (before_dot lines) + 1

-- of all these lines the first are these rows, and the others are left; `before` and `after` say
-- how many lines were taken in all before this and after it
pub record BringsLines (rows : Rows) (before after : ℕ) (all left : LinesLeft) : Type 0 where
  pub work : brought (before + 1) all.lines ≡ Ok (record { rows = rows; lines = left.lines })
  pub counted : after ≡ before + lines_of_rows all.lines
  pub input : left.input ≡ all.input

-- ---- rows that are drawn
-- the rows of the subscribers 1 to n, drawn from the words of this seed
unfoldable pub generated : ℕ → ℕ → Rows
generated n seed =
    let start = started 128 multiplier_128 seed (increment_of 128 0) in
    (drawn.population next_u64 n (stream_of (steps_u64_low pcg64) start)).0

-- ---- either
-- the lines from line n on have both, or the rows are drawn and all of the lines are answered
abbrev pub work_of : Population → ℕ → List (List ℕ) → Result Work ℕ
work_of Read n lines = brought n lines
work_of (Generated count seed) n lines =
    Ok (record { rows = generated count seed; lines = lines })

-- how many of the lines come before those that are answered
abbrev pub lines_before : Population → List (List ℕ) → ℕ
lines_before Read lines = lines_of_rows lines
lines_before (Generated count seed) lines = 0

-- the work of all these lines has these rows, and the lines that are left; `before` and `after` say
-- how many lines were taken in all before this and after it
pub record BringsWork (population : Population) (rows : Rows) (before after : ℕ)
    (all left : LinesLeft) : Type 0 where
  pub work : work_of population (before + 1) all.lines
      ≡ Ok (record { rows = rows; lines = left.lines })
  pub counted : after ≡ before + lines_before population all.lines
  pub input : left.input ≡ all.input

-- where the population is drawn, these rows are clean, and not too many
abbrev pub AreCleanWhereDrawn : Population → Rows → Type 0
AreCleanWhereDrawn Read rows = Unit {0}
AreCleanWhereDrawn (Generated n seed) rows =
    IsClean rows × (length rows.subscribers ≤ MAX_SUBSCRIBERS)
