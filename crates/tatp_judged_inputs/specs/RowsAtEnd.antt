-- A history that is followed by a line `.` and the rows at its end: docs/FORMATS.md.
use Rattle.std.specs.Prelude.{◌≡◌, ℕ, ◌+◌, ◌≤◌, List, length, map, Option, Some, None, Result, Ok, Err}
use Rattle.tatp_limits.specs.declared.limits.TheConstants.{MAX_SUBSCRIBERS}
use Rattle.tatp_tables.specs.Clean.{IsClean}
use Rattle.tatp_tables.specs.Database.{Database, database_of}
use Rattle.tatp_tables.specs.declared.row.Rows.{Rows}
use Rattle.tatp_history.specs.declared.line.Line.{Line}
use Rattle.tatp_inputs.specs.Parts.{before_dot, after_dot}
use Rattle.tatp_inputs.specs.RowLines.{rows_of_lines}
use Rattle.tatp_judge.specs.declared.finishing.FinalVerdict.{FinalVerdict}
use Rattle.tatp_judge.specs.declared.finishing.FinalVerdict.TheVariants as final
use Rattle.tatp_judge.specs.declared.stakes.Stakes.{Stakes}
use Rattle.tatp_judge.specs.declared.aside.Undecided.{Undecided}
use Rattle.tatp_judge.specs.Verdicts.{IsOther}
use Rattle.tatp_judged_inputs.specs.Views.{IsFirstUnreached, LeadsTo, View}
use Rattle.tatp_judged_inputs.specs.Judged.{Tell, TellLegal, TellStakes, AreUndecidedAt, AreUnexplainedAt, IsIllegalAt, IsWindowOf}
use Rattle.tatp_judged_inputs.specs.declared.judging.Judged.{Judged}
use Rattle.tatp_judged_inputs.specs.declared.judging.Window.{Window}
use Rattle.tatp_judged_inputs.specs.declared.judging.Judged.TheVariants.{Legal, Illegal, Unreached}

-- a history can begin with these rows, or end with them
pub record AreAdmitted (rows : Rows) : Type 0 where
  pub few : length rows.subscribers ≤ MAX_SUBSCRIBERS
  pub clean : IsClean rows

-- ---- the rows at the end
-- the number that the line `.` after the history has in the input, where `taken` lines come before
-- the history
abbrev pub dot_number : ℕ → List (List ℕ) → ℕ
dot_number taken texts = taken + length (before_dot texts) + 1

-- the rows in the lines after the line `.`, of which the first has this number; where the line `.`
-- is missing, its number would be n
abbrev pub rows_after : ℕ → ℕ → Option (List (List ℕ)) → Result Rows ℕ
rows_after n first None = Err n
rows_after n first (Some lines) = rows_of_lines first lines

-- the rows; else the number of the line that is wrong
abbrev pub rows_at_end : ℕ → List (List ℕ) → Result Rows ℕ
rows_at_end taken texts =
    rows_after (taken + length texts + 1) (dot_number taken texts + 1) (after_dot texts)

-- ---- what is said
-- the texts bring a history, and rows at its end that are admitted, of which this holds
pub record Bring (taken : ℕ) (texts : List (List ℕ)) (Holds : List Line → Database → Type 0)
    : Type 0 where
  pub rows : Rows
  pub read : rows_at_end taken texts ≡ Ok rows
  pub admitted : AreAdmitted rows
  pub holds : Tell taken (before_dot texts) (λ told. Holds told.lines (database_of rows))

-- the history is legal, no order leads to the rows, and this is the number of the line `.`
pub record IsUnreachedAt (u : View) (aside : List Undecided) (taken : ℕ) (texts : List (List ℕ))
    (number s : ℕ) : Type 0 where
  pub number_is : number ≡ dot_number taken texts
  pub legal : TellLegal u aside taken (before_dot texts)
  pub unreached : Bring taken texts (λ lines after. IsFirstUnreached u aside lines after s)

-- it is legal where some order leads to the rows. They aren't read where the history decides
abbrev pub IsJudgedTo : View → List Undecided → ℕ → List (List ℕ) → Judged → Type 0
IsJudgedTo u aside taken texts (Legal stakes) =
    Bring taken texts (LeadsTo u aside) × TellStakes u taken (before_dot texts) stakes
IsJudgedTo u aside taken texts (Illegal number s_id) =
    IsIllegalAt u aside taken (before_dot texts) number
    × AreUnexplainedAt u taken (before_dot texts) number s_id
    × IsOther aside s_id
IsJudgedTo u aside taken texts (Unreached number s) = IsUnreachedAt u aside taken texts number s

-- what is said of both, and what is reported with it
pub record IsJudgementTo (u : View) (most taken : ℕ) (texts : List (List ℕ)) (judged : Judged)
    (aside : List Undecided) (window : Window) : Type 0 where
  pub judged_is : IsJudgedTo u aside taken texts judged
  pub aside_are : AreUndecidedAt u most taken (before_dot texts) aside
  pub window_is : IsWindowOf u taken (before_dot texts) judged window

-- what is said of a legal history in which this was at stake, where the line `.` has this number
abbrev pub told_by_rows : Stakes → FinalVerdict → ℕ → Judged
told_by_rows stakes final.Reached dot = Legal stakes
told_by_rows stakes (final.Unreached s) dot = Unreached dot s

-- the s_ids alone
abbrev pub ids : List Undecided → List ℕ
ids aside = map (λ (one : Undecided). one.s_id) aside

-- those that are set aside for the rows at the end, by the last line before the line `.`
abbrev pub told_at : ℕ → List Undecided → List Undecided
told_at line aside = map (λ one. record { line = line; s_id = one.s_id }) aside
