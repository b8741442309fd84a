-- What the command `audit` writes, and what each fault leaves.
use Rattle.std.specs.Prelude.{◌≡◌, ℕ, Bool, List, [], ◌∷◌, ◌++◌, Option, Ok, Err}
use Rattle.std.specs.Io.KnownBytes.{Appends}
use Rattle.tatp_lines.specs.Lines.{lines_of}
use Rattle.tatp_tables.specs.declared.row.Rows.{Rows}
use Rattle.tatp_audits.specs.declared.verdict.Verdict.{Verdict}
use Rattle.tatp_audits.specs.Audits.{IsVerdict, says_clean}
use Rattle.tatp_audits.specs.Printing.{verdict_text}
use Rattle.tatp_streams.specs.Writing.{LeavesText}
use Rattle.tatp_inputs.specs.declared.fault.InputFault.{InputFault}
use Rattle.tatp_inputs.specs.declared.fault.InputFault.TheVariants.{BadLine, Stream}
use Rattle.tatp_inputs.specs.RowLines.{rows_of_lines}

-- the verdict is that on the rows that the lines of the input are
pub record IsVerdictOn (input : List ℕ) (verdict : Verdict) : Type 0 where
  pub rows : Rows
  pub read : rows_of_lines 1 (lines_of input) ≡ Ok rows
  pub judged : IsVerdict rows verdict

-- a verdict and a line feed
abbrev pub verdict_line : Verdict → List ℕ
verdict_line verdict = verdict_text verdict ++ 10 ∷ []

-- the text is the line of the verdict on the input
pub record TellsVerdict (input : List ℕ) (text : List ℕ) : Type 0 where
  pub verdict : Verdict
  pub found : IsVerdictOn input verdict
  pub told : text ≡ verdict_line verdict

-- old and new are the bytes that a writer holds: new is old and then the verdict, and `clean` is
-- whether the verdict is that the rows are clean
pub record WritesVerdict (input : List ℕ) (old new : Option (List ℕ)) (clean : Bool) : Type 0 where
  pub verdict : Verdict
  pub found : IsVerdictOn input verdict
  pub written : Appends old new (verdict_line verdict)
  pub says : clean ≡ says_clean verdict

-- what each fault says of the input, and what it leaves of the output
abbrev pub LeavesVerdict : List ℕ → Option (List ℕ) → Option (List ℕ) → InputFault → Type 0
LeavesVerdict input old new (BadLine n) =
    (rows_of_lines 1 (lines_of input) ≡ Err n) × Appends old new []
LeavesVerdict input old new (Stream fault) = LeavesText (TellsVerdict input) old new fault
