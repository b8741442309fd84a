-- The history that texts hold, line by line: docs/FORMATS.md.
use Rattle.std.specs.Prelude.{ℕ, ◌+◌, List, [], ◌∷◌, Option, Some, None, Result, Ok, Err, if◌then◌else◌}
use Rattle.std.specs.Str.{is_utf8}
use Rattle.tatp_history.specs.declared.line.Line.{Line}
use Rattle.tatp_history_lines.specs.declared.fault.LineFault.{LineFault}
use Rattle.tatp_history_lines.specs.declared.fault.LineFault.TheVariants.{BadLine}
use Rattle.tatp_history_lines.specs.Open.{CallsOpen, opened_by}
use Rattle.tatp_history_lines.specs.Lines.{said_by}

-- lines, and the numbers of their texts
pub record Told : Type 0 where
  pub numbers : List ℕ
  pub lines : List Line

-- the number of the first text that is no line, and why it is none
pub record BadText : Type 0 where
  pub number : ℕ
  pub fault : LineFault

-- what a text says, which has to be UTF-8
unfoldable pub said_in : CallsOpen → List ℕ → Result (Option Line) LineFault
said_in opened text = if is_utf8 text then said_by opened text else Err BadLine

-- a line, and those that follow
abbrev pub onto : ℕ → Line → Result Told BadText → Result Told BadText
onto number line (Ok more) =
    Ok (record { numbers = number ∷ more.numbers; lines = line ∷ more.lines })
onto number line (Err bad) = Err bad

-- from what the text with this number says, and the history that those after it hold
abbrev pub tell_on
    : ℕ → CallsOpen → Result (Option Line) LineFault → (CallsOpen → Result Told BadText)
    → Result Told BadText
tell_on number opened (Ok None) rest = rest opened
tell_on number opened (Ok (Some line)) rest = onto number line (rest (opened_by opened line))
tell_on number opened (Err fault) rest = Err (record { number = number; fault = fault })

-- the history that the texts from this number on hold, where clients have these calls open
abbrev pub history_from : CallsOpen → ℕ → List (List ℕ) → Result Told BadText
history_from opened number [] = Ok (record { numbers = []; lines = [] })
history_from opened number (text ∷ more) =
    tell_on number opened (said_in opened text) (λ after. history_from after (number + 1) more)

-- no client has a call open
abbrev pub none_open : CallsOpen
none_open client = None
