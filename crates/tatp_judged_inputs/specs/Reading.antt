-- What was read of a history, and why it is none.
use Rattle.std.specs.Prelude.{◌≡◌, ℕ, ◌+◌, List, [], ◌∷◌, ◌++◌, length, Option, Some, Result, Ok, Err}
use Rattle.tatp_streams.specs.LineReading.{LinesLeft}
use Rattle.tatp_streams.specs.declared.fault.StreamFault.TheVariants.{WriteFault}
use Rattle.tatp_history.specs.declared.line.Line.{Line}
use Rattle.tatp_history_lines.specs.declared.fault.LineFault.{LineFault}
use Rattle.tatp_history_lines.specs.declared.fault.LineFault.TheVariants as lines
use Rattle.tatp_history_lines.specs.Open.{open_call}
use Rattle.tatp_judged_inputs.specs.declared.history_fault.HistoryFault.{HistoryFault}
use Rattle.tatp_judged_inputs.specs.declared.history_fault.HistoryFault.TheVariants.{BadLine, BadArgument, Stream}
use Rattle.tatp_inputs.specs.Parts.{before_dot, after_dot}
use Rattle.tatp_judge.specs.declared.judge.Judge.{Judge}
use Rattle.tatp_judge.specs.declared.judge.Verdict.{Verdict}
use Rattle.tatp_judge.specs.declared.judge.Verdict.TheVariants.{Illegal}
use Rattle.tatp_judge.specs.Aside.{undecided_in}
use Rattle.tatp_judge.specs.Parts.{IsPart}
use Rattle.tatp_judged_inputs.specs.Views.{HasCounted, HasFollowed, HasKept, IsSaid, View}
use Rattle.tatp_judged_inputs.specs.declared.reading.Reading.{Reading}
use Rattle.tatp_judged_inputs.specs.HistoryTexts.{Told, BadText, said_in, history_from, none_open}

-- each line that was read has its number, and the part is that of the view
pub record IsNumbered (u : View) (r : Reading) (past : List Line) : Type 0 where
  pub count : length r.numbers.items ≡ length past
  pub part_is : u.part ≡ r.part
  pub possible : IsPart r.part

-- what was read
abbrev pub told_of : Reading → List Line → Told
told_of r past = record { numbers = r.numbers.items; lines = past }

-- these, and then what follows
abbrev pub before : Told → Result Told BadText → Result Told BadText
before first (Ok more) =
    Ok (record { numbers = first.numbers ++ more.numbers; lines = first.lines ++ more.lines })
before first (Err bad) = Err bad

-- what was read, and then the history that the texts from this number on hold
abbrev pub told_by : Reading → List Line → ℕ → List (List ℕ) → Result Told BadText
told_by r past number texts =
    before (told_of r past) (history_from (open_call r.opened) number texts)

-- the fault is that of the text with this number
abbrev pub RefusesText : ℕ → LineFault → HistoryFault → Type 0
RefusesText number lines.BadLine fault = fault ≡ BadLine number
RefusesText number (lines.BadArgument bad) fault = fault ≡ BadArgument number bad

abbrev pub RefusesAt : BadText → HistoryFault → Type 0
RefusesAt bad fault = RefusesText bad.number bad.fault fault

-- after the text with this number the judge has followed these lines, which are counted; the texts
-- that follow hold the rest
pub record GoesOn (u : View) (most : ℕ) (past : List Line) (number : ℕ) (text : List ℕ)
    (judge : Judge) (old new : Reading) : Type 0 where
  pub now : List Line
  pub followed : HasFollowed u most now judge
  pub numbered : IsNumbered u new now
  pub counted : HasCounted u now new.counts
  pub told : (more : List (List ℕ))
      → told_by new now (number + 1) more ≡ told_by old past number (text ∷ more)

-- where the verdict is that the lines are illegal, the judge keeps what explains it
abbrev pub IsKeptFor : View → List Line → Verdict → Judge → Type 0
IsKeptFor u past verdict judge =
    (line : ℕ) (s_id : Option ℕ) → verdict ≡ Illegal line s_id → HasKept u past judge

-- the text with this number says a line, which decides the history
pub record Decides (u : View) (most : ℕ) (past : List Line) (number : ℕ) (text : List ℕ)
    (verdict : Verdict) (judge : Judge) (old new : Reading) : Type 0 where
  pub line : Line
  pub said : said_in (open_call old.opened) text ≡ Ok (Some line)
  pub part_same : new.part ≡ old.part
  pub numbers_are : new.numbers.items ≡ old.numbers.items ++ number ∷ []
  pub counted : HasCounted u (past ++ line ∷ []) new.counts
  pub decided : IsSaid u most (past ++ line ∷ []) (undecided_in judge) verdict
  pub kept : IsKeptFor u (past ++ line ∷ []) verdict judge

-- the fault is that of the first text that is no line. A reader can fail, and memory run out, at
-- any text
abbrev pub RefusesHistory : Result Told BadText → HistoryFault → Type 0
RefusesHistory told (BadLine n) =
    told ≡ Err (record { number = n; fault = lines.BadLine })
RefusesHistory told (BadArgument n bad) =
    told ≡ Err (record { number = n; fault = lines.BadArgument bad })
RefusesHistory told (Stream WriteFault) = ⊥
RefusesHistory told (Stream fault) = Unit {0}

-- ---- up to a line `.`
-- the lines up to the first line `.` are taken, and hold these lines of a history; `before` and
-- `after` are how many lines are taken in all before and after that
pub record ReadsToDot (past : List Line) (before after : ℕ) (all left : LinesLeft) : Type 0 where
  pub told : Told
  pub tell : history_from none_open (before + 1) (before_dot all.lines) ≡ Ok told
  pub lines_are : told.lines ≡ past
  pub later : after_dot all.lines ≡ Some left.lines
  pub counted : after ≡ before + length (before_dot all.lines) + 1
