-- What the command `judge` writes, and what each fault leaves behind. Old and new are the bytes
-- that a writer holds.
use Rattle.std.specs.Prelude.{◌≡◌, ◌⊎◌, ℕ, zero, suc, ◌+◌, ◌-◌, length, take, Bool, true, false, if◌then◌else◌, List, [], ◌∷◌, ◌++◌, Option, Some, None, Ok, Err, codes, decimal}
use Rattle.std.specs.Io.KnownBytes.{Appends}
use Rattle.tatp_lines.specs.Lines.{lines_of}
use Rattle.tatp_tables.specs.Database.{database_of}
use Rattle.tatp_tables.specs.declared.row.Rows.{Rows}
use Rattle.tatp_extents.specs.Opening.{RefusesRows}
use Rattle.tatp_streams.specs.Writing.{LeavesText}
use Rattle.tatp_streams.specs.declared.fault.StreamFault.TheVariants.{WriteFault}
use Rattle.tatp_calls.specs.declared.ask.Ask.{Ask}
use Rattle.tatp_calls.specs.declared.ask.Ask.TheVariants.{Txn}
use Rattle.tatp_calls.specs.declared.reply.Reply.{Reply}
use Rattle.tatp_calls.specs.ReplyText.{reply_text}
use Rattle.tatp_judge.specs.declared.aside.Undecided.{Undecided}
use Rattle.tatp_judge.specs.declared.legal.LegalReplies.{LegalReplies}
use Rattle.tatp_tasks.specs.declared.judging.JudgePlan.{JudgePlan}
use Rattle.tatp_tasks.specs.declared.population.Population.{Population}
use Rattle.tatp_inputs.specs.Parts.{before_dot}
use Rattle.tatp_inputs.specs.Work.{Work, work_of, lines_before}
use Rattle.tatp_inputs.specs.declared.fault.InputFault.{InputFault}
use Rattle.tatp_inputs.specs.declared.fault.InputFault.TheVariants as input
use Rattle.tatp_judge.specs.declared.stakes.Stakes.{Stakes}
use Rattle.tatp_judged_inputs.specs.HistoryTexts.{history_from, none_open}
use Rattle.tatp_judged_inputs.specs.Reading.{RefusesHistory}
use Rattle.tatp_judged_inputs.specs.declared.history_fault.HistoryFault.{HistoryFault}
use Rattle.tatp_judged_inputs.specs.declared.history_fault.HistoryFault.TheVariants as history
use Rattle.tatp_judge.specs.declared.part.Part.{Part}
use Rattle.tatp_judged_inputs.specs.Views.{View}
use Rattle.tatp_judged_inputs.specs.Judged.{IsJudgement}
use Rattle.tatp_judged_inputs.specs.RowsAtEnd.{AreAdmitted, IsJudgementTo, rows_at_end}
use Rattle.tatp_judged_inputs.specs.declared.fault.JudgeFault.{JudgeFault}
use Rattle.tatp_judged_inputs.specs.declared.fault.JudgeFault.TheVariants.{BadLine, BadArgument, Unopened, Stream}
use Rattle.tatp_judged_inputs.specs.declared.judging.Judged.{Judged}
use Rattle.tatp_judged_inputs.specs.declared.judging.Judgement.{Judgement}
use Rattle.tatp_judged_inputs.specs.declared.judging.Window.{Window}
use Rattle.tatp_judged_inputs.specs.declared.judging.Judged.TheVariants.{Legal, Illegal, Unreached}

-- ---- an input
-- `P` holds of the rows and the lines that the lines of an input bring
abbrev pub OfWork : Population → List (List ℕ) → (Work → Type 0) → Type 0
OfWork population lines P = (work : Work) × (work_of population 1 lines ≡ Ok work) × P work

-- this is said of the history in the lines, and of the rows at its end where these follow it
abbrev pub IsJudgedWith
    : Bool → View → ℕ → ℕ → List (List ℕ) → Judgement → Type 0
IsJudgedWith false u most taken texts j =
    IsJudgement u most taken texts j.judged j.undecided.items j.window
IsJudgedWith true u most taken texts j =
    IsJudgementTo u most taken texts j.judged j.undecided.items j.window

-- the part of a history that is asked for
abbrev pub part_asked : JudgePlan → Part
part_asked plan = record { number = plan.part; count = plan.parts }

-- what is judged: that part of a history that begins with these rows
abbrev pub view_asked : JudgePlan → Rows → View
view_asked plan rows = record { rows = database_of rows; part = part_asked plan }

-- the history begins with the rows; `taken` lines of the input come before it, and at most
-- `plan.most` configurations of a subscriber are kept
pub record JudgesWork (plan : JudgePlan) (work : Work) (taken : ℕ) (judgement : Judgement)
    : Type 0 where
  pub admitted : AreAdmitted work.rows
  pub is : IsJudgedWith plan.final_rows (view_asked plan work.rows) plan.most taken work.lines
      judgement

abbrev pub JudgesInput : JudgePlan → List (List ℕ) → Judgement → Type 0
JudgesInput plan lines judgement = OfWork plan.population lines
    (λ work. JudgesWork plan work (lines_before plan.population lines) judgement)

-- ---- why nothing is said
-- the lines of a history: where the rows at its end follow it, those before a line `.`
abbrev pub history_texts : Bool → List (List ℕ) → List (List ℕ)
history_texts final texts = if final then before_dot texts else texts

-- the lines after the rows are refused: they are no history, or the rows at its end are wrong
abbrev pub RefusesTexts : Bool → ℕ → List (List ℕ) → JudgeFault → Type 0
RefusesTexts final taken texts (BadLine n) =
    RefusesHistory (history_from none_open (taken + 1) (history_texts final texts))
    (history.BadLine n)
    ⊎ ((final ≡ true) × (rows_at_end taken texts ≡ Err n))
RefusesTexts final taken texts (BadArgument n bad) = RefusesHistory
    (history_from none_open (taken + 1) (history_texts final texts)) (history.BadArgument n bad)
RefusesTexts final taken texts (Unopened error) =
    (final ≡ true) × ((rows : Rows) × (rows_at_end taken texts ≡ Ok rows) × RefusesRows rows error)
RefusesTexts final taken texts (Stream WriteFault) = ⊥
RefusesTexts final taken texts (Stream fault) = Unit {0}

-- they are refused, after rows that are admitted
abbrev pub RefusesAfterRows : JudgePlan → List (List ℕ) → JudgeFault → Type 0
RefusesAfterRows plan lines fault = OfWork plan.population lines (λ work. AreAdmitted work.rows
    × RefusesTexts plan.final_rows (lines_before plan.population lines) work.lines fault)

-- a fault of the rows comes before one of the history. A reader can fail, and memory run out, at
-- any line
abbrev pub RefusesInput : JudgePlan → List (List ℕ) → JudgeFault → Type 0
RefusesInput plan lines (BadLine n) =
    (work_of plan.population 1 lines ≡ Err n) ⊎ RefusesAfterRows plan lines (BadLine n)
RefusesInput plan lines (BadArgument n bad) = RefusesAfterRows plan lines (BadArgument n bad)
RefusesInput plan lines (Unopened error) =
    OfWork plan.population lines (λ work. RefusesRows work.rows error)
    ⊎ RefusesAfterRows plan lines (Unopened error)
RefusesInput plan lines (Stream WriteFault) = ⊥
RefusesInput plan lines (Stream fault) = Unit {0}

-- ---- what is written
-- a word, a number and a line feed
abbrev pub number_line : List ℕ → ℕ → List ℕ
number_line word number = word ++ (decimal number ++ 10 ∷ [])

-- the line that names a subscriber
abbrev pub subscriber_line : Option ℕ → List ℕ
subscriber_line None = []
subscriber_line (Some s) = number_line (codes "SUBSCRIBER ") s

-- a line for each line of a window
abbrev pub window_lines : List ℕ → List ℕ
window_lines [] = []
window_lines (number ∷ more) = number_line (codes "LINE ") number ++ window_lines more

-- the line of a reply with which a call could have been answered
abbrev pub could_line : Ask → Reply → List ℕ
could_line ask reply = codes "COULD " ++ (reply_text ask reply ++ 10 ∷ [])

abbrev pub could_lines : Ask → List Reply → List ℕ
could_lines ask [] = []
could_lines ask (reply ∷ more) = could_line ask reply ++ could_lines ask more

-- how many more there are, if there are any
abbrev pub more_line : ℕ → List ℕ
more_line zero = []
more_line (suc n) = number_line (codes "MORE ") (suc n)

-- lines of at most eight of them
abbrev pub legal_lines : Option LegalReplies → List ℕ
legal_lines None = []
legal_lines (Some legal) =
    could_lines (Txn legal.call) (take 8 legal.replies.items)
    ++ more_line (length legal.replies.items - 8)

-- the lines of a window, and of the replies that are legal there
abbrev pub told_lines : Window → List ℕ
told_lines window = window_lines window.lines.items ++ legal_lines window.legal

-- the lines that say what was at stake
abbrev pub stakes_lines : Stakes → List ℕ
stakes_lines stakes =
    number_line (codes "ANSWERED ") stakes.answered
    ++ (number_line (codes "ABORTED ") stakes.aborted
    ++ (number_line (codes "UNANSWERED ") stakes.unanswered
    ++ (number_line (codes "SUBSCRIBERS ") stakes.subscribers
    ++ (number_line (codes "OVERLAPPED ") stakes.overlapped
    ++ (number_line (codes "CONFLICTED ") stakes.conflicted
    ++ number_line (codes "WIDEST ") stakes.widest)))))

-- two lines for each subscriber that is set aside
abbrev pub undecided_lines : List Undecided → List ℕ
undecided_lines [] = []
undecided_lines (one ∷ more) = number_line (codes "UNDECIDED ") one.line
    ++ (subscriber_line (Some one.s_id) ++ undecided_lines more)

-- the word before what is said of all others
abbrev pub others_word : List Undecided → List ℕ
others_word [] = []
others_word (one ∷ more) = codes "OTHERS "

-- what was at stake is reported where no subscriber is set aside
abbrev pub stakes_told : List Undecided → Stakes → List ℕ
stakes_told [] stakes = stakes_lines stakes
stakes_told (one ∷ more) stakes = []

-- what is said of these others
abbrev pub judged_lines : List Undecided → Judged → Window → List ℕ
judged_lines aside (Legal stakes) window = codes "LEGAL" ++ (10 ∷ stakes_told aside stakes)
judged_lines aside (Illegal number s_id) window =
    number_line (codes "ILLEGAL ") number ++ (subscriber_line s_id ++ told_lines window)
judged_lines aside (Unreached number s) window =
    number_line (codes "ILLEGAL ") number ++ subscriber_line (Some s)

-- the lines that say all of it, each with its line feed
abbrev pub judgement_lines : Judgement → List ℕ
judgement_lines j = undecided_lines j.undecided.items
    ++ (others_word j.undecided.items
    ++ judged_lines j.undecided.items j.judged j.window)

-- the text reports what is said of the input
pub record TellsJudged (plan : JudgePlan) (input text : List ℕ) : Type 0 where
  pub judgement : Judgement
  pub is : JudgesInput plan (lines_of input) judgement
  pub told : text ≡ judgement_lines judgement

-- this is said of the input, and new is old with the lines of it appended
pub record WritesJudged (plan : JudgePlan) (input : List ℕ) (judgement : Judgement)
    (old new : Option (List ℕ)) : Type 0 where
  pub is : JudgesInput plan (lines_of input) judgement
  pub written : Appends old new (judgement_lines judgement)

-- what each fault says of the input, and leaves behind
abbrev pub LeavesJudged : JudgePlan → List ℕ → Option (List ℕ) → Option (List ℕ)
    → JudgeFault → Type 0
LeavesJudged plan input old new (Stream fault) =
    LeavesText (TellsJudged plan input) old new fault
LeavesJudged plan input old new fault =
    RefusesInput plan (lines_of input) fault × Appends old new []

-- ---- the same faults among those of the command
abbrev pub input_fault : InputFault → JudgeFault
input_fault (input.BadLine number) = BadLine number
input_fault (input.Stream fault) = Stream fault

abbrev pub history_fault : HistoryFault → JudgeFault
history_fault (history.BadLine number) = BadLine number
history_fault (history.BadArgument number bad) = BadArgument number bad
history_fault (history.Stream fault) = Stream fault
