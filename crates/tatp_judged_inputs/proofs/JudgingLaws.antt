-- What is said of an input, by what its parts tell.
use Rattle.std.proofs.Common.{◌≡◌, ℕ, List, [], Option, Some, None, sym, subst, arith, inl, inr}
use Rattle.std.proofs.lemmas.Option.{IfSome_then}
use Rattle.std.specs.Option.{IfSome}
use Rattle.tatp_lines.specs.Lines.{lines_of}
use Rattle.tatp_tables.specs.Database.{database_of}
use Rattle.tatp_tables.specs.declared.row.Rows.{Rows}
use Rattle.tatp_extents.specs.declared.open_error.OpenError.{OpenError}
use Rattle.tatp_extents.specs.Opening.{RefusesRows}
use Rattle.tatp_judge.specs.declared.judge.Judge.{Judge}
use Rattle.tatp_judge.specs.declared.part.Part.{Part}
use Rattle.tatp_judge.specs.Followed.{HasFollowed}
use Rattle.tatp_judge.specs.Parts.{IsPart}
use Rattle.tatp_judged_inputs.specs.Views.{IsBegun, View}
use Rattle.tatp_streams.specs.declared.fault.StreamFault.TheVariants.{NoMemory, ReadFault, WriteFault}
use Rattle.tatp_streams.specs.LineReading.{LineReaderState, nothing_taken, LinesLeft, lines_left, Relates}
use Rattle.tatp_streams.proofs.LineReadingLaws.{of_input, relates_known}
use Rattle.tatp_tasks.specs.declared.judging.JudgePlan.{JudgePlan}
use Rattle.tatp_tasks.specs.declared.population.Population.{Population}
use Rattle.tatp_inputs.specs.Work.{Work, lines_before, BringsWork}
use Rattle.tatp_judged_inputs.specs.Judging.{OfWork, part_asked, view_asked, IsJudgedWith, JudgesWork, JudgesInput, RefusesTexts, RefusesAfterRows, RefusesInput}
use Rattle.tatp_judged_inputs.specs.RowsAtEnd.{AreAdmitted}
use Rattle.tatp_judged_inputs.specs.declared.fault.JudgeFault.{JudgeFault}
use Rattle.tatp_judged_inputs.specs.declared.fault.JudgeFault.TheVariants.{BadLine, BadArgument, Unopened, Stream}
use Rattle.tatp_judged_inputs.specs.declared.judging.Judgement.{Judgement}

-- ---- the lines after the rows
-- so many lines of the input come before them
come_before : (population : Population) (rows : Rows) (n : ℕ) (all left : LinesLeft) → BringsWork population rows 0 n all left → n ≡ lines_before population all.lines
come_before population rows n all left b = omega (arith, b.counted)

-- what holds of the rows, of these lines and of how many come before is said of the input
of_work : (population : Population) (start : LineReaderState) (limit : ℕ) (known : Option (List ℕ)) (left : Option LinesLeft) (rows : Rows) (n : ℕ) (P : Work → ℕ → Type 0)
    → start ≡ nothing_taken limit → Relates (lines_left start known) left (BringsWork population rows start.number n) → IfSome left (λ l. P (record { rows = rows; lines = l.lines }) n)
    → IfSome known (λ input. OfWork population (lines_of input) (λ work. P work (lines_before population (lines_of input))))
of_work population start limit known left rows n P e b h =
    of_input known limit (λ all. OfWork population all.lines (λ work. P work (lines_before population all.lines)))
    (relates_known (lines_left (nothing_taken limit) known) left (BringsWork population rows 0 n) (λ l. P (record { rows = rows; lines = l.lines }) n)
    (λ all. OfWork population all.lines (λ work. P work (lines_before population all.lines))) (rw e at b) h
    (λ all l brings holds. (record { rows = rows; lines = l.lines }, brings.work, subst (P (record { rows = rows; lines = l.lines })) (come_before population rows n all l brings) holds)))

pub input_judged : (plan : JudgePlan) (start : LineReaderState) (limit : ℕ) (known : Option (List ℕ)) (left : Option LinesLeft) (rows : Rows) (n : ℕ) (judge : Judge) (part : Part) (judgement : Judgement)
    → start ≡ nothing_taken limit → Relates (lines_left start known) left (BringsWork plan.population rows start.number n) → AreAdmitted rows → HasFollowed (database_of rows) plan.most [] judge → part ≡ part_asked plan → IsPart (part_asked plan)
    → IfSome left (λ l. (u : View) (most : ℕ) → IsBegun u most part judge → IsJudgedWith plan.final_rows u most n l.lines judgement) → IfSome known (λ input. JudgesInput plan (lines_of input) judgement)
input_judged plan start limit known left rows n judge part judgement e b admitted from asked possible h =
    of_work plan.population start limit known left rows n (λ work taken. JudgesWork plan work taken judgement) e b
    (IfSome_then left h (λ l says. record { admitted = admitted; is = says (view_asked plan rows) plan.most (record { followed = from; part_is = sym asked; possible = subst IsPart (sym asked) possible }) }))

-- ---- what is refused
holds_where : {A : Type 0} {P : A → Type 0} (known : Option A) → ((a : A) → P a) → IfSome known P
holds_where None h = tt
holds_where (Some a) h = h a

pub rows_refused : (plan : JudgePlan) (start : LineReaderState) (limit : ℕ) (known : Option (List ℕ)) (left : Option LinesLeft) (rows : Rows) (n : ℕ) (error : OpenError)
    → start ≡ nothing_taken limit → Relates (lines_left start known) left (BringsWork plan.population rows start.number n) → RefusesRows rows error
    → IfSome known (λ input. RefusesInput plan (lines_of input) (Unopened error))
rows_refused plan start limit known left rows n error e b h =
    IfSome_then known (of_work plan.population start limit known left rows n (λ work taken. RefusesRows work.rows error) e b (holds_where left (λ l. h))) (λ input refused. inl refused)

after_rows : (plan : JudgePlan) (lines : List (List ℕ)) (fault : JudgeFault) → RefusesAfterRows plan lines fault → RefusesInput plan lines fault
after_rows plan lines (BadLine n) h = inr h
after_rows plan lines (BadArgument n bad) h = h
after_rows plan lines (Unopened error) h = inr h
after_rows plan lines (Stream NoMemory) h = tt
after_rows plan lines (Stream ReadFault) h = tt
after_rows plan lines (Stream WriteFault) h = h.2.1

pub texts_refused : (plan : JudgePlan) (start : LineReaderState) (limit : ℕ) (known : Option (List ℕ)) (left : Option LinesLeft) (rows : Rows) (n : ℕ) (fault : JudgeFault)
    → start ≡ nothing_taken limit → Relates (lines_left start known) left (BringsWork plan.population rows start.number n) → AreAdmitted rows
    → IfSome left (λ l. RefusesTexts plan.final_rows n l.lines fault) → IfSome known (λ input. RefusesInput plan (lines_of input) fault)
texts_refused plan start limit known left rows n fault e b admitted h =
    IfSome_then known
    (of_work plan.population start limit known left rows n (λ work taken. AreAdmitted work.rows × RefusesTexts plan.final_rows taken work.lines fault) e b (IfSome_then left h (λ l refused. (admitted, refused))))
    (λ input refused. after_rows plan (lines_of input) fault refused)
