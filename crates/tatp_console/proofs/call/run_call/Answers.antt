use Rattle.std.proofs.Common.{true, false}
use Rattle.tatp_tasks.specs.declared.procedures.Procedures.TheVariants.{Standard}
use Rattle.tatp_console.specs.Answers.{AnswersWork, AnswersFront}
use Rattle.tatp_console.specs.Replying.{answers_call, rows_after}
use Rattle.tatp_console.specs.Served.{Served, ServedFront}
use Rattle.tatp_console.proofs.CallLaws.{all_served, front_served}
use Rattle.tatp_console.proofs.RenewalLaws.{opened_first}
use Rattle.tatp_console.proofs.WorkLaws.{writes_as, leaves_as}
use Rattle.tatp_console.proofs.call.run_call.Goals as goal

pub answer_all-requires-clause-ready : goal.answer_all-requires-clause-ready
answer_all-requires-clause-ready g c = λ m rows lines w standard opened is. opened_first w rows m c.args.partitions lines opened is standard

pub answer_all-requires-else-rows-clause-ready : goal.answer_all-requires-else-rows-clause-ready
answer_all-requires-else-rows-clause-ready g c = λ m rows lines w standard opened is. opened_first w rows m c.args.partitions lines opened is standard

pub returns-then-rows-clause-served : goal.returns-then-rows-clause-served
returns-then-rows-clause-served g c =
    rw c.if-rows.true (writes_as (AnswersWork answers_call (rows_after true) _) (λ m. Served true) Standard c.args.population (g.R.Read.remaining c.args.reader.now) (g.W.Write.contents c.args.writer.now) _ c.answer_all.result
    (all_served true _) c.answer_all.ensures.answered)

pub returns-then-rows-clause-faults : goal.returns-then-rows-clause-faults
returns-then-rows-clause-faults g c =
    rw c.if-rows.true (leaves_as (AnswersFront answers_call (rows_after true) _) (λ m. ServedFront true) Standard c.args.population (g.R.Read.remaining c.args.reader.now) (g.W.Write.contents c.args.writer.now) _ c.answer_all.result
    (front_served true _) c.answer_all.ensures.faults)

pub returns-else-rows-clause-served : goal.returns-else-rows-clause-served
returns-else-rows-clause-served g c =
    rw c.if-rows.false (writes_as (AnswersWork answers_call (rows_after false) _) (λ m. Served false) Standard c.args.population (g.R.Read.remaining c.args.reader.now) (g.W.Write.contents c.args.writer.now) _ c.answer_all-else-rows.result
    (all_served false _) c.answer_all-else-rows.ensures.answered)

pub returns-else-rows-clause-faults : goal.returns-else-rows-clause-faults
returns-else-rows-clause-faults g c =
    rw c.if-rows.false (leaves_as (AnswersFront answers_call (rows_after false) _) (λ m. ServedFront false) Standard c.args.population (g.R.Read.remaining c.args.reader.now) (g.W.Write.contents c.args.writer.now) _ c.answer_all-else-rows.result
    (front_served false _) c.answer_all-else-rows.ensures.faults)
