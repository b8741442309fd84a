use Rattle.std.proofs.Common.{true, false}
use Rattle.tatp_console.specs.Answers.{AnswersWork, AnswersFront}
use Rattle.tatp_console.specs.Tracing.{answers_events, no_ending, TellsWork, TellsFront}
use Rattle.tatp_console.proofs.TraceLaws.{work_told, front_told}
use Rattle.tatp_console.proofs.WorkLaws.{writes_as, leaves_as}
use Rattle.tatp_console.proofs.trace.run_trace.Goals as goal

pub returns-then-echo-clause-told : goal.returns-then-echo-clause-told
returns-then-echo-clause-told g c =
    rw c.if-echo.true (writes_as (AnswersWork (answers_events true) no_ending c.args.setup) (TellsWork c.args.setup true) c.args.setup.procedures c.args.setup.population (g.R.Read.remaining c.args.reader.now) (g.W.Write.contents c.args.writer.now) _ c.answer_all.result
    (work_told c.args.setup true) c.answer_all.ensures.answered)

pub returns-then-echo-clause-faults : goal.returns-then-echo-clause-faults
returns-then-echo-clause-faults g c =
    rw c.if-echo.true (leaves_as (AnswersFront (answers_events true) no_ending c.args.setup) (TellsFront c.args.setup true) c.args.setup.procedures c.args.setup.population (g.R.Read.remaining c.args.reader.now) (g.W.Write.contents c.args.writer.now) _ c.answer_all.result
    (front_told c.args.setup true) c.answer_all.ensures.faults)

pub returns-else-echo-clause-told : goal.returns-else-echo-clause-told
returns-else-echo-clause-told g c =
    rw c.if-echo.false (writes_as (AnswersWork (answers_events false) no_ending c.args.setup) (TellsWork c.args.setup false) c.args.setup.procedures c.args.setup.population (g.R.Read.remaining c.args.reader.now) (g.W.Write.contents c.args.writer.now) _ c.answer_all-else-echo.result
    (work_told c.args.setup false) c.answer_all-else-echo.ensures.answered)

pub returns-else-echo-clause-faults : goal.returns-else-echo-clause-faults
returns-else-echo-clause-faults g c =
    rw c.if-echo.false (leaves_as (AnswersFront (answers_events false) no_ending c.args.setup) (TellsFront c.args.setup false) c.args.setup.procedures c.args.setup.population (g.R.Read.remaining c.args.reader.now) (g.W.Write.contents c.args.writer.now) _ c.answer_all-else-echo.result
    (front_told c.args.setup false) c.answer_all-else-echo.ensures.faults)
