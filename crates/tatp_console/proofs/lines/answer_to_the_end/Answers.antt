use Rattle.std.proofs.lemmas.Result.{err_from_is_err_and, on_ok_weaker, on_err_weaker}
use Rattle.tatp_streams.specs.LineReading.{lines_left}
use Rattle.tatp_console.proofs.AnswerLaws.{answers_to_end, answers_in_ending, answers_before_ending}
use Rattle.tatp_console.proofs.lines.answer_to_the_end.Goals as goal

pub returns-in_err-answer_lines-clause-front : goal.returns-in_err-answer_lines-clause-front
returns-in_err-answer_lines-clause-front g c =
    let p = err_from_is_err_and c.from_residual.result c.from_residual.ensures.1 in
    rw p.1 (answers_before_ending g.C.LineCommand.answers (g.C.LineCommand.ending c.args.subscribers) c.args.world.now (lines_left c.args.lines.now (g.R.Read.remaining c.args.reader.now)) _ _ c.in_err-answer_lines.ensures.front)

pub returns-clause-ok : goal.returns-clause-ok
returns-clause-ok g c = on_ok_weaker c.end.result
    (λ written. answers_to_end g.C.LineCommand.answers (g.C.LineCommand.ending c.args.subscribers) c.args.world.now c.answer_lines.new.world (lines_left c.args.lines.now (g.R.Read.remaining c.args.reader.now)) _ (g.W.Write.contents c.answer_lines.new.writer) _
    c.in_ok-answer_lines.ensures.ok written)
    c.end.ensures.ok

pub returns-clause-limit : goal.returns-clause-limit
returns-clause-limit g c = on_ok_weaker c.end.result (λ written. c.in_ok-answer_lines.ensures.limit) c.end.ensures.ok

pub returns-clause-front : goal.returns-clause-front
returns-clause-front g c = on_err_weaker c.end.result
    (λ front. answers_in_ending g.C.LineCommand.answers (g.C.LineCommand.ending c.args.subscribers) c.args.world.now c.answer_lines.new.world (lines_left c.args.lines.now (g.R.Read.remaining c.args.reader.now)) _ (g.W.Write.contents c.answer_lines.new.writer) _
    c.in_ok-answer_lines.ensures.ok front)
    c.end.ensures.front
