use Rattle.std.proofs.lemmas.Result.{on_ok_weaker}
use Rattle.tatp_console.proofs.TraceLaws.{line_told}
use Rattle.tatp_console.proofs.trace.EventsLineCommand.answer.Goals as goal

pub returns-clause-answered : goal.returns-clause-answered
returns-clause-answered c = on_ok_weaker c.answer_line.result (λ h. line_told _ _ _ _ _ h) c.answer_line.ensures
