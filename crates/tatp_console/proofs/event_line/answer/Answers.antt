use Rattle.std.proofs.lemmas.Result.{on_ok_weaker}
use Rattle.tatp_console.proofs.EventLineLaws.{line_of_event, line_of_steps}
use Rattle.tatp_console.proofs.event_line.answer.Goals as goal

pub returns-in-Event : goal.returns-in-Event
returns-in-Event c = on_ok_weaker c.answer_event.result (line_of_event _ _ _ _ _ _ c.in-Event.is) c.answer_event.ensures

pub returns-in-Steps : goal.returns-in-Steps
returns-in-Steps c = on_ok_weaker c.answer_steps.result (line_of_steps _ _ _ _ _ _ _ c.in-Steps.is) c.answer_steps.ensures
