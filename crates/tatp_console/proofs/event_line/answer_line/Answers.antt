use Rattle.std.proofs.Common.{◌∙◌, sym}
use Rattle.std.proofs.lemmas.Result.{on_ok_weaker}
use Rattle.tatp_console.proofs.EventLineLaws.{line_read, bad_appended}
use Rattle.tatp_console.proofs.event_line.answer_line.Goals as goal

pub returns-in-Some : goal.returns-in-Some
returns-in-Some c = on_ok_weaker c.answer.result (line_read _ _ _ _ _ _ (sym c.line_in.ensures ∙ c.in-Some.is)) c.answer.ensures

pub returns-in_ok-push_str-in-None : goal.returns-in_ok-push_str-in-None
returns-in_ok-push_str-in-None c = bad_appended _ _ _ _ (sym c.line_in.ensures ∙ c.in-None.is) c.in_ok-push_str-in-None.ensures.bytes
