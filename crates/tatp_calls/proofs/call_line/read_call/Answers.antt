use Rattle.tatp_calls.proofs.CallTextLaws.{call_text_of_read}
use Rattle.tatp_calls.proofs.call_line.read_call.Goals as goal

pub returns-clause-printed : goal.returns-clause-printed
returns-clause-printed c = (call_text_of_read c.args.line.now c.call_of_line.result c.call_of_line.ensures).0

pub returns-clause-printable : goal.returns-clause-printable
returns-clause-printable c = (call_text_of_read c.args.line.now c.call_of_line.result c.call_of_line.ensures).1
