use Rattle.tatp_trace_lines.proofs.LineLaws.{line_text_of_read}
use Rattle.tatp_trace_lines.proofs.parsing.read_trace_line.Goals as goal

pub returns-clause-printed : goal.returns-clause-printed
returns-clause-printed c = (line_text_of_read c.args.text.now c.line_of.result c.line_of.ensures).0

pub returns-clause-form : goal.returns-clause-form
returns-clause-form c = (line_text_of_read c.args.text.now c.line_of.result c.line_of.ensures).1
