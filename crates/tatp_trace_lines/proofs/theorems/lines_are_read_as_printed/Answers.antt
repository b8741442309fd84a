use Rattle.tatp_trace_lines.proofs.LineLaws.{line_of-line_text}
use Rattle.tatp_trace_lines.proofs.theorems.lines_are_read_as_printed.Goals as goal

pub returns : goal.returns
returns c = line_of-line_text
