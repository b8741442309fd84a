use Rattle.tatp_history_lines.proofs.LineLaws.{text_of_read, read_of_text}
use Rattle.tatp_history_lines.proofs.theorems.lines_are_read_exactly.Goals as goal

pub returns-clause-read : goal.returns-clause-read
returns-clause-read c = read_of_text

pub returns-clause-printed : goal.returns-clause-printed
returns-clause-printed c = text_of_read
