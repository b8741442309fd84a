use Rattle.tatp_texts.proofs.RowTextLaws.{text_of_read}
use Rattle.tatp_texts.proofs.text.read_row.Goals as goal

pub returns-clause-printed : goal.returns-clause-printed
returns-clause-printed c = (text_of_read c.args.line.now c.row_of_line.result c.row_of_line.ensures).0

pub returns-clause-printable : goal.returns-clause-printable
returns-clause-printable c = (text_of_read c.args.line.now c.row_of_line.result c.row_of_line.ensures).1
