use Rattle.tatp_asm.proofs.PushLaws.{text_of_line}
use Rattle.tatp_asm.proofs.theorems.instructions_are_printed_as_their_text.Goals as goal

pub returns : goal.returns
returns c = text_of_line
