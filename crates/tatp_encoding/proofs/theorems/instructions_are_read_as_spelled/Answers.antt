use Rattle.tatp_encoding.proofs.DecodingLaws.{decoded-spelling}
use Rattle.tatp_encoding.proofs.theorems.instructions_are_read_as_spelled.Goals as goal

pub returns : goal.returns
returns c = decoded-spelling
