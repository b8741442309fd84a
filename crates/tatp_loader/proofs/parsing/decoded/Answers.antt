use Rattle.std.proofs.Common.{ap, ◌∙◌}
use Rattle.tatp_encoding.specs.Decoding.{decoded}
use Rattle.tatp_loader.proofs.ReadingLaws.{eight, instr_spelled}
use Rattle.tatp_loader.proofs.parsing.decoded.Goals as goal

pub returns-clause-read : goal.returns-clause-read
returns-clause-read c = c.decode.ensures.exact ∙ ap (decoded c.args.version) (eight c.args.field.now c.requires)

pub returns-clause-spelled : goal.returns-clause-spelled
returns-clause-spelled c = instr_spelled c.args.version _ c.args.field.now c.decode.result (eight c.args.field.now c.requires) c.decode.ensures.ok
