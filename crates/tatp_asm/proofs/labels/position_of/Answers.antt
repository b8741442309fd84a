use Rattle.std.proofs.Common.{◌∙◌}
use Rattle.tatp_asm.proofs.LabelLaws.{lookup_position}
use Rattle.tatp_asm.proofs.labels.position_of.Goals as goal

pub returns : goal.returns
returns c = c.copied.ensures ∙ (c.get.ensures.value ∙ lookup_position c.args.labels.now.entries c.args.label.now)
