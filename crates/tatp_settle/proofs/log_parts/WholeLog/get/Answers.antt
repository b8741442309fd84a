use Rattle.std.proofs.Common.{Option, Bor, sym, ◌∙◌, ap}
use Rattle.std.specs.Option.{option_copied}
use Rattle.tatp_settle.specs.declared.log_parts.JoinedPart.{JoinedPart}
use Rattle.tatp_settle.specs.WholeLogs.{entry_in_part}
use Rattle.tatp_settle.proofs.log_parts.WholeLog.get.Goals as goal

pub returns : goal.returns
returns c = c.get.ensures ∙ sym (c.part_near.ensures.entry ∙ ap (λ (r : Option (Bor JoinedPart)). entry_in_part (option_copied r) c.args.index) c.in_ok-part.was)
