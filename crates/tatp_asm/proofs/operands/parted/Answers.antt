use Rattle.std.proofs.Common.{sym}
use Rattle.std.proofs.lemmas.List.{take-map, drop-map}
use Rattle.tatp_asm.specs.Views.{operand_view}
use Rattle.tatp_asm.proofs.operands.parted.Goals as goal

pub returns-else-row-clause-registers : goal.returns-else-row-clause-registers
returns-else-row-clause-registers c = rw (c.parted_at-else-row.ensures.first, c.from.ensures, c.if-row.false) (sym (take-map operand_view c.args.row.now.shape.registers c.args.operands.now))

pub returns-else-row-clause-word : goal.returns-else-row-clause-word
returns-else-row-clause-word c = rw (c.parted_at-else-row.ensures.others, c.from.ensures, c.if-row.false) (sym (drop-map operand_view c.args.row.now.shape.registers c.args.operands.now))
