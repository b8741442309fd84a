use Rattle.std.proofs.Common.{sym, ap, ◌∙◌}
use Rattle.std.specs.Option.{option_map}
use Rattle.std.proofs.lemmas.List.{length-map}
use Rattle.tatp_asm.specs.Views.{operand_view, operands_view, given_view}
use Rattle.tatp_asm.proofs.TableLaws.{no_unused}
use Rattle.tatp_asm.proofs.operands.with_row.Goals as goal

pub from_parts-requires-clause-used : goal.from_parts-requires-clause-used
from_parts-requires-clause-used c =
    let row = c.args.row.now in
    let taken = sym c.given_for.ensures ∙ ap (option_map given_view) c.in_ok-given.was in
    no_unused row.op row.shape (operands_view c.parted.result.0.now) (operands_view c.parted.result.1.now) c.in_ok-registers_of.field-0 (given_view c.in_ok-given.given) c.requires.shape
    (length-map c.parted.result.0.now operand_view ∙ (c.if-registers-from.false ∙ c.from.ensures))
    (sym c.registers_of.ensures ∙ c.in_ok-registers_of.was)
    taken
