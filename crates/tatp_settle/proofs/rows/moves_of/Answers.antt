use Rattle.std.proofs.Common.{◌∙◌, sym, ap}
use Rattle.std.specs.Option.{option_copied}
use Rattle.tatp_settle.proofs.NumberLaws.{has_its_number}
use Rattle.tatp_settle.proofs.rows.moves_of.Goals as goal

pub returns-in_default-clause-value : goal.returns-in_default-clause-value
returns-in_default-clause-value c = absurd (c.if-number.false (c.number.ensures ∙ has_its_number c.args.closed.now c.args.number c.in-Some.extent.now (sym c.extent_numbered.ensures ∙ ap option_copied c.in-Some.is)))
