use Rattle.std.proofs.Common.{sym, ◌∙◌, ap, ◌++◌}
use Rattle.std.specs.Prelude.{codes}
use Rattle.std.specs.Fmt.{styled_decimal}
use Rattle.std.proofs.Output.{has_written_of_eq}
use Rattle.tatp_audits.specs.Printing.{verdict_text}
use Rattle.tatp_audits.proofs.PrintingLaws.{fifteen_digits_written}
use Rattle.tatp_audits.proofs.verdict.VerdictDisplay.fmt.Goals as goal

pub returns-in-NumberTwice-clause-writes : goal.returns-in-NumberTwice-clause-writes
returns-in-NumberTwice-clause-writes g c plain ok =
    has_written_of_eq _ _ _ _ _
    (ap (λ s. codes "A2 " ++ styled_decimal s c.in-NumberTwice.number) c.laid_out.ensures ∙ (ap (λ t. codes "A2 " ++ t) (fifteen_digits_written c.in-NumberTwice.number) ∙ sym (ap verdict_text c.in-NumberTwice.is)))
    (c.write-in-NumberTwice.ensures.writes plain ok)
