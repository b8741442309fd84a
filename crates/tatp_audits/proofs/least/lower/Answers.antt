use Rattle.std.proofs.Common.{sym, ◌∙◌, ap, subst, is_gt}
use Rattle.tatp_audits.specs.Failing.{Finds}
use Rattle.tatp_audits.proofs.Order.{found_first_of, found_second_of, above_back}
use Rattle.tatp_audits.proofs.least.lower.Goals as goal

pub returns-then-is_gt : goal.returns-then-is_gt
returns-then-is_gt g c = λ first second one other. found_second_of first second c.in-Some.one c.in-Some-second.other (subst (Finds first) c.in-Some.is one) (subst (Finds second) c.in-Some-second.is other)
    (above_back c.in-Some-second.other c.in-Some.one (ap is_gt (sym c.cmp.ensures) ∙ sym c.is_gt.ensures ∙ c.if-is_gt.true))

pub returns-else-is_gt : goal.returns-else-is_gt
returns-else-is_gt g c = λ first second one other. found_first_of first second c.in-Some.one c.in-Some-second.other (subst (Finds first) c.in-Some.is one) (subst (Finds second) c.in-Some-second.is other)
    (ap is_gt (sym c.cmp.ensures) ∙ sym c.is_gt.ensures ∙ c.if-is_gt.false)
