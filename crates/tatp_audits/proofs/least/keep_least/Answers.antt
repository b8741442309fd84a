use Rattle.std.proofs.Common.{sym, ◌∙◌, ap, subst, is_gt}
use Rattle.tatp_audits.specs.Failing.{Finds}
use Rattle.tatp_audits.proofs.Order.{found_first, found_lower, found_kept, above_back}
use Rattle.tatp_audits.proofs.least.keep_least.Goals as goal

pub returns-in_default-clause-least : goal.returns-in_default-clause-least
returns-in_default-clause-least g c = λ fails found. found_first fails c.args.key (subst (Finds fails) c.in_default.is found)

pub returns-then-is_gt-clause-least : goal.returns-then-is_gt-clause-least
returns-then-is_gt-clause-least g c = λ fails found. found_lower fails c.in-Some.other c.args.key (subst (Finds fails) c.in-Some.is found)
    (above_back c.args.key c.in-Some.other (ap is_gt (sym c.cmp.ensures) ∙ sym c.is_gt.ensures ∙ c.if-is_gt.true))

pub returns-else-is_gt-clause-least : goal.returns-else-is_gt-clause-least
returns-else-is_gt-clause-least g c = λ fails found. found_kept fails c.in-Some.other c.args.key (subst (Finds fails) c.in-Some.is found)
    (ap is_gt (sym c.cmp.ensures) ∙ sym c.is_gt.ensures ∙ c.if-is_gt.false)
