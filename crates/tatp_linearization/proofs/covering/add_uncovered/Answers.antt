use Rattle.std.proofs.Common.{◌≡◌, List, Some, slice_get, rules, sym, ◌∙◌, subst, arith, true≢false}
use Rattle.tatp_linearization.specs.declared.configuration.Configuration.{Configuration as Held}
use Rattle.tatp_linearization.specs.Covering.{Covers, IsOther}
use Rattle.tatp_linearization.proofs.CoveringLaws.{retained, pushed_ready, gains_pushed, pushed_apart, pushed_many}
use Rattle.tatp_linearization.proofs.covering.add_uncovered.Goals as goal

pub returns-clause-gained : goal.returns-clause-gained
returns-clause-gained c = gains_pushed c.args.d c.args.set.now.items c.retain.new.self.items
    (retained _ (Covers c.args.d) (IsOther c.args.d) _ (λ x b g k. (search rules, (search rules, search rules))) c.args.set.now.items c.retain.new.self.items c.retain.ensures.filtered)
    c.push.new.self.items c.in_ok-push.ensures.items

pub returns-clause-ready : goal.returns-clause-ready
returns-clause-ready c = λ h. pushed_ready c.retain.new.self.items c.args.d c.push.new.self.items c.in_ok-push.ensures.items
    ((retained _ (Covers c.args.d) (IsOther c.args.d) _ (λ x b g k. (search rules, (search rules, search rules))) c.args.set.now.items c.retain.new.self.items c.retain.ensures.filtered).ready h) c.requires.accepted

pub returns-clause-apart : goal.returns-clause-apart
returns-clause-apart c = λ apart. pushed_apart c.args.d c.args.set.now.items c.retain.new.self.items
    (retained _ (Covers c.args.d) (IsOther c.args.d) _ (λ x b g k. (search rules, (search rules, search rules))) c.args.set.now.items c.retain.new.self.items c.retain.ensures.filtered)
    c.requires.other apart
    c.push.new.self.items c.in_ok-push.ensures.items

pub returns-then-len-most-clause-many : goal.returns-then-len-most-clause-many
returns-then-len-most-clause-many c = λ _ apart. pushed_many c.args.d c.args.set.now.items c.retain.new.self.items
    (retained _ (Covers c.args.d) (IsOther c.args.d) _ (λ x b g k. (search rules, (search rules, search rules))) c.args.set.now.items c.retain.new.self.items c.retain.ensures.filtered)
    c.requires.other apart
    c.args.most (omega (arith, c.if-len-most.true, c.len.ensures, c.retain.new.self.ok.0))
