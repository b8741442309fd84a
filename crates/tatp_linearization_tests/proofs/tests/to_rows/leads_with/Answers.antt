use Rattle.std.proofs.Common.{◌≡◌, [], Ok, ap, ◌∙◌, subst, arith}
use Rattle.tatp_linearization.specs.Held.{AreApart}
use Rattle.tatp_linearization_tests.proofs.tests.to_rows.leads_with.Goals as goal

pub leads_to-requires-clause-reached : goal.leads_to-requires-clause-reached
leads_to-requires-clause-reached c = (c.args.home.now.tables, c.args.events.now, c.in_ok-follow.ensures.reached (ap Ok c.in-Explained.is) c.args.home.now.tables [] c.in_ok-explanations.ensures.reached)

pub leads_to-requires-clause-own : goal.leads_to-requires-clause-own
leads_to-requires-clause-own c =
    let same : c.args.home.now.s_id ≡ c.args.rows.now.s_id = omega (arith, c.if-s_id.false, c.s_id.ensures, c.s_id-else-not-are_accepted.ensures) in
    subst (λ s. AreApart s c.follow.new.self.configurations.items) same (c.in_ok-follow.ensures.own c.args.home.now.s_id c.in_ok-explanations.ensures.own)

pub leads_to-requires-clause-exact : goal.leads_to-requires-clause-exact
leads_to-requires-clause-exact c = c.in_ok-follow.ensures.exact ∙ c.in_ok-explanations.ensures.exact
