use Rattle.std.proofs.Common.{◌==◌, is_some, sym, ap, ◌∙◌}
use Rattle.tatp_homes.proofs.PlaceLaws.{number_at, number_some, number_none}
use Rattle.tatp_homes.proofs.home.Home.has_number.Goals as goal

pub returns-in-Some : goal.returns-in-Some
returns-in-Some c = rw (← c.self.view_is)
    (ap (λ n. n == c.args.number) c.get.ensures ∙ sym (ap is_some (number_at c.self.inside.s_id c.args.number c.self.inside.subscriber c.self.invariant.subscriber_place)
    ∙ number_some c.args.number c.self.inside.subscriber c.in-Some.row c.in-Some.is))

pub returns-in-None : goal.returns-in-None
returns-in-None c = rw (← c.self.view_is)
    (sym (ap is_some (number_at c.self.inside.s_id c.args.number c.self.inside.subscriber c.self.invariant.subscriber_place)
    ∙ number_none c.args.number c.self.inside.subscriber c.in-None.is))
