use Rattle.std.proofs.Common.{sym, ◌∙◌}
use Rattle.tatp_homes.proofs.PlaceLaws.{subscriber_at, subscriber_none}
use Rattle.tatp_homes.proofs.home.Home.subscriber.Goals as goal

pub returns-then-s_id-self : goal.returns-then-s_id-self
returns-then-s_id-self c = rw (← c.self.view_is)
    (c.as_ref.ensures.value ∙ sym (subscriber_at c.args.s_id c.self.inside.s_id c.self.inside.subscriber c.if-s_id-self.true c.self.invariant.subscriber_place))

pub returns-else-s_id-self : goal.returns-else-s_id-self
returns-else-s_id-self c = rw (← c.self.view_is)
    (sym (subscriber_none c.args.s_id c.self.inside.s_id c.self.inside.subscriber c.if-s_id-self.false c.self.invariant.subscriber_place))
