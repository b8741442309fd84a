use Rattle.std.proofs.Common.{◌≡◌, length, rules}
use Rattle.tatp_homes.proofs.PlaceLaws.{if_none, forwarding_none}
use Rattle.tatp_homes.proofs.home.Home.place_of_forwarding.Goals as goal

pub returns-then-key-self-clause-none : goal.returns-then-key-self-clause-none
returns-then-key-self-clause-none c =
    let long : length c.args.key ≡ 3 = search rules in
    rw (← c.self.view_is) (if_none c.forwarding_place.result _ _
    (λ none. forwarding_none c.args.key c.self.inside.s_id c.self.inside.forwardings long (λ _. none) c.self.invariant.forwarding_places) c.forwarding_place.ensures.none)

pub returns-else-key-self-clause-none : goal.returns-else-key-self-clause-none
returns-else-key-self-clause-none c =
    let long : length c.args.key ≡ 3 = search rules in
    rw (← c.self.view_is) (forwarding_none c.args.key c.self.inside.s_id c.self.inside.forwardings long (λ e. absurd (c.if-key-self.false e)) c.self.invariant.forwarding_places)
