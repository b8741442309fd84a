use Rattle.std.proofs.lemmas.List.{get_or_default}
use Rattle.tatp_homes.specs.Cells.{forwarding_keys}
use Rattle.tatp_homes.proofs.CellLaws.{place_within}
use Rattle.std.proofs.Common.{None, [], ◌∷◌, slice_index, ◌≡◌, length, rules, sym, ap, ◌∙◌}
use Rattle.tatp_homes.specs.Home.{SubscriberRows}
use Rattle.tatp_homes.proofs.PlaceLaws.{forwarding_at}
use Rattle.tatp_homes.proofs.home.Home.forwarding.Goals as goal

pub returns : goal.returns
returns c =
    let long : length c.args.key ≡ 3 = search rules in
    let own = c.in_ok-place.ensures.own ∙ sym (ap (λ (h : SubscriberRows). h.s_id) c.self.view_is) in
    rw (← c.self.view_is)
    (get_or_default c.self.inside.forwardings c.in_ok-place.place c.index-self-place.result None
    (place_within c.self.inside.s_id (slice_index c.args.key 1 ∷ slice_index c.args.key 2 ∷ []) forwarding_keys c.self.inside.forwardings c.in_ok-place.place c.self.invariant.forwarding_places c.in_ok-place.ensures.place)
    ∙ sym (forwarding_at c.args.key c.self.inside.s_id c.self.inside.forwardings c.in_ok-place.place long own c.self.invariant.forwarding_places c.in_ok-place.ensures.place))
