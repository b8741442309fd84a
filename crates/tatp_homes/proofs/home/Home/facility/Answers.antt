use Rattle.std.proofs.lemmas.List.{get_or_default}
use Rattle.tatp_homes.specs.Cells.{type_keys}
use Rattle.tatp_homes.proofs.CellLaws.{place_within}
use Rattle.std.proofs.Common.{None, [], ◌∷◌, sym, ap, ◌∙◌}
use Rattle.tatp_homes.specs.Home.{SubscriberRows}
use Rattle.tatp_homes.proofs.PlaceLaws.{type_at}
use Rattle.tatp_homes.proofs.home.Home.facility.Goals as goal

pub returns : goal.returns
returns c =
    let own = c.in_ok-place.ensures.own ∙ sym (ap (λ (h : SubscriberRows). h.s_id) c.self.view_is) in
    rw (← c.self.view_is)
    (get_or_default c.self.inside.facilities c.in_ok-place.place c.index-self-place.result None
    (place_within c.self.inside.s_id (c.args.kind ∷ []) type_keys c.self.inside.facilities c.in_ok-place.place c.self.invariant.facility_places c.in_ok-place.ensures.place)
    ∙ sym (type_at c.args.s_id c.self.inside.s_id c.args.kind c.self.inside.facilities c.in_ok-place.place own c.self.invariant.facility_places c.in_ok-place.ensures.place))
