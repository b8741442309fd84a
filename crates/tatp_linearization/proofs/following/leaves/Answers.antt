use Rattle.std.proofs.Common.{◌≡◌, ◌↔◌, refl, sym, subst, inl}
use Rattle.tatp_homes.specs.Home.{SubscriberRows}
use Rattle.tatp_history.specs.declared.event.Event.{Event}
use Rattle.tatp_linearization.specs.AtOnce.{FollowsAtOnce, NeedsNoPlace}
use Rattle.tatp_linearization.proofs.FollowLaws.{asked_same, none_same}
use Rattle.tatp_linearization.proofs.CoveringLaws.{none_of}
use Rattle.tatp_linearization.proofs.following.leaves.Goals as goal

pub returns-in-Asks : goal.returns-in-Asks
returns-in-Asks c = λ yes d stands e.
    let x = c.in-Asks.x in
    let needs : NeedsNoPlace c.args.c.now.home.tables c.in-Asks.x = subst (λ (h : SubscriberRows). NeedsNoPlace h.tables x) c.copy-home.ensures (c.needs_no_place.ensures.none.0 yes) in
    subst (λ (v : Event). (e ≡ d) ↔ FollowsAtOnce v d e) (sym c.in-Asks.is) (asked_same d d x (inl (subst (λ u. NeedsNoPlace u x) (sym stands.rows) needs, refl)) e)

pub returns-in-Ends : goal.returns-in-Ends
returns-in-Ends c = λ yes d stands e.
    subst (λ (v : Event). (e ≡ d) ↔ FollowsAtOnce v d e) (sym c.in-Ends.is) (none_same d d c.in-Ends.asked c.in-Ends.at (none_of c.args.c.now c.in-Ends.asked (c.none_asked.ensures.0 yes) d stands) refl e)
