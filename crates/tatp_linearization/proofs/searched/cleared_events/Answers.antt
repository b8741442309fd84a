use Rattle.std.proofs.Common.{◌≡◌, [], ◌∷◌, ◌++◌, take, Some, slice_get, sym, ap, ◌∙◌}
use Rattle.std.proofs.lemmas.List.{map-append, take_all}
use Rattle.tatp_history.specs.Cleared.{cleared_event, cleared_events}
use Rattle.tatp_linearization.proofs.PlaceLaws.{get_at, take_more}
use Rattle.tatp_linearization.proofs.searched.cleared_events.Goals as goal

pub events-preserved : goal.events-preserved
events-preserved c =
    let es = c.args.events.now in
    let fs = c.args.home.now.tables.facilities in
    let e = c.index-events-i.result in
    let at : slice_get c.args.events.now c.events.i ≡ Some e = get_at es c.events.i e c.events-test.true c.index-events-i.is in
    c.in_ok-push.ensures.items ∙ (ap (λ xs. xs ++ c.cleared_event.result ∷ []) c.events.invariant
    ∙ (ap (λ q. cleared_events fs (take c.events.i es) ++ q ∷ []) c.cleared_event.ensures
    ∙ (sym (map-append (cleared_event fs) (take c.events.i es) (e ∷ [])) ∙ ap (cleared_events fs) (sym (take_more es c.events.i e at)))))

pub returns : goal.returns
returns c = c.events.invariant ∙ ap (cleared_events c.args.home.now.tables.facilities) (take_all c.events.i c.args.events.now c.events-test.false)
