use Rattle.std.proofs.Common.{◌≡◌, [], ◌∷◌, ◌++◌, take, Some, slice_get, sym, ap, ◌∙◌}
use Rattle.std.proofs.lemmas.List.{take_all}
use Rattle.tatp_linearization.specs.Legal.{events_with}
use Rattle.tatp_linearization.proofs.PlaceLaws.{get_at, take_more}
use Rattle.tatp_linearization.proofs.PlacedLaws.{with_append}
use Rattle.tatp_linearization.proofs.legal.events_with.Goals as goal

pub events-preserved : goal.events-preserved
events-preserved c =
    let es = c.args.events.now in
    let y = c.args.y.now in
    let at : slice_get c.args.events.now c.events.i ≡ Some c.index-events-i.result = get_at c.args.events.now c.events.i c.index-events-i.result c.events-test.true c.index-events-i.is in
    c.in_ok-push.ensures.items ∙ (ap (λ xs. xs ++ c.placed.result ∷ []) c.events.invariant
    ∙ (ap (λ xs. events_with y (take c.events.i es) ++ xs) c.placed.ensures
    ∙ (sym (with_append y (take c.events.i es) (c.index-events-i.result ∷ [])) ∙ ap (events_with y) (sym (take_more es c.events.i c.index-events-i.result at)))))

pub returns : goal.returns
returns c = c.events.invariant ∙ ap (events_with c.args.y.now) (take_all c.events.i c.args.events.now c.events-test.false)
