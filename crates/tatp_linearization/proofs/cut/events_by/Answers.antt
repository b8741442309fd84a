use Rattle.std.proofs.Common.{◌≡◌, ◌<◌, ◌≤◌, [], ◌∷◌, ◌++◌, length, take, Some, slice_get, sym, ap, ◌∙◌, arith}
use Rattle.std.proofs.lemmas.List.{take_all}
use Rattle.tatp_linearization.specs.Cut.{events_by}
use Rattle.tatp_linearization.proofs.PlaceLaws.{get_at, take_more}
use Rattle.tatp_linearization.proofs.CutLaws.{by_append}
use Rattle.tatp_linearization.proofs.cut.events_by.Goals as goal

pub events-preserved : goal.events-preserved
events-preserved c =
    let es = c.args.events.now in
    let lt : c.events.i < length c.args.events.now = omega (arith, c.events-test.true) in
    let at : slice_get c.args.events.now c.events.i ≡ Some c.index-events-i.result = get_at c.args.events.now c.events.i c.index-events-i.result lt c.index-events-i.is in
    c.in_ok-add_by.ensures ∙ (ap (λ xs. xs ++ events_by c.args.time (c.index-events-i.result ∷ [])) c.events.invariant
    ∙ (sym (by_append c.args.time (take c.events.i es) (c.index-events-i.result ∷ [])) ∙ ap (events_by c.args.time) (sym (take_more es c.events.i c.index-events-i.result at))))

pub returns : goal.returns
returns c =
    let all : length c.args.events.now ≤ c.events.i = omega (arith, c.events-test.false) in
    c.events.invariant ∙ ap (events_by c.args.time) (take_all c.events.i c.args.events.now all)
