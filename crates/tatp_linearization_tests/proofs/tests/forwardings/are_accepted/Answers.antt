use Rattle.std.proofs.Common.{◌≡◌, take, Some, slice_get, sym, subst}
use Rattle.std.specs.List.{AllByRecursion}
use Rattle.std.proofs.lemmas.List.{take_all}
use Rattle.tatp_linearization.specs.Held.{IsAcceptedEvent}
use Rattle.tatp_linearization.proofs.PlaceLaws.{get_at, all_more, take_more}
use Rattle.tatp_linearization_tests.proofs.tests.forwardings.are_accepted.Goals as goal

pub loop-i-preserved : goal.loop-i-preserved
loop-i-preserved c =
    let at : slice_get c.args.events.now c.loop-i.i ≡ Some c.index-events-i.result = get_at c.args.events.now c.loop-i.i c.index-events-i.result c.loop-i-test.true c.index-events-i.is in
    subst (AllByRecursion (IsAcceptedEvent)) (sym (take_more c.args.events.now c.loop-i.i c.index-events-i.result at))
    (all_more (IsAcceptedEvent) (take c.loop-i.i c.args.events.now) c.index-events-i.result c.loop-i.invariant (c.is_accepted.ensures.0 c.if-not-is_accepted.false))

pub returns : goal.returns
returns c = λ _. subst (AllByRecursion (IsAcceptedEvent)) (take_all c.loop-i.i c.args.events.now c.loop-i-test.false) c.loop-i.invariant
