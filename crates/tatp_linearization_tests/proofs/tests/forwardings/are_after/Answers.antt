use Rattle.std.proofs.Common.{◌≡◌, ◌<◌, take, Some, slice_get, sym, subst, arith}
use Rattle.std.specs.List.{AllByRecursion}
use Rattle.std.proofs.lemmas.List.{take_all}
use Rattle.tatp_history.specs.Events.{time_of}
use Rattle.tatp_history.specs.declared.event.Event.{Event}
use Rattle.tatp_linearization.proofs.PlaceLaws.{get_at, all_more, take_more}
use Rattle.tatp_linearization_tests.proofs.tests.forwardings.are_after.Goals as goal

pub loop-i-preserved : goal.loop-i-preserved
loop-i-preserved c =
    let at : slice_get c.args.events.now c.loop-i.i ≡ Some c.index-events-i.result = get_at c.args.events.now c.loop-i.i c.index-events-i.result c.loop-i-test.true c.index-events-i.is in
    subst (AllByRecursion (λ (e : Event). c.args.time < time_of e)) (sym (take_more c.args.events.now c.loop-i.i c.index-events-i.result at))
    (all_more (λ (e : Event). c.args.time < time_of e) (take c.loop-i.i c.args.events.now) c.index-events-i.result c.loop-i.invariant (subst (λ t. c.args.time < t) c.time_of.ensures (omega (arith, c.if-time_of-time.false))))

pub returns : goal.returns
returns c = λ _. subst (AllByRecursion (λ (e : Event). c.args.time < time_of e)) (take_all c.loop-i.i c.args.events.now c.loop-i-test.false) c.loop-i.invariant
