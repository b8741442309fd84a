use Rattle.std.proofs.Common.{◌≡◌, Some, slice_get, slice_index, arith}
use Rattle.std.proofs.lemmas.Option.{slice_get-get_or}
use Rattle.tatp_workers.specs.Debugging.{IsDebugged}
use Rattle.tatp_workers.proofs.GrowthLaws.{one_more_dealt}
use Rattle.tatp_workers.proofs.debugger.debug_all.Goals as goal

pub loop-number-preserved : goal.loop-number-preserved
loop-number-preserved g c =
    let at : slice_get c.args.stops.now c.loop-number.number ≡ Some (slice_index c.args.stops.now c.loop-number.number) = slice_get-get_or c.args.stops.now c.loop-number.number 0 (omega arith) in
    one_more_dealt IsDebugged c.args.stops.now c.loop-number.number
    (g.D.Answering.effects c.args.debugging.now) (g.D.Answering.effects c.loop-number.debugging) (g.D.Answering.effects c.debug.new.debugging)
    (slice_index c.args.stops.now c.loop-number.number) c.debug.ensures.0
    c.loop-number.invariant at c.debug.ensures.1 c.debug.ensures.2
