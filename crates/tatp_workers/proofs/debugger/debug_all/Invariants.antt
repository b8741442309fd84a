use Rattle.tatp_workers.specs.Debugging.{IsDebugged}
use Rattle.tatp_workers.proofs.GrowthLaws.{Dealt}
use Rattle.tatp_workers.proofs.debugger.debug_all.Given as goal

abbrev pub invariant-loop-number : goal.invariant-loop-number
invariant-loop-number g l = Dealt IsDebugged l.stops l.number (g.D.Answering.effects l.initial.debugging) (g.D.Answering.effects l.debugging)
