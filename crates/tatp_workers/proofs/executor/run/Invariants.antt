use Rattle.std.proofs.Common.{All}
use Rattle.tatp_workers.specs.Executing.{GoesOnAfter}
use Rattle.tatp_workers.specs.Growing.{Does}
use Rattle.tatp_workers.proofs.executor.run.Given as goal

abbrev pub invariant-loop-round : goal.invariant-loop-round
invariant-loop-round g l = Does (All GoesOnAfter) (g.E.Answering.effects l.initial.executing) (g.E.Answering.effects l.executing)
