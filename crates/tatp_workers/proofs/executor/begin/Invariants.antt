use Rattle.std.proofs.Common.{All}
use Rattle.tatp_workers.specs.Executing.{IsOfferedAgain}
use Rattle.tatp_workers.specs.Growing.{Does}
use Rattle.tatp_workers.proofs.executor.begin.Given as goal

abbrev pub invariant-loop-round : goal.invariant-loop-round
invariant-loop-round g l = Does (All (IsOfferedAgain l.item)) (g.E.Answering.effects l.initial.executing) (g.E.Answering.effects l.executing)
