use Rattle.tatp_workers.proofs.ExecutorLaws.{ExecutesSome}
use Rattle.tatp_workers.specs.Growing.{Does}
use Rattle.tatp_workers.proofs.executor.take_calls.Given as goal

abbrev pub invariant-loop-round : goal.invariant-loop-round
invariant-loop-round g l = Does (ExecutesSome l.partition l.chapter) (g.E.Answering.effects l.initial.executing) (g.E.Answering.effects l.executing)
