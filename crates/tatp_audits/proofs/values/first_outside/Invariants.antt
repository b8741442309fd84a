use Rattle.tatp_audits.proofs.Fitting.{IsFineUpTo}
use Rattle.tatp_audits.proofs.values.first_outside.Given as goal

abbrev pub invariant-loop-place : goal.invariant-loop-place
invariant-loop-place l = IsFineUpTo l.first l.row l.place
