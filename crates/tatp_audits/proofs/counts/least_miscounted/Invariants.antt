use Rattle.std.proofs.Common.{take}
use Rattle.tatp_audits.specs.Failing.{Finds}
use Rattle.tatp_audits.specs.Audits.{is_miscounted}
use Rattle.tatp_audits.proofs.counts.least_miscounted.Given as goal

abbrev pub invariant-loop-row : goal.invariant-loop-row
invariant-loop-row g l = Finds (is_miscounted g.row.P l.least l.most l.below (take l.row-index l.rows)) l.best
