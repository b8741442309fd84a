use Rattle.std.proofs.Common.{take}
use Rattle.tatp_audits.specs.Failing.{Finds}
use Rattle.tatp_audits.specs.Audits.{is_orphan}
use Rattle.tatp_audits.proofs.parents.least_orphan.Given as goal

abbrev pub invariant-loop-row : goal.invariant-loop-row
invariant-loop-row g l = Finds (is_orphan g.row.P l.parents g.row.N (take l.row-index l.rows)) l.best
