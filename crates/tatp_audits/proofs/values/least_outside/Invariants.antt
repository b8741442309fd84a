use Rattle.std.proofs.Common.{take, ◌<◌, get_or}
use Rattle.std.specs.Prelude.{IfSome}
use Rattle.tatp_audits.specs.Failing.{Finds}
use Rattle.tatp_audits.specs.Audits.{is_outside}
use Rattle.tatp_audits.proofs.values.least_outside.Given as goal

abbrev pub invariant-loop-row : goal.invariant-loop-row
invariant-loop-row g l = record {
  least : Finds (is_outside l.table (take l.row-index l.rows)) l.best;
  column : IfSome l.best (λ place. get_or place g.row.N 0 < 256);
}
