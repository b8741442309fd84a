use Rattle.std.proofs.Common.{◌≡◌, ◌≤◌, None, replicate, vec_capacity}
use Rattle.tatp_settle.proofs.table.fresh_row.Given as goal

abbrev pub invariant-cells : goal.invariant-cells
invariant-cells g l = (l.row.items ≡ replicate l.counter None) × (l.count ≤ vec_capacity l.row)
