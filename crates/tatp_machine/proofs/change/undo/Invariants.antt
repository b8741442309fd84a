use Rattle.std.proofs.Common.{◌≡◌, ◌≤◌, Some, length, take}
use Rattle.tatp_machine.specs.Undo.{undone}
use Rattle.tatp_machine.proofs.change.undo.Given as goal

abbrev pub invariant-loop-left : goal.invariant-loop-left
invariant-loop-left l = record {
  within : l.left ≤ length l.changes;
  left : undone (Some l.fn.home.s_id) (take l.left l.changes) l.home.tables ≡ undone (Some l.fn.home.s_id) l.changes l.fn.home.tables;
  same : l.home.s_id ≡ l.fn.home.s_id;
}

abbrev pub decreases-loop-left : goal.decreases-loop-left
decreases-loop-left l = l.left
