use Rattle.std.proofs.Common.{◌≡◌, ◌≤◌, ◌*◌, sum_by}
use Rattle.std.specs.List.{range_with_len}
use Rattle.tatp_limits.specs.declared.limits.TheConstants.{MAX_EXTENT_MOVES}
use Rattle.tatp_settle.specs.Closings.{moves_numbered}
use Rattle.tatp_settle.proofs.rows.count_moves.Given as goal

abbrev pub invariant-extents : goal.invariant-extents
invariant-extents l = record {
  moves : l.moves ≡ sum_by (moves_numbered l.run.closed.now) (range_with_len 1 l.before);
  few : l.moves ≤ MAX_EXTENT_MOVES * l.before;
}
