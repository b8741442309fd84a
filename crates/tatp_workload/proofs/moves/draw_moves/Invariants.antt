use Rattle.std.proofs.Common.{◌≡◌, ◌≤◌, vec_len, vec_capacity}
use Rattle.tatp_workload.proofs.DrawnLaws.{MovesAreListed}
use Rattle.tatp_workload.proofs.moves.draw_moves.Given as goal

abbrev pub invariant-loop : goal.invariant-loop
invariant-loop g l = record {
  drawn : MovesAreListed l.fn.extents l.fn.partitions (g.R.Rng.stream l.initial.words) l.counter l.moves.items (g.R.Rng.stream l.words);
  count : vec_len l.moves ≡ l.counter;
  room : l.count ≤ vec_capacity l.moves;
}
