use Rattle.std.proofs.Common.{◌≡◌, ◌≤◌, vec_len, vec_capacity}
use Rattle.tatp_workload.proofs.DrawnLaws.{StopsAreListed}
use Rattle.tatp_workload.proofs.moves.draw_stops.Given as goal

abbrev pub invariant-loop : goal.invariant-loop
invariant-loop g l = record {
  drawn : StopsAreListed l.fn.partitions (g.R.Rng.stream l.initial.words) l.counter l.stops.items (g.R.Rng.stream l.words);
  count : vec_len l.stops ≡ l.counter;
  room : l.count ≤ vec_capacity l.stops;
}
