use Rattle.std.proofs.Common.{◌≡◌, ◌≤◌, map, vec_capacity}
use Rattle.std.specs.List.{range_with_len}
use Rattle.tatp_move.specs.Routing.{opening_route}
use Rattle.tatp_move.proofs.route.Routes.open.Given as goal

abbrev pub invariant-loop-e : goal.invariant-loop-e
invariant-loop-e l = record {
  routes : l.routes.items ≡ map (opening_route l.partitions) (range_with_len 0 l.e);
  room : l.e-end ≤ vec_capacity l.routes;
}
