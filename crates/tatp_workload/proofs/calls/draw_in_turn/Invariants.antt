use Rattle.std.proofs.Common.{◌≡◌, ◌≤◌, ◌+◌, ◌-◌, vec_len, vec_capacity}
use Rattle.tatp_logs.specs.Lists.{lists_of}
use Rattle.tatp_workload.specs.Drawn.{calls_of_clients}
use Rattle.tatp_workload.proofs.calls.draw_in_turn.Given as goal

abbrev pub invariant-loop-client : goal.invariant-loop-client
invariant-loop-client l = record {
  drawn : lists_of l.lists.items ≡ calls_of_clients l.plan l.from l.client;
  low : l.from ≤ l.client;
  count : vec_len l.lists + l.from ≡ l.client;
  room : l.to - l.from ≤ vec_capacity l.lists;
}
