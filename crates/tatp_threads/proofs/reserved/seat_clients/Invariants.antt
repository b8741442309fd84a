use Rattle.std.proofs.Common.{◌≡◌, All, length}
use Rattle.std.specs.List.{range_with_len}
use Rattle.tatp_threads.specs.Seats.{AreEndsAt, numbers_of, clients_ports, AreReadyFor}
use Rattle.tatp_threads.proofs.reserved.seat_clients.Given as goal

abbrev pub invariant-loop-list : goal.invariant-loop-list
invariant-loop-list g l = record {
  count : length l.seats.items ≡ l.list-index;
  numbers : numbers_of l.seats.items ≡ range_with_len 0 l.list-index;
  ports : All (AreEndsAt l.ports) (clients_ports l.seats.items);
  ready : AreReadyFor l.lists l.seats.items;
  same : l.ports ≡ l.initial.ports;
}
