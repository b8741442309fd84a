use Rattle.std.proofs.Common.{◌≡◌, All}
use Rattle.tatp_threads.specs.Seats.{AreEndsAt, readers_of, executors_ports}
use Rattle.tatp_threads.proofs.reserved.seat_executors.Given as goal

abbrev pub invariant-loop-reader : goal.invariant-loop-reader
invariant-loop-reader g l = record {
  readers : readers_of l.seats.items ≡ l.yielded;
  ports : All (AreEndsAt l.ports) (executors_ports l.seats.items);
  same : l.ports ≡ l.initial.ports;
}
