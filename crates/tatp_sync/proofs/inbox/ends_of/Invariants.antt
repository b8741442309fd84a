use Rattle.std.proofs.Common.{◌≡◌, map, take}
use Rattle.tatp_sync.specs.Inboxes.{end_beside}
use Rattle.tatp_sync.proofs.inbox.ends_of.Given as goal

abbrev pub invariant-loop-port : goal.invariant-loop-port
invariant-loop-port g l = record {
  ends : l.ends.items ≡ map end_beside (take l.port-index l.ports);
  same : l.ports ≡ l.initial.ports;
}
