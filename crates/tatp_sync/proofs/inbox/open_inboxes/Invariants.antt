use Rattle.std.proofs.Common.{◌≡◌, length, All}
use Rattle.tatp_sync.specs.Inboxes.{IsNew}
use Rattle.tatp_sync.proofs.inbox.open_inboxes.Given as goal

abbrev pub invariant-loop : goal.invariant-loop
invariant-loop g l = record {
  count : length l.ports.items ≡ l.counter;
  pairs : l.readers.items ≡ l.ports.items;
  new : All (IsNew l.room) l.ports.items;
}
