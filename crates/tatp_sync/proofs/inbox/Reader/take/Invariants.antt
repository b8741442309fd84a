use Rattle.std.proofs.Common.{◌≡◌}
use Rattle.tatp_sync.proofs.inbox.Reader.take.Given as goal

abbrev pub invariant-loop : goal.invariant-loop
invariant-loop g l = l.self ≡ l.initial.self
