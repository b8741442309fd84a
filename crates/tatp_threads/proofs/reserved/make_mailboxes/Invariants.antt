use Rattle.std.proofs.Common.{◌≡◌, length}
use Rattle.tatp_threads.proofs.reserved.make_mailboxes.Given as goal

abbrev pub invariant-loop : goal.invariant-loop
invariant-loop l = length l.mailboxes.items ≡ l.counter
