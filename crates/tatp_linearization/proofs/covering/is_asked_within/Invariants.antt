use Rattle.std.proofs.Common.{◌≡◌}
use Rattle.tatp_linearization.proofs.covering.is_asked_within.Given as goal

abbrev pub invariant-calls : goal.invariant-calls
invariant-calls l = l.c.opened.items ≡ l.d.opened.items → l.j ≡ l.i
