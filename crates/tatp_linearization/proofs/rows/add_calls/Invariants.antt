use Rattle.std.proofs.Common.{◌≡◌, ◌++◌, take}
use Rattle.tatp_linearization.specs.Legal.{calls_in}
use Rattle.tatp_linearization.proofs.rows.add_calls.Given as goal

abbrev pub invariant-calls : goal.invariant-calls
invariant-calls l = l.calls.items ≡ l.fn.calls.items ++ calls_in (take l.i l.opened)
