use Rattle.std.proofs.Common.{◌≡◌, ◌++◌, take}
use Rattle.tatp_history.specs.Events.{asked_in}
use Rattle.tatp_linearization.specs.Legal.{calls_in, open_calls}
use Rattle.tatp_linearization.proofs.rows.calls_of.Given as goal

abbrev pub invariant-configurations : goal.invariant-configurations
invariant-configurations l = l.calls.items ≡ open_calls (take l.i l.set)

abbrev pub invariant-events : goal.invariant-events
invariant-events l = l.calls.items ≡ open_calls l.set ++ calls_in (asked_in (take l.i l.events))
