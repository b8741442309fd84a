use Rattle.std.proofs.Common.{take}
use Rattle.tatp_history.specs.Events.{AreAfter}
use Rattle.tatp_linearization_tests.proofs.tests.forwardings.are_after.Given as goal

abbrev pub invariant-loop-i : goal.invariant-loop-i
invariant-loop-i l = AreAfter l.time (take l.i l.events)
