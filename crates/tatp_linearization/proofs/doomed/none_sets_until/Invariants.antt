use Rattle.std.proofs.Common.{drop}
use Rattle.tatp_linearization.specs.Doomed.{NoneSetsUntil}
use Rattle.tatp_linearization.proofs.doomed.none_sets_until.Given as goal

abbrev pub invariant-loop-i : goal.invariant-loop-i
invariant-loop-i l = NoneSetsUntil l.location l.asked (drop l.i l.events) → NoneSetsUntil l.location l.asked (drop l.from l.events)
