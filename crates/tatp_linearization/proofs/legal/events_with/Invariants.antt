use Rattle.std.proofs.Common.{◌≡◌, take}
use Rattle.tatp_linearization.specs.Legal.{events_with}
use Rattle.tatp_linearization.proofs.legal.events_with.Given as goal

abbrev pub invariant-events : goal.invariant-events
invariant-events l = l.told.items ≡ events_with l.y (take l.i l.events)
