use Rattle.std.proofs.Common.{◌≡◌, take}
use Rattle.tatp_linearization.specs.Cut.{events_by}
use Rattle.tatp_linearization.proofs.cut.events_by.Given as goal

abbrev pub invariant-events : goal.invariant-events
invariant-events l = l.cut.items ≡ events_by l.time (take l.i l.events)
