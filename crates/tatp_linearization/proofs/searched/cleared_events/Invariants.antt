use Rattle.std.proofs.Common.{◌≡◌, take}
use Rattle.tatp_history.specs.Cleared.{cleared_events}
use Rattle.tatp_linearization.proofs.searched.cleared_events.Given as goal

abbrev pub invariant-events : goal.invariant-events
invariant-events l = l.told.items ≡ cleared_events l.home.tables.facilities (take l.i l.events)
