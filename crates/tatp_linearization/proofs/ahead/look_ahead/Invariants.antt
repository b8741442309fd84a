use Rattle.std.proofs.Common.{◌≡◌, take}
use Rattle.tatp_linearization.specs.Ahead.{Tells}
use Rattle.tatp_linearization.proofs.ahead.look_ahead.Given as goal

abbrev pub invariant-events : goal.invariant-events
invariant-events l = record {
  tells : Tells (take l.i l.events) l.ahead;
  last : l.ahead.last ≡ l.initial.ahead.last;
}
