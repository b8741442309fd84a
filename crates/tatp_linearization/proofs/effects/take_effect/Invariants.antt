use Rattle.tatp_linearization.specs.Ahead.{LooksAhead}
use Rattle.tatp_linearization.proofs.TurnLaws.{Turned}
use Rattle.tatp_linearization.proofs.effects.take_effect.Given as goal

abbrev pub invariant-turns : goal.invariant-turns
invariant-turns l = Turned (LooksAhead l.ahead l.now) l.fn.answered.items l.fn.tried.items l.c l.asked l.i l.answered.items l.tried.items l.going.items
