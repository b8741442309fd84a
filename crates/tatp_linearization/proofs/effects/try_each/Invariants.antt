use Rattle.tatp_linearization.specs.Ahead.{LooksAhead}
use Rattle.tatp_linearization.proofs.TurnLaws.{Trying}
use Rattle.tatp_linearization.proofs.effects.try_each.Given as goal

abbrev pub invariant-calls : goal.invariant-calls
invariant-calls l = Trying (LooksAhead l.ahead l.now) l.kind l.c l.asked (record { answered = l.fn.answered.items; tried = l.fn.tried.items; going = l.fn.going.items }) l.i
    (record { answered = l.answered.items; tried = l.tried.items; going = l.going.items })
