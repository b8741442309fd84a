use Rattle.std.proofs.Common.{[]}
use Rattle.tatp_linearization.specs.Ahead.{LooksAhead}
use Rattle.tatp_linearization.proofs.TurnLaws.{TryingAll}
use Rattle.tatp_linearization.proofs.effects.try_all.Given as goal

abbrev pub invariant-configurations : goal.invariant-configurations
invariant-configurations l = TryingAll (LooksAhead l.ahead l.now) l.set l.asked (record { answered = l.fn.answered.items; tried = l.fn.tried.items; going = [] }) l.i
    (record { answered = l.answered.items; tried = l.tried.items; going = l.going.items })
