use Rattle.std.proofs.Common.{◌++◌, ◌∷◌, [], sym, subst}
use Rattle.tatp_history.specs.declared.event.Event.{Event}
use Rattle.tatp_linearization.specs.Ahead.{Tells}
use Rattle.tatp_linearization.proofs.AheadLaws.{tells_asked, tells_ended}
use Rattle.tatp_linearization.proofs.ahead.add_event.Goals as goal

pub returns-in_ok-add_times-in-Asks-clause-more : goal.returns-in_ok-add_times-in-Asks-clause-more
returns-in_ok-add_times-in-Asks-clause-more c = λ past tells.
    subst (λ (e : Event). Tells (past ++ e ∷ []) c.add_last.new.ahead) (sym c.in-Asks.is)
    (tells_asked c.in-Asks.x c.args.ahead.now c.add_times.new.ahead c.add_last.new.ahead
    c.in_ok-add_times-in-Asks.ensures.own c.in_ok-add_times-in-Asks.ensures.others c.in_ok-add_times-in-Asks.ensures.same
    c.add_last.ensures.same c.add_last.ensures.last c.add_last.ensures.update c.add_last.ensures.read past tells)

pub returns-in-Ends-clause-more : goal.returns-in-Ends-clause-more
returns-in-Ends-clause-more c = λ past tells.
    subst (λ (e : Event). Tells (past ++ e ∷ []) c.args.ahead.now) (sym c.in-Ends.is)
    (tells_ended c.in-Ends.asked c.in-Ends.at c.args.ahead.now past tells)
