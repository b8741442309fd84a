use Rattle.std.proofs.Common.{arith, subst, sym, ap, ◌∙◌}
use Rattle.tatp_calls.specs.Arguments.{arguments_accepted}
use Rattle.tatp_calls.specs.Calls.{key_of_call}
use Rattle.tatp_driver.specs.DrawnCall.{NamesOneOf}
use Rattle.tatp_driver.proofs.DrawnCallLaws.{call_on_accepted, call_on_names}
use Rattle.tatp_driver.proofs.drawn_call.call_of.Goals as goal

pub returns-clause-accepted : goal.returns-clause-accepted
returns-clause-accepted c = ap arguments_accepted c.call_on.ensures ∙ call_on_accepted c.choose_subscriber.result c.args.words.now (omega (arith, c.choose_subscriber.ensures.high, c.requires.few))

pub returns-clause-key : goal.returns-clause-key
returns-clause-key c = subst (λ call. NamesOneOf c.args.subscribers (key_of_call call)) (sym c.call_on.ensures)
    (call_on_names c.args.subscribers c.choose_subscriber.result c.args.words.now c.choose_subscriber.ensures.low c.choose_subscriber.ensures.high)
