use Rattle.tatp_history.proofs.OutcomeLaws.{aborted_out, answered_suffice}
use Rattle.tatp_history.proofs.theorems.only_answered_calls_have_to_take_effect.Goals as goal

pub returns : goal.returns
returns c = record { aborted = aborted_out; unknown = answered_suffice }
