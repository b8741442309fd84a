use Rattle.tatp_history.proofs.TurnLaws.{in_turn, lines_are_in_turn}
use Rattle.tatp_history.proofs.theorems.calls_in_turn_are_answered_in_order.Goals as goal

pub returns : goal.returns
returns c = record { calls = in_turn; lines = lines_are_in_turn }
