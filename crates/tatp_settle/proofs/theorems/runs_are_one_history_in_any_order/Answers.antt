use Rattle.tatp_settle.proofs.RunLaws.{runs_are_one_history_in_any_order}
use Rattle.tatp_settle.proofs.theorems.runs_are_one_history_in_any_order.Goals as goal

pub returns : goal.returns
returns c = runs_are_one_history_in_any_order
