use Rattle.tatp_settle.proofs.RunLaws.{runs_are_one_history}
use Rattle.tatp_settle.proofs.theorems.runs_are_one_history.Goals as goal

pub returns : goal.returns
returns c = runs_are_one_history
