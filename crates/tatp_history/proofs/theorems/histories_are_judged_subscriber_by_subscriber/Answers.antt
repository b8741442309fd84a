use Rattle.tatp_history.proofs.JudgedLaws.{judged}
use Rattle.tatp_history.proofs.theorems.histories_are_judged_subscriber_by_subscriber.Goals as goal

pub returns : goal.returns
returns c = judged
