use Rattle.tatp_dispatch.proofs.RunningLaws.{runs_nothing, runs_more}
use Rattle.tatp_dispatch.proofs.theorems.runs_go_on.Goals as goal

pub returns : goal.returns
returns c = record { none = runs_nothing; more = runs_more }
