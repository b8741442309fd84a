use Rattle.tatp_settle.proofs.TakingLaws.{logs_can_be_merged}
use Rattle.tatp_settle.proofs.theorems.logs_can_be_merged.Goals as goal

pub returns : goal.returns
returns c = logs_can_be_merged
