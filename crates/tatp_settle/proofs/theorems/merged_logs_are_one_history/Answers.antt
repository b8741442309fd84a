use Rattle.tatp_settle.proofs.MergeLaws.{every_interleaving_is_one_history, merges_interleave}
use Rattle.tatp_settle.proofs.theorems.merged_logs_are_one_history.Goals as goal

pub returns : goal.returns
returns c = λ parts history u logs separate is merges led. every_interleaving_is_one_history parts separate history u logs is (merges_interleave history logs merges) led
