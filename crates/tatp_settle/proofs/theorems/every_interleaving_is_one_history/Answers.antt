use Rattle.tatp_settle.proofs.MergeLaws.{every_interleaving_is_one_history}
use Rattle.tatp_settle.proofs.theorems.every_interleaving_is_one_history.Goals as goal

pub returns : goal.returns
returns c = λ parts history u logs separate is interleaves led. every_interleaving_is_one_history parts separate history u logs is interleaves led
