use Rattle.tatp_move.proofs.RangeLaws.{moves_what_it_meets}
use Rattle.tatp_move.proofs.theorems.plans_move_the_extents_that_their_ranges_meet.Goals as goal

pub returns : goal.returns
returns c = moves_what_it_meets
