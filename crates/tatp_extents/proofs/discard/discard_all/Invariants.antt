use Rattle.std.proofs.Common.{vec_len}
use Rattle.tatp_extents.proofs.discard.discard_all.Given as goal

abbrev pub decreases-loop-value : goal.decreases-loop-value
decreases-loop-value g l = vec_len l.rest
