use Rattle.std.proofs.Common.{◌+◌, ◌*◌}
use Rattle.tatp_settle.proofs.placement.+parts.Given as goal

abbrev pub decreases-place_part : goal.decreases-place_part
decreases-place_part g l = 2 * l.halvings + 1

abbrev pub decreases-lower : goal.decreases-lower
decreases-lower g l = 2 * l.halvings

abbrev pub decreases-upper : goal.decreases-upper
decreases-upper g l = 2 * l.halvings
