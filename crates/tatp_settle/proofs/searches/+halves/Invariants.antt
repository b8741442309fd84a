use Rattle.std.proofs.Common.{◌+◌, ◌*◌}
use Rattle.tatp_settle.proofs.searches.+halves.Given as goal

abbrev pub decreases-first_among : goal.decreases-first_among
decreases-first_among g l = 2 * l.halvings + 1

abbrev pub decreases-lower : goal.decreases-lower
decreases-lower g l = 2 * l.halvings

abbrev pub decreases-upper : goal.decreases-upper
decreases-upper g l = 2 * l.halvings
