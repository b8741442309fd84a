use Rattle.std.proofs.Common.{◌+◌, ◌*◌}
use Rattle.tatp_workload.proofs.calls.+halves.Given as goal

abbrev pub decreases-draw_lists : goal.decreases-draw_lists
decreases-draw_lists g l = 2 * l.halvings + 1

abbrev pub decreases-lower : goal.decreases-lower
decreases-lower g l = 2 * l.halvings

abbrev pub decreases-upper : goal.decreases-upper
decreases-upper g l = 2 * l.halvings
