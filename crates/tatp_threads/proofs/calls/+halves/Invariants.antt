use Rattle.std.proofs.Common.{◌+◌, ◌*◌}
use Rattle.tatp_threads.proofs.calls.+halves.Given as goal

abbrev pub decreases-obstacle_in_parts : goal.decreases-obstacle_in_parts
decreases-obstacle_in_parts g l = 2 * l.halvings + 1

abbrev pub decreases-lower : goal.decreases-lower
decreases-lower g l = 2 * l.halvings

abbrev pub decreases-upper : goal.decreases-upper
decreases-upper g l = 2 * l.halvings
