use Rattle.std.proofs.Common.{◌≡◌}
use Rattle.tatp_extents.proofs.opening.reserve_logs.Given as goal

abbrev pub invariant-loop-extent : goal.invariant-loop-extent
invariant-loop-extent l = l.extents ≡ l.initial.extents
