use Rattle.std.proofs.Common.{◌≡◌, ◌-◌, drop}
use Rattle.tatp_audits.proofs.Twins.{first_twin}
use Rattle.tatp_audits.proofs.twice.least_twice.Given as goal

abbrev pub invariant-loop-i : goal.invariant-loop-i
invariant-loop-i g l = first_twin l.keys ≡ first_twin (drop (l.i - 1) l.keys)
