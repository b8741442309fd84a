use Rattle.std.proofs.Common.{◌≡◌, take, length}
use Rattle.tatp_procs.proofs.procedures.is_code.Given as goal

abbrev pub invariant-loop-i : goal.invariant-loop-i
invariant-loop-i l = (length l.code ≡ length l.other) × (take l.i l.code ≡ take l.i l.other)
