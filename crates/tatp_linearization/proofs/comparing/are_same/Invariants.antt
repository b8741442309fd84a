use Rattle.std.proofs.Common.{◌≡◌, length, take}
use Rattle.tatp_linearization.proofs.comparing.are_same.Given as goal

abbrev pub invariant-loop-i : goal.invariant-loop-i
invariant-loop-i l = record {
  sizes : length l.xs ≡ length l.ys;
  alike : take l.i l.xs ≡ take l.i l.ys;
}
