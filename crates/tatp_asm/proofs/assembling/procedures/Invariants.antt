use Rattle.std.proofs.Common.{◌≤◌, ◌+◌, length}
use Rattle.tatp_lines.specs.Lines.{lines_of}
use Rattle.tatp_asm.specs.Views.{state_of, FitsAny}
use Rattle.tatp_asm.proofs.EarlyLaws.{IsOnTheWay}
use Rattle.tatp_asm.proofs.assembling.procedures.Given as goal

abbrev pub invariant-lines : goal.invariant-lines
invariant-lines l = record {
  number : l.number + length l.rest ≤ length l.text + 1;
  fits : FitsAny l.draft;
  reading : IsOnTheWay l.text l.number (state_of l.closed.items l.draft) (lines_of l.rest);
}

abbrev pub decreases-lines : goal.decreases-lines
decreases-lines l = length l.rest
