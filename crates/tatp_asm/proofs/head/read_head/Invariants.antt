use Rattle.std.proofs.Common.{◌≡◌, ◌+◌, ◌≤◌, length}
use Rattle.tatp_lines.specs.Lines.{lines_of}
use Rattle.tatp_asm.specs.Heads.{head_from, head_of}
use Rattle.tatp_asm.proofs.head.read_head.Given as goal

abbrev pub invariant-lines : goal.invariant-lines
invariant-lines l = record {
  head : head_from l.line (lines_of l.left) ≡ head_of l.text;
  room : l.line + length l.left ≤ length l.text + 1;
}

abbrev pub decreases-lines : goal.decreases-lines
decreases-lines l = length l.left
