use Rattle.tatp_asm.specs.Views.{line_view}
use Rattle.tatp_asm.proofs.LineLaws.{within}
use Rattle.tatp_asm.proofs.line.parse_line.Goals as goal
use Rattle.tatp_asm.proofs.line.parse_line.Goals.{in_default-via-in-Instruction+else-not-is_in, in_default-via-in_default}

pub returns-in_default-clause-within : goal.returns-in_default-clause-within
returns-in_default-clause-within c =
    let read = rw c.in_ok-line.was at (within line_view c.bytes_line.result c.args.line.now c.bytes_line.ensures) in
    elim c.in_default.branch [
      | in_default-via-in-Instruction+else-not-is_in w ↦ rw w.line-is (rw w.in-Instruction.is at read)
      | in_default-via-in_default w ↦ rw w.line-is read
    ]
