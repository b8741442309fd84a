use Rattle.std.proofs.Common.{take}
use Rattle.std.specs.Prelude.{All}
use Rattle.tatp_encoding.specs.Spelling.{IsInstr}
use Rattle.tatp_loader.proofs.theorems.are_instrs.Given as goal

abbrev pub invariant-loop-instr : goal.invariant-loop-instr
invariant-loop-instr l = All IsInstr (take l.instr-index l.code)
