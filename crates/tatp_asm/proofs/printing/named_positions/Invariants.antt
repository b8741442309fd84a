use Rattle.std.proofs.Common.{◌≡◌, ℕ, ◌≤◌, false, take, get_or}
use Rattle.std.specs.Prelude.{All}
use Rattle.tatp_limits.specs.declared.limits.TheConstants.{MAX_INSTRUCTIONS}
use Rattle.tatp_encoding.specs.Spelling.{IsInstr}
use Rattle.tatp_asm.specs.Printing.{is_named}
use Rattle.tatp_asm.proofs.printing.named_positions.Given as goal

abbrev pub invariant-loop-instr : goal.invariant-loop-instr
invariant-loop-instr l = record {
  named : (k : ℕ) → k ≤ MAX_INSTRUCTIONS → get_or l.named k false ≡ is_named (take l.instr-index l.code) k;
  instrs : All IsInstr (take l.instr-index l.code);
}
