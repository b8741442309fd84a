use Rattle.std.proofs.Common.{◌≡◌, ◌++◌, take}
use Rattle.std.specs.String.{string_bytes}
use Rattle.tatp_asm.specs.Printing.{module_lines, lines_text, version_text}
use Rattle.std.specs.Prelude.{All}
use Rattle.tatp_encoding.specs.Spelling.{IsInstr}
use Rattle.tatp_asm.proofs.printing.module_text.Given as goal

abbrev pub invariant-loop-procedure : goal.invariant-loop-procedure
invariant-loop-procedure l = record {
  lines : string_bytes l.out ≡ version_text l.m.version ++ lines_text (module_lines (take l.procedure-index l.procs));
  instrs : All (λ p. All IsInstr p.code) (take l.procedure-index l.procs);
}
