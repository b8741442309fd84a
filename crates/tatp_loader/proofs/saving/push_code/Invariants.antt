use Rattle.std.proofs.Common.{◌≡◌, ◌++◌, take}
use Rattle.tatp_loader.specs.ModuleBytes.{code_bytes}
use Rattle.tatp_loader.proofs.saving.push_code.Given as goal

abbrev pub invariant-loop-instr : goal.invariant-loop-instr
invariant-loop-instr l = l.bytes.items ≡ l.initial.bytes.items ++ code_bytes (take l.instr-index l.code)
