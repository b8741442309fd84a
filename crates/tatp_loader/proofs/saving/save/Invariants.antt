use Rattle.std.proofs.Common.{◌≡◌, ◌++◌, ◌∷◌, take, length}
use Rattle.tatp_loader.specs.ModuleBytes.{magic, procedures_bytes}
use Rattle.tatp_loader.proofs.saving.save.Given as goal

abbrev pub invariant-loop-procedure : goal.invariant-loop-procedure
invariant-loop-procedure l = l.bytes.items ≡ magic l.loaded.version ++ (length l.procs ∷ procedures_bytes (take l.procedure-index l.procs))
