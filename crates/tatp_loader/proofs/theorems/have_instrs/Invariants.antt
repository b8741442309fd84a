use Rattle.std.proofs.Common.{take}
use Rattle.std.specs.Prelude.{All}
use Rattle.tatp_loader.specs.ModuleBytes.{HasInstrs}
use Rattle.tatp_loader.proofs.theorems.have_instrs.Given as goal

abbrev pub invariant-loop-procedure : goal.invariant-loop-procedure
invariant-loop-procedure l = All HasInstrs (take l.procedure-index l.procs)
