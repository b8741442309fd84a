use Rattle.std.proofs.Common.{◌≡◌, ◌*◌, ◌≤◌, take}
use Rattle.tatp_limits.specs.declared.limits.TheConstants.{MAX_INSTRUCTIONS}
use Rattle.tatp_assembly.specs.Modules.{instruction_count}
use Rattle.tatp_assembly.proofs.commands.instruction_count.Given as goal

abbrev pub invariant-loop-procedure : goal.invariant-loop-procedure
invariant-loop-procedure l = record {
  total : l.count ≡ instruction_count (take l.procedure-index l.procs);
  within : l.count ≤ MAX_INSTRUCTIONS * l.procedure-index;
}
