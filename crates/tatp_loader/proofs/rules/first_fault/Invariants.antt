use Rattle.std.proofs.Common.{◌≡◌, [], take, drop}
use Rattle.tatp_loader.specs.Rules.{first_fault_after}
use Rattle.tatp_loader.proofs.rules.first_fault.Given as goal

abbrev pub invariant-loop-number : goal.invariant-loop-number
invariant-loop-number l = first_fault_after l.version (take l.number l.procs) (drop l.number l.procs) ≡ first_fault_after l.version [] l.procs
