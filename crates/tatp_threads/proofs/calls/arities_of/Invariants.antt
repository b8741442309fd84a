use Rattle.std.proofs.Common.{◌≡◌, ◌≤◌, length, take, map, vec_capacity}
use Rattle.tatp_encoding.specs.Modules.{Procedure}
use Rattle.tatp_threads.proofs.calls.arities_of.Given as goal

abbrev pub invariant-loop-proc : goal.invariant-loop-proc
invariant-loop-proc l = record {
  items : l.arities.items ≡ map (λ (p : Procedure). p.arity) (take l.proc-index l.procs);
  room : length l.procs ≤ vec_capacity l.arities;
}
