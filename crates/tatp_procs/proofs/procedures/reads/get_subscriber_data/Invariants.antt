use Rattle.std.proofs.Common.{◌≡◌}
use Rattle.tatp_procs.proofs.CodeLaws.{with_reads}
use Rattle.tatp_procs.proofs.procedures.reads.get_subscriber_data.Given as goal

abbrev pub invariant-loop-column : goal.invariant-loop-column
invariant-loop-column l = (l.r2 ≡ 2) × (l.code ≡ with_reads l.column l.initial.code)
