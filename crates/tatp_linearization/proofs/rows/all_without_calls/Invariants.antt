use Rattle.tatp_linearization.proofs.LeavingLaws.{Started}
use Rattle.tatp_linearization.proofs.rows.all_without_calls.Given as goal

abbrev pub invariant-configurations : goal.invariant-configurations
invariant-configurations l = Started l.most l.set l.i l.rows.items
