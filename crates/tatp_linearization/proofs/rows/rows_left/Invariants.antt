use Rattle.tatp_linearization.proofs.LeavingLaws.{Closing}
use Rattle.tatp_linearization.proofs.rows.rows_left.Given as goal

abbrev pub invariant-rows : goal.invariant-rows
invariant-rows l = Closing l.most l.set l.calls l.i l.rows.items
