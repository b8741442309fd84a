use Rattle.tatp_linearization.proofs.LeavingLaws.{AddedLeft}
use Rattle.tatp_linearization.proofs.rows.add_left.Given as goal

abbrev pub invariant-calls : goal.invariant-calls
invariant-calls l = AddedLeft l.most l.calls l.place l.fn.set.items l.i l.set.items
