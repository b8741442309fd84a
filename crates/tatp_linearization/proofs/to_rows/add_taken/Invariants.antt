use Rattle.tatp_linearization.proofs.GatheringLaws.{Taking}
use Rattle.tatp_linearization.proofs.to_rows.add_taken.Given as goal

abbrev pub invariant-calls : goal.invariant-calls
invariant-calls l = Taking l.c l.fn.after.items l.i l.after.items
