use Rattle.tatp_calls.proofs.ArgumentLaws.{NoneBefore}
use Rattle.tatp_calls.proofs.domains.first_bad.Given as goal

abbrev pub invariant-loop-place : goal.invariant-loop-place
invariant-loop-place l = NoneBefore l.columns l.arguments l.place
