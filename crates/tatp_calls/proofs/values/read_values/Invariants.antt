use Rattle.tatp_calls.proofs.ReadingLaws.{IsReadUpTo}
use Rattle.tatp_calls.proofs.values.read_values.Given as goal

abbrev pub invariant-loop-place : goal.invariant-loop-place
invariant-loop-place g l = IsReadUpTo l.columns l.fn.fields l.place l.values l.fields
