use Rattle.std.proofs.Common.{length}
use Rattle.tatp_trace_lines.proofs.NumberLaws.{AreReadUpTo}
use Rattle.tatp_trace_lines.proofs.parsing.numbers.eight_numbers.Given as goal

abbrev pub invariant-fields : goal.invariant-fields
invariant-fields l = AreReadUpTo l.fn.fields l.numbers.items l.fields

abbrev pub decreases-fields : goal.decreases-fields
decreases-fields l = length l.fields
