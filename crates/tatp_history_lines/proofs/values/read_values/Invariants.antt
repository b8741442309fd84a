use Rattle.std.proofs.Common.{length}
use Rattle.tatp_calls.specs.ReplyText.{answer_columns}
use Rattle.tatp_history_lines.proofs.ValuesLaws.{AreReadUpTo}
use Rattle.tatp_history_lines.proofs.values.read_values.Given as goal

abbrev pub invariant-fields : goal.invariant-fields
invariant-fields l = AreReadUpTo (answer_columns l.call) l.fn.fields l.values.items l.fields

abbrev pub decreases-fields : goal.decreases-fields
decreases-fields l = length l.fields
