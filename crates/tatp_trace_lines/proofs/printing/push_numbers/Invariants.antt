use Rattle.std.proofs.Common.{◌++◌}
use Rattle.std.specs.String.{string_bytes}
use Rattle.tatp_trace_lines.specs.LineText.{numbers_text}
use Rattle.tatp_trace_lines.proofs.PushLaws.{ArePushedUpTo}
use Rattle.tatp_trace_lines.proofs.printing.push_numbers.Given as goal

abbrev pub invariant-loop-number : goal.invariant-loop-number
invariant-loop-number l = ArePushedUpTo l.numbers (string_bytes l.fn.text ++ numbers_text l.numbers) l.number-index (string_bytes l.text)
