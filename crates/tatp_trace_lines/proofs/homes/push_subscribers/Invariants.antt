use Rattle.std.proofs.Common.{◌++◌}
use Rattle.std.specs.String.{string_bytes}
use Rattle.tatp_tables.specs.declared.row.Row.TheVariants.{S}
use Rattle.tatp_trace_lines.specs.HomeText.{rows_text}
use Rattle.tatp_trace_lines.proofs.HomeTextLaws.{AreRowsUpTo}
use Rattle.tatp_trace_lines.proofs.homes.push_subscribers.Given as goal

abbrev pub invariant-loop-columns : goal.invariant-loop-columns
invariant-loop-columns l = AreRowsUpTo S l.rows (string_bytes l.fn.text ++ rows_text S l.rows) l.columns-index (string_bytes l.text)
