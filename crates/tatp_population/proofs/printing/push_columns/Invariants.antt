use Rattle.std.proofs.Common.{◌++◌}
use Rattle.std.specs.String.{string_bytes}
use Rattle.tatp_texts.specs.Text.{columns_text}
use Rattle.tatp_texts.proofs.ColumnLaws.{IsPrintedUpTo}
use Rattle.tatp_population.proofs.printing.push_columns.Given as goal

abbrev pub invariant-loop-place : goal.invariant-loop-place
invariant-loop-place l = IsPrintedUpTo l.first l.columns (string_bytes l.fn.text ++ columns_text l.first l.columns) l.place (string_bytes l.text)
