use Rattle.tatp_texts.proofs.ColumnLaws.{IsReadUpTo}
use Rattle.tatp_texts.proofs.text.read_columns.Given as goal

abbrev pub invariant-loop-place : goal.invariant-loop-place
invariant-loop-place g l = IsReadUpTo g.row.N l.first l.fn.fields l.place l.columns l.fields
