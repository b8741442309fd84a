use Rattle.std.proofs.Common.{sym}
use Rattle.tatp_texts.proofs.ColumnLaws.{column_read}
use Rattle.tatp_texts.proofs.text.read_columns.Goals as goal

pub loop-place-preserved : goal.loop-place-preserved
loop-place-preserved g c =
    column_read g.row.N c.first_column-first.result c.args.fields.now c.loop-place.place c.loop-place.columns c.loop-place.fields c.next.new.self c.in_ok-next.field-0.now c.in_ok-columns.field-0 c.loop-place.invariant c.loop-place-test.true c.in_ok-next.ensures.field (sym c.in_ok-columns.ensures)
