use Rattle.std.proofs.Common.{◌∙◌}
use Rattle.tatp_settle.specs.Closings.{homes_numbered}
use Rattle.tatp_settle.proofs.NumberLaws.{rows_more}
use Rattle.tatp_settle.proofs.rows.rows_now.Goals as goal

pub extents-preserved : goal.extents-preserved
extents-preserved c = c.in_ok-add_rows.ensures ∙ rows_more (homes_numbered c.args.run.now.closed.now) c.extents.before c.extents.rows c.extents.invariant
