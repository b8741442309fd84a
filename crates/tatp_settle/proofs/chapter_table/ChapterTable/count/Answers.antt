use Rattle.std.proofs.Common.{◌∙◌, ap, sym, arith}
use Rattle.tatp_settle.specs.Closings.{ClosedState, log_numbered}
use Rattle.tatp_settle.proofs.NumberedLaws.{no_log_beyond}
use Rattle.tatp_settle.proofs.chapter_table.ChapterTable.count.Goals as goal

pub returns-clause-beyond : goal.returns-clause-beyond
returns-clause-beyond c = λ e l.
    let len = c.len.ensures in
    let count = c.self.invariant.rows.count in
    sym (ap (λ (d : ClosedState). log_numbered d e) c.self.view_is) ∙ no_log_beyond c.self.inside.closed.now e c.what_holds.ensures (omega (arith, l, len, count))
