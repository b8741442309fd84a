use Rattle.std.proofs.Common.{◌∙◌, sym, ap}
use Rattle.std.specs.Option.{option_copied}
use Rattle.tatp_settle.specs.Closings.{ClosedState}
use Rattle.tatp_settle.specs.ChapterTables.{chapter_handed_out}
use Rattle.tatp_settle.proofs.ChapterTableLaws.{cell_handed_out, none_handed_out}
use Rattle.tatp_settle.proofs.chapter_table.ChapterTable.chapter.Goals as goal

pub returns : goal.returns
returns c =
    cell_handed_out c.self.inside.closed.now c.self.inside.table c.args.number c.args.index c.in_ok-cell.field-0 c.self.invariant (sym c.cell.ensures ∙ c.in_ok-cell.was)
    ∙ ap (λ (d : ClosedState). chapter_handed_out d c.args.number c.args.index) c.self.view_is

pub returns-in_err-cell : goal.returns-in_err-cell
returns-in_err-cell c =
    ap option_copied c.from_residual.ensures
    ∙ (sym (none_handed_out c.self.inside.closed.now c.self.inside.table c.args.number c.args.index c.self.invariant (sym c.cell.ensures ∙ c.in_err-cell.was))
    ∙ ap (λ (d : ClosedState). chapter_handed_out d c.args.number c.args.index) c.self.view_is)
