use Rattle.std.proofs.Common.{◌≡◌, None, Some, refl, sym, ◌∙◌, ap}
use Rattle.tatp_settle.specs.Placing.{cells_of}
use Rattle.tatp_settle.proofs.TableLaws.{filled, row_is, rows_kept}
use Rattle.tatp_settle.proofs.table.Table.put.Goals as goal

pub returns-clause-puts : goal.returns-clause-puts
returns-clause-puts g c =
    let rows = c.self.inside.rows.items in
    let empty : cells_of c.args.self.now c.args.row c.args.column ≡ Some None = sym c.cell.ensures ∙ (c.in-Some-None.is ∙ ap (λ o. Some o) c.in-Some-None.field-0-is) in
    filled rows c.args.self.now c.args.row c.args.column c.args.value c.index_mut.result.now _ c.self.view_is
    (row_is rows c.args.row c.args.column None c.index_mut.result.now (ap (λ t. cells_of t c.args.row c.args.column) c.self.view_is ∙ empty) c.index_mut.ensures.value)
    empty refl

pub returns-clause-len : goal.returns-clause-len
returns-clause-len g c = rows_kept c.self.inside.rows.items c.args.self.now c.args.row _ c.self.view_is
