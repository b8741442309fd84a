use Rattle.tatp_homes.proofs.ListingLaws.{row_appended, none_appended}
use Rattle.std.proofs.Common.{◌∙◌}
use Rattle.tatp_homes.proofs.home.listing.append_cells.Goals as goal
use Rattle.tatp_homes.proofs.home.listing.append_cells.Goals.{in-Some+in_default-push, in_default}

pub loop-cell-preserved : goal.loop-cell-preserved
loop-cell-preserved g c = elim c.match-cell.branch [
  | in-Some+in_default-push w ↦ w.rows-is ∙ w.in_default-push.ensures.ok ∙ row_appended c.loop-cell.rows c.args.rows.now c.args.cells.now c.loop-cell.cell-index c.cell-item.result w.in-Some.row c.loop-cell-test.true c.cell-item.is w.in-Some.is c.loop-cell.invariant
  | in_default w ↦ w.rows-is ∙ none_appended c.loop-cell.rows c.args.rows.now c.args.cells.now c.loop-cell.cell-index c.cell-item.result c.loop-cell-test.true c.cell-item.is w.in_default.is c.loop-cell.invariant
]
