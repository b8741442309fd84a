use Rattle.std.proofs.Common.{◌≡◌, ◌++◌, take}
use Rattle.tatp_homes.specs.Cells.{present}
use Rattle.tatp_homes.proofs.home.listing.append_cells.Given as goal

abbrev pub invariant-loop-cell : goal.invariant-loop-cell
invariant-loop-cell g l = l.rows ≡ l.fn.rows ++ present (take l.cell-index l.cells)
