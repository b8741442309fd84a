use Rattle.std.proofs.Common.{◌≡◌, drop}
use Rattle.tatp_extents.specs.HomeRows.{with_homes}
use Rattle.tatp_extents.proofs.homes.add_rows.Given as goal

abbrev pub invariant-loop-home : goal.invariant-loop-home
invariant-loop-home l = with_homes l.rows (drop l.home-index l.homes) ≡ with_homes l.fn.rows l.homes
