use Rattle.std.proofs.Common.{◌≡◌}
use Rattle.std.specs.List.{flat_map, range_with_len}
use Rattle.tatp_extents.specs.HomeRows.{rows_of_homes}
use Rattle.tatp_settle.specs.Closings.{homes_numbered}
use Rattle.tatp_settle.proofs.rows.rows_now.Given as goal

abbrev pub invariant-extents : goal.invariant-extents
invariant-extents l = l.rows ≡ rows_of_homes (flat_map (homes_numbered l.run.closed.now) (range_with_len 1 l.before))
