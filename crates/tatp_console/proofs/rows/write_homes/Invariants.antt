use Rattle.std.specs.String.{string_bytes}
use Rattle.tatp_dispatch.specs.Gathered.{gathered}
use Rattle.tatp_console.proofs.RowsLaws.{RowsSoFar}
use Rattle.tatp_console.proofs.rows.write_homes.Given as goal

abbrev pub invariant-homes : goal.invariant-homes
invariant-homes g l =
    RowsSoFar (gathered l.world) l.subscribers l.before (g.W.Write.contents l.fn.writer) (g.W.Write.contents l.writer) (string_bytes l.pending)
