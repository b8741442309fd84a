use Rattle.tatp_console.proofs.RowsLaws.{RestUpTo}
use Rattle.tatp_console.proofs.rows.is_at_rest.Given as goal

abbrev pub invariant-sites : goal.invariant-sites
invariant-sites l = RestUpTo l.world l.p
