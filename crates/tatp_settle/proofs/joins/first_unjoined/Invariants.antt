use Rattle.tatp_tables.specs.declared.row.Rows.{Rows}
use Rattle.tatp_settle.specs.Runs.{AreHomesOf}
use Rattle.tatp_settle.specs.Causes.{IsUnjoined}
use Rattle.tatp_settle.proofs.SearchLaws.{ClearBefore}
use Rattle.tatp_settle.proofs.joins.first_unjoined.Given as goal

abbrev pub invariant-extents : goal.invariant-extents
invariant-extents l = (population : Rows) → AreHomesOf population l.homes → ClearBefore (IsUnjoined population l.chapters) l.extent
