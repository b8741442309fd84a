use Rattle.std.proofs.Common.{suc}
use Rattle.tatp_linearization.proofs.ToRowsLaws.{Tried}
use Rattle.tatp_linearization.proofs.to_rows.may_have_rows.Given as goal

abbrev pub invariant-turns : goal.invariant-turns
invariant-turns l = Tried l.rows.s_id l.set l.rows.tables (suc l.i) l.going.items
