use Rattle.tatp_logs.specs.Receipts.{receipts_of}
use Rattle.tatp_settle.specs.Causes.{StampFalls}
use Rattle.tatp_settle.proofs.SearchLaws.{Clear}
use Rattle.tatp_settle.proofs.StampLaws.{IsLast}
use Rattle.tatp_settle.proofs.stamps.falling_of.Given as goal

abbrev pub invariant-calls : goal.invariant-calls
invariant-calls l = record { clear : Clear (StampFalls (receipts_of l.receipts) l.client) l.number; last : IsLast (receipts_of l.receipts) l.client l.number l.last }
