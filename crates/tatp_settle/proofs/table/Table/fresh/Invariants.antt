use Rattle.std.proofs.Common.{◌≡◌, take}
use Rattle.tatp_logs.specs.Receipts.{receipts_of}
use Rattle.tatp_settle.proofs.TableLaws.{fresh_rows}
use Rattle.tatp_settle.proofs.table.Table.fresh.Given as goal

abbrev pub invariant-lists : goal.invariant-lists
invariant-lists g l = l.table ≡ fresh_rows _ (take l.list-index (receipts_of l.receipts))
