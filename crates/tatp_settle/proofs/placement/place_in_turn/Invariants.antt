use Rattle.std.proofs.Common.{◌≡◌, length}
use Rattle.tatp_logs.specs.Receipts.{receipts_of}
use Rattle.tatp_settle.specs.Placing.{cells_of}
use Rattle.tatp_settle.proofs.PlacingLaws.{PlacedBefore}
use Rattle.tatp_settle.proofs.placement.place_in_turn.Given as goal

abbrev pub invariant-entries : goal.invariant-entries
invariant-entries l = record { len : length l.table ≡ length (receipts_of l.part.receipts.now); placed : PlacedBefore l.logs (receipts_of l.part.receipts.now) l.part.first l.part.last (cells_of l.table) l.extra l.extent l.index }

abbrev pub invariant-logs : goal.invariant-logs
invariant-logs l = record { len : length l.table ≡ length (receipts_of l.part.receipts.now); placed : PlacedBefore l.logs (receipts_of l.part.receipts.now) l.part.first l.part.last (cells_of l.table) l.extra l.extent 0 }
