use Rattle.std.proofs.Common.{◌≡◌, not, take, count_by, slice_get, Some}
use Rattle.tatp_logs.specs.Receipts.{receipts_of}
use Rattle.tatp_settle.specs.Receipts.{is_done}
use Rattle.tatp_settle.specs.Runs.{joined}
use Rattle.tatp_settle.proofs.CountLaws.{seen}
use Rattle.tatp_settle.proofs.counts.count_receipts.Given as goal

abbrev pub invariant-receipts : goal.invariant-receipts
invariant-receipts l = (slice_get (receipts_of l.receipts) l.list-index ≡ Some l.list.receipts)
    × (l.completed ≡ count_by is_done (seen (receipts_of l.receipts) l.list-index l.list.receipts l.index))
    × (l.refused ≡ count_by (λ receipt. not (is_done receipt)) (seen (receipts_of l.receipts) l.list-index l.list.receipts l.index))

abbrev pub invariant-lists : goal.invariant-lists
invariant-lists l = (l.completed ≡ count_by is_done (joined (take l.list-index (receipts_of l.receipts))))
    × (l.refused ≡ count_by (λ receipt. not (is_done receipt)) (joined (take l.list-index (receipts_of l.receipts))))
