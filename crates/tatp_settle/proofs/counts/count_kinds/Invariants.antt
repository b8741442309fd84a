use Rattle.std.proofs.Common.{◌≡◌, take, slice_get, Some}
use Rattle.tatp_logs.specs.Lists.{lists_of}
use Rattle.tatp_settle.specs.Runs.{joined}
use Rattle.tatp_settle.proofs.CountLaws.{seen}
use Rattle.tatp_settle.proofs.KindLaws.{kinds_of}
use Rattle.tatp_settle.proofs.counts.count_kinds.Given as goal

abbrev pub invariant-calls : goal.invariant-calls
invariant-calls l = (slice_get (lists_of l.calls) l.list-index ≡ Some l.ask-items) × (l.kinds ≡ kinds_of (seen (lists_of l.calls) l.list-index l.ask-items l.ask-index))

abbrev pub invariant-lists : goal.invariant-lists
invariant-lists l = l.kinds ≡ kinds_of (joined (take l.list-index (lists_of l.calls)))
