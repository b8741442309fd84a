use Rattle.std.proofs.Common.{slice_index}
use Rattle.tatp_homes.proofs.StoredLaws.{AreFirst}
use Rattle.tatp_homes.proofs.stored.subscriber.StoredSubscriber.columns.Given as goal

abbrev pub invariant-loop-place : goal.invariant-loop-place
invariant-loop-place l = AreFirst 0 34 l.place (slice_index l.self) l.columns
