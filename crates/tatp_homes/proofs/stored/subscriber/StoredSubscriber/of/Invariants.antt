use Rattle.std.proofs.Common.{◌+◌, slice_index}
use Rattle.tatp_homes.proofs.StoredLaws.{AreFirst}
use Rattle.tatp_homes.proofs.stored.subscriber.StoredSubscriber.of.Given as goal

abbrev pub invariant-loop-place : goal.invariant-loop-place
invariant-loop-place l = AreFirst 0 30 l.place (λ k. slice_index l.row (k + 2)) l.small
