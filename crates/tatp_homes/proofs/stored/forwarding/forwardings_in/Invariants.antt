use Rattle.std.proofs.Common.{slice_index_or, None}
use Rattle.tatp_homes.proofs.StoredLaws.{AreFirst}
use Rattle.tatp_homes.proofs.stored.forwarding.forwardings_in.Given as goal

abbrev pub invariant-loop-at : goal.invariant-loop-at
invariant-loop-at l = AreFirst None 12 l.at (λ k. slice_index_or l.cells k None) l.rows
