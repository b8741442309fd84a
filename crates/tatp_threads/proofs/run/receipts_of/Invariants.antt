use Rattle.std.proofs.Common.{◌≡◌, ◌+◌, ◌≤◌, vec_len, vec_capacity}
use Rattle.std.specs.Vec.Iter.{into_iter_len}
use Rattle.tatp_threads.proofs.run.receipts_of.Given as goal

abbrev pub invariant-loop-client : goal.invariant-loop-client
invariant-loop-client g l = record {
  count : vec_len l.receipts + into_iter_len l.client-iterator ≡ vec_len l.fn.room + vec_len l.fn.clients;
  room : vec_len l.receipts + into_iter_len l.client-iterator ≤ vec_capacity l.receipts;
}
