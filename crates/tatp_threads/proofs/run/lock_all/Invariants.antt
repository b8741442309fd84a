use Rattle.std.proofs.Common.{◌≡◌, ◌+◌, ◌≤◌, vec_len, vec_capacity}
use Rattle.std.specs.Vec.Iter.{into_iter_len}
use Rattle.tatp_threads.proofs.run.lock_all.Given as goal

abbrev pub invariant-loop-site : goal.invariant-loop-site
invariant-loop-site l = record {
  count : vec_len l.partitions + into_iter_len l.rest ≡ vec_len l.fn.room + vec_len l.fn.sites;
  room : vec_len l.partitions + into_iter_len l.rest ≤ vec_capacity l.partitions;
}

abbrev pub decreases-loop-site : goal.decreases-loop-site
decreases-loop-site l = into_iter_len l.rest
