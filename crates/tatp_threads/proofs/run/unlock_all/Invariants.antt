use Rattle.std.proofs.Common.{◌≡◌, ◌+◌, ◌≤◌, vec_len, vec_capacity}
use Rattle.std.specs.Vec.Iter.{into_iter_len}
use Rattle.tatp_threads.proofs.run.unlock_all.Given as goal

abbrev pub invariant-loop-partition : goal.invariant-loop-partition
invariant-loop-partition l = record {
  count : vec_len l.sites + into_iter_len l.rest ≡ vec_len l.fn.room + vec_len l.fn.partitions;
  room : vec_len l.sites + into_iter_len l.rest ≤ vec_capacity l.sites;
  chapters : vec_len l.chapters + into_iter_len l.rest ≡ vec_len l.fn.room_for_chapters + vec_len l.fn.partitions;
  room_for_chapters : vec_len l.chapters + into_iter_len l.rest ≤ vec_capacity l.chapters;
}

abbrev pub decreases-loop-partition : goal.decreases-loop-partition
decreases-loop-partition l = into_iter_len l.rest
