use Rattle.std.proofs.Common.{◌≡◌, ◌≤◌, ◌+◌, replicate, None, vec_capacity}
use Rattle.tatp_partition.proofs.slots.Slots.empty.Given as goal

abbrev pub invariant-slots : goal.invariant-slots
invariant-slots g l = record {
  empty : l.items.items ≡ replicate l.counter None;
  room : l.last + 1 ≤ vec_capacity l.items;
}
