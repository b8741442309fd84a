use Rattle.std.proofs.Common.{◌≡◌, ◌+◌, ◌≤◌, ◌++◌, All, reverse, vec_len}
use Rattle.std.specs.Vec.{vec_capacity}
use Rattle.tatp_extents.specs.Extents.{IsExtent}
use Rattle.tatp_settle.proofs.gathering.unpack_all.Given as goal

abbrev pub invariant-loop-parcel : goal.invariant-loop-parcel
invariant-loop-parcel l = record {
  extents : l.rest.items ++ reverse l.extents.items ≡ l.fn.parcels.items;
  holds : All IsExtent l.extents.items;
  room : vec_len l.rest + vec_len l.extents ≤ vec_capacity l.extents;
}

abbrev pub decreases-loop-parcel : goal.decreases-loop-parcel
decreases-loop-parcel l = vec_len l.rest
