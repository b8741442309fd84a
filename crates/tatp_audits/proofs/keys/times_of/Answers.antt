use Rattle.std.proofs.Common.{arith, rules}
use Rattle.std.specs.Cmp.Lexicographic.{slice_cmp}
use Rattle.std.specs.Ordering.{nat_cmp, is_lt, is_le}
use Rattle.std.proofs.lemmas.List.Sorted.{IsPartitionPoint-from_clause}
use Rattle.tatp_audits.proofs.KeyCounts.{parted_le, parted_lt, times_between}
use Rattle.tatp_audits.proofs.keys.times_of.Goals as goal

pub overflow_sub-result : goal.overflow_sub-result
overflow_sub-result g c =
    let to_end = IsPartitionPoint-from_clause (λ y. is_le (slice_cmp nat_cmp y c.args.key.now)) _ _ c.partition_point-end.ensures.partitioned (parted_le _ c.args.key.now c.requires) (λ a r q k. search rules) in
    let to_start = IsPartitionPoint-from_clause (λ y. is_lt (slice_cmp nat_cmp y c.args.key.now)) _ _ c.partition_point-start.ensures.partitioned (parted_lt _ c.args.key.now c.requires) (λ a r q k. search rules) in
    let e = times_between c.args.keys.now c.args.key.now _ _ c.partition_point-start.ensures.bound c.partition_point-end.ensures.bound to_end to_start in
    omega (arith, e)

pub returns : goal.returns
returns g c =
    let to_end = IsPartitionPoint-from_clause (λ y. is_le (slice_cmp nat_cmp y c.args.key.now)) _ _ c.partition_point-end.ensures.partitioned (parted_le _ c.args.key.now c.requires) (λ a r q k. search rules) in
    let to_start = IsPartitionPoint-from_clause (λ y. is_lt (slice_cmp nat_cmp y c.args.key.now)) _ _ c.partition_point-start.ensures.partitioned (parted_lt _ c.args.key.now c.requires) (λ a r q k. search rules) in
    let e = times_between c.args.keys.now c.args.key.now _ _ c.partition_point-start.ensures.bound c.partition_point-end.ensures.bound to_end to_start in
    omega (arith, e)
