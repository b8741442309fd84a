use Rattle.std.proofs.Common.{◌≡◌, ◌+◌, ◌≤◌, map, length, vec_len, vec_capacity}
use Rattle.std.specs.List.{range_with_len}
use Rattle.tatp_limits.specs.declared.limits.TheConstants.{EXTENT_SUBSCRIBERS}
use Rattle.tatp_tables.specs.Database.{database_of}
use Rattle.tatp_homes.specs.Loading.{list_in}
use Rattle.tatp_extents.specs.Opening.{opened_extent, extent_count, homes_of_extent}
use Rattle.tatp_extents.proofs.opening.extents_of.Given as goal

abbrev pub invariant-loop-homes : goal.invariant-loop-homes
invariant-loop-homes l = record {
  left : map (λ list. list.items) l.homes-iterator.rest.items ≡ map (list_in (database_of l.fn.rows) EXTENT_SUBSCRIBERS (length l.fn.rows.subscribers)) (range_with_len (vec_len l.extents) (length l.homes-iterator.rest.items));
  made : l.extents.items ≡ map (λ e. opened_extent e (homes_of_extent (database_of l.fn.rows) (length l.fn.rows.subscribers) e)) (range_with_len 1 (vec_len l.extents));
  count : vec_len l.extents + length l.homes-iterator.rest.items ≡ extent_count (length l.fn.rows.subscribers);
  room : extent_count (length l.fn.rows.subscribers) ≤ vec_capacity l.extents;
}
