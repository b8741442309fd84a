use Rattle.std.proofs.Common.{◌≡◌, ◌+◌, ◌≤◌, [], ◌∷◌, ◌++◌, ◌∙◌, length, map, vec_len, vec_capacity, ap, sym, arith, rules}
use Rattle.std.specs.List.{range_with_len}
use Rattle.tatp_limits.specs.declared.limits.TheConstants.{EXTENT_SUBSCRIBERS}
use Rattle.tatp_tables.specs.Database.{database_of}
use Rattle.tatp_homes.specs.Loading.{list_in}
use Rattle.tatp_extents.specs.Opening.{extent_count, opened_extent, homes_of_extent}
use Rattle.tatp_extents.proofs.OpeningLaws.{all_lists, lists_from_0, next_list, other_lists, is_extent_opened, one_more_opened}
use Rattle.tatp_extents.proofs.opening.extents_of.Goals as goal

pub loop-homes-init : goal.loop-homes-init
loop-homes-init c =
    let u = database_of c.args.rows in let n = length c.args.rows.subscribers in
    let lists = c.in_ok-lists.ensures in
    let same = c.into_iter-homes-iterator.ensures.into_iter_gives.0 in
    let none : vec_len c.in_ok-extents.extents ≡ 0 = c.in_ok-extents.ensures.len in
    let count : length c.in_ok-lists.lists.items ≡ extent_count n = all_lists _ c.in_ok-lists.lists.items u n lists in
    let long = c.in_ok-lists.lists.ok.0 in
    record {
      left = ap (map (λ list. list.items)) same ∙ lists_from_0 _ c.in_ok-lists.lists.items u n lists ∙ (λ i. map (list_in u EXTENT_SUBSCRIBERS n) (range_with_len (sym none i) (length (sym same i))));
      made = c.in_ok-extents.ensures.items ∙ ap (λ k. map (λ e. opened_extent e (homes_of_extent u n e)) (range_with_len 1 k)) (sym none);
      count = omega (arith, none, count, ap length same);
      room = omega (arith, count, long, c.len.ensures, c.in_ok-extents.ensures.capacity);
    }

pub open-requires : goal.open-requires
open-requires c =
    let u = database_of c.args.rows in let n = length c.args.rows.subscribers in
    let k = c.len-in-loop-homes.ensures in
    let homes = next_list (λ list. list.items) c.loop-homes.homes-iterator.rest.items c.next.new.self.rest.items c.in-Some.homes _ _ c.in-Some.ensures.steps.0 c.loop-homes.invariant.left in
    is_extent_opened u n c.len-in-loop-homes.result c.in-Some.homes.items (omega (arith, k, ap length c.in-Some.ensures.steps.0, c.loop-homes.invariant.count)) (homes ∙ ap (list_in u EXTENT_SUBSCRIBERS n) (sym k))

pub loop-homes-preserved : goal.loop-homes-preserved
loop-homes-preserved c =
    let u = database_of c.args.rows in let n = length c.args.rows.subscribers in
    let k = c.len-in-loop-homes.ensures in
    let steps = c.in-Some.ensures.steps.0 in
    let homes = next_list (λ list. list.items) c.loop-homes.homes-iterator.rest.items c.next.new.self.rest.items c.in-Some.homes _ _ steps c.loop-homes.invariant.left in
    let pushed : c.push.new.self.items ≡ c.loop-homes.extents.items ++ c.in-Ok.extent ∷ [] = search rules in
    let long : vec_len c.push.new.self ≡ vec_len c.loop-homes.extents + 1 = search rules in
    let room : vec_capacity c.loop-homes.extents ≤ vec_capacity c.push.new.self = search rules in
    record {
      left = other_lists _ c.loop-homes.homes-iterator.rest.items c.next.new.self.rest.items c.in-Some.homes _ _ steps c.loop-homes.invariant.left ∙ ap (λ j. map (list_in u EXTENT_SUBSCRIBERS n) (range_with_len j (length c.next.new.self.rest.items))) (sym long);
      made = one_more_opened u n (vec_len c.loop-homes.extents) c.loop-homes.extents.items c.push.new.self.items c.in-Ok.extent c.in-Some.homes.items c.loop-homes.invariant.made homes
          (c.in-Ok.ensures ∙ ap (λ j. opened_extent (j + 1) c.in-Some.homes.items) k) pushed ∙ ap (λ j. map (λ e. opened_extent e (homes_of_extent u n e)) (range_with_len 1 j)) (sym long);
      count = omega (arith, long, ap length steps, c.loop-homes.invariant.count);
      room = omega (arith, room, c.loop-homes.invariant.room);
    }

pub returns : goal.returns
returns c =
    let u = database_of c.args.rows in let n = length c.args.rows.subscribers in
    let all : vec_len c.loop-homes.extents ≡ extent_count n = omega (arith, c.loop-homes.invariant.count, c.in-None.ensures.steps.0, c.loop-homes.homes-iterator.rest.ok.0) in
    c.loop-homes.invariant.made ∙ ap (λ k. map (λ e. opened_extent e (homes_of_extent u n e)) (range_with_len 1 k)) all
