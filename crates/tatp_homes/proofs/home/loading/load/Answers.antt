use Rattle.std.proofs.Common.{◌≡◌, ◌+◌, ◌/◌, length, map, slice_index_or, refl, ap, sym, ◌∙◌, arith, rules}
use Rattle.tatp_tables.specs.Rows.{rows_in}
use Rattle.tatp_homes.specs.Loading.{read_until, lists_in}
use Rattle.tatp_homes.proofs.LoadingLaws.{read_all}
use Rattle.tatp_homes.proofs.HoldLaws.{IsNext, wanted}
use Rattle.tatp_homes.proofs.ListLaws.{list_within, home_within, home_in_lists, lists_held, lists_passed}
use Rattle.tatp_homes.proofs.home.loading.load.Goals as goal
use Rattle.tatp_homes.proofs.home.loading.load.Goals.{in-Some, in_default}

pub offset_bounds-lists-place : goal.offset_bounds-lists-place
offset_bounds-lists-place c =
    let so_far = c.loop-i.invariant ∙ ap (lists_in (read_until c.args.table c.args.rows.now c.loop-i.i) c.args.size) (sym c.len-count.ensures) in
    let within = list_within _ c.loop-i.lists _ c.args.size c.len-count.result c.in-Some.place c.requires.size c.in-Some.ensures.some.0 so_far in
    search rules

pub bounds-lists-place : goal.bounds-lists-place
bounds-lists-place c =
    let so_far = c.loop-i.invariant ∙ ap (lists_in (read_until c.args.table c.args.rows.now c.loop-i.i) c.args.size) (sym c.len-count.ensures) in
    list_within _ c.loop-i.lists _ c.args.size c.len-count.result c.in-Some.place c.requires.size c.in-Some.ensures.some.0 so_far

pub index_mut-home-requires : goal.index_mut-home-requires
index_mut-home-requires c =
    let so_far = c.loop-i.invariant ∙ ap (lists_in (read_until c.args.table c.args.rows.now c.loop-i.i) c.args.size) (sym c.len-count.ensures) in
    let list = slice_index_or c.loop-i.lists (c.in-Some.place / c.args.size) c.index-lists-place.result in
    let within = home_within (λ list. list.items) c.loop-i.lists c.index-lists-place.result _ c.args.size c.len-count.result c.in-Some.place c.requires.size c.in-Some.ensures.some.0 so_far in
    omega (arith, within, list.ok.0)

pub hold-requires-clause-own : goal.hold-requires-clause-own
hold-requires-clause-own c =
    let next : IsNext c.args.table c.args.rows.now c.loop-i.i c.row_of-row.result.now = record { clean = c.requires.clean; more = omega (arith, c.loop-i-test.true, c.count_of-i-end.ensures); is = c.row_of-row.ensures } in
    let at = c.in-Some.ensures.some in
    let so_far = c.loop-i.invariant ∙ ap (lists_in (read_until c.args.table c.args.rows.now c.loop-i.i) c.args.size) (sym c.len-count.ensures) in
    let home = c.index_mut-home.ensures.value ∙ home_in_lists _ c.loop-i.lists _ _ c.args.size c.len-count.result c.in-Some.place _ c.requires.size at.0 so_far in
    (wanted c.args.table c.args.rows.now c.loop-i.i _ c.row_of-row.result.now c.index_mut-home.result.now next home (sym at.1)).own

pub hold-requires-clause-free : goal.hold-requires-clause-free
hold-requires-clause-free c =
    let next : IsNext c.args.table c.args.rows.now c.loop-i.i c.row_of-row.result.now = record { clean = c.requires.clean; more = omega (arith, c.loop-i-test.true, c.count_of-i-end.ensures); is = c.row_of-row.ensures } in
    let at = c.in-Some.ensures.some in
    let so_far = c.loop-i.invariant ∙ ap (lists_in (read_until c.args.table c.args.rows.now c.loop-i.i) c.args.size) (sym c.len-count.ensures) in
    let home = c.index_mut-home.ensures.value ∙ home_in_lists _ c.loop-i.lists _ _ c.args.size c.len-count.result c.in-Some.place _ c.requires.size at.0 so_far in
    (wanted c.args.table c.args.rows.now c.loop-i.i _ c.row_of-row.result.now c.index_mut-home.result.now next home (sym at.1)).free

pub hold-requires-clause-parent : goal.hold-requires-clause-parent
hold-requires-clause-parent c =
    let next : IsNext c.args.table c.args.rows.now c.loop-i.i c.row_of-row.result.now = record { clean = c.requires.clean; more = omega (arith, c.loop-i-test.true, c.count_of-i-end.ensures); is = c.row_of-row.ensures } in
    let at = c.in-Some.ensures.some in
    let so_far = c.loop-i.invariant ∙ ap (lists_in (read_until c.args.table c.args.rows.now c.loop-i.i) c.args.size) (sym c.len-count.ensures) in
    let home = c.index_mut-home.ensures.value ∙ home_in_lists _ c.loop-i.lists _ _ c.args.size c.len-count.result c.in-Some.place _ c.requires.size at.0 so_far in
    (wanted c.args.table c.args.rows.now c.loop-i.i _ c.row_of-row.result.now c.index_mut-home.result.now next home (sym at.1)).parent

pub loop-i-preserved : goal.loop-i-preserved
loop-i-preserved c =
    let next : IsNext c.args.table c.args.rows.now c.loop-i.i c.row_of-row.result.now = record { clean = c.requires.clean; more = omega (arith, c.loop-i-test.true, c.count_of-i-end.ensures); is = c.row_of-row.ensures } in
    let so_far = c.loop-i.invariant ∙ ap (lists_in (read_until c.args.table c.args.rows.now c.loop-i.i) c.args.size) (sym c.len-count.ensures) in
    let all = ap (lists_in (read_until c.args.table c.args.rows.now (c.loop-i.i + 1)) c.args.size) c.len-count.ensures in
    elim c.match-place_of.branch [
      | in-Some w ↦ let at = w.in-Some.ensures.some in
          let home = w.index_mut-home.ensures.value ∙ home_in_lists _ c.loop-i.lists _ _ c.args.size c.len-count.result w.in-Some.place _ c.requires.size at.0 so_far in
          ap (map (λ list. list.items)) w.lists-is
          ∙ lists_held _ c.args.table c.args.rows.now c.loop-i.i c.args.size c.len-count.result w.in-Some.place c.row_of-row.result.now c.loop-i.lists w.index-lists-place.result _ w.index_mut-home.result.now w.hold.new.self c.requires.size at.0 next so_far (sym at.1) home w.hold.ensures refl
          ∙ all
      | in_default w ↦ ap (map (λ list. list.items)) w.lists-is ∙ lists_passed c.args.table c.args.rows.now c.loop-i.i c.args.size c.len-count.result c.row_of-row.result.now _ next so_far w.in_default.ensures.none ∙ all
    ]

pub returns : goal.returns
returns c =
    let all : c.loop-i.i ≡ length (rows_in c.args.table c.args.rows.now) = omega (arith, c.loop-i-test.false, c.loop-i.auto.i-end, c.count_of-i-end.ensures) in
    c.loop-i.invariant ∙ ap (λ u. lists_in u c.args.size (length c.args.rows.now.subscribers)) (ap (read_until c.args.table c.args.rows.now) all ∙ read_all c.args.table c.args.rows.now)
