use Rattle.std.proofs.Common.{◌≡◌, ◌+◌, ◌*◌, ap, ◌∙◌, arith, map}
use Rattle.std.specs.Int.{div_ceil}
use Rattle.std.specs.List.{range_with_len}
use Rattle.tatp_tables.specs.Database.{no_tables}
use Rattle.tatp_homes.specs.Loading.{homes_in, list_in}
use Rattle.tatp_homes.proofs.ListLaws.{one_list_more}
use Rattle.tatp_homes.proofs.home.loading.empty_lists.Goals as goal

pub loop-list-preserved : goal.loop-list-preserved
loop-list-preserved c = ap (map (λ list. list.items)) c.in_ok-push.ensures.items ∙ one_list_more _ c.loop-list.lists.items c.in_ok-empty_homes.field-0 c.args.size c.args.count c.loop-list.list c.loop-list.invariant (c.in_ok-empty_homes.ensures ∙ ap (homes_in no_tables (c.args.size * c.loop-list.list + 1)) c.min.ensures)

pub returns : goal.returns
returns c =
    let all : c.loop-list.list ≡ div_ceil c.args.count c.args.size = omega (arith, c.loop-list-test.false, c.loop-list.auto.list-end, c.div_ceil-list-end.ensures) in
    c.loop-list.invariant ∙ ap (λ k. map (list_in no_tables c.args.size c.args.count) (range_with_len 0 k)) all
