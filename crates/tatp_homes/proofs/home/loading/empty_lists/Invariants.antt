use Rattle.std.proofs.Common.{◌≡◌, map}
use Rattle.std.specs.List.{range_with_len}
use Rattle.tatp_tables.specs.Database.{no_tables}
use Rattle.tatp_homes.specs.Loading.{list_in}
use Rattle.tatp_homes.proofs.home.loading.empty_lists.Given as goal

abbrev pub invariant-loop-list : goal.invariant-loop-list
invariant-loop-list l = map (λ list. list.items) l.lists.items ≡ map (list_in no_tables l.size l.count) (range_with_len 0 l.list)
