use Rattle.std.proofs.Common.{◌≡◌, map, length}
use Rattle.tatp_homes.specs.Loading.{read_until, lists_in}
use Rattle.tatp_homes.proofs.home.loading.load.Given as goal

abbrev pub invariant-loop-i : goal.invariant-loop-i
invariant-loop-i l = map (λ list. list.items) l.lists ≡ lists_in (read_until l.table l.rows l.i) l.size (length l.rows.subscribers)
