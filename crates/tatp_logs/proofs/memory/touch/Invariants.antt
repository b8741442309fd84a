use Rattle.std.proofs.Common.{◌≡◌, ◌+◌, ◌++◌, List, length, vec_capacity}
use Rattle.tatp_logs.proofs.memory.touch.Given as goal

abbrev pub invariant-loop : goal.invariant-loop
invariant-loop g l =
    ((more : List g.row.T.Denot) × (l.list.items ≡ l.initial.list.items ++ more))
    × (length l.list.items ≡ length l.initial.list.items + l.counter)
    × (vec_capacity l.list ≡ vec_capacity l.initial.list)
