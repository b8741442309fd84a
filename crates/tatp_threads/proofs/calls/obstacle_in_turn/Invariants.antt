use Rattle.std.proofs.Common.{◌≡◌, drop, map}
use Rattle.std.proofs.Common.{Vec}
use Rattle.std.specs.declared.alloc.Global.{Global}
use Rattle.tatp_calls.specs.declared.ask.Ask.{Ask}
use Rattle.tatp_threads.specs.Calls.{first_of, obstacle_in}
use Rattle.tatp_threads.proofs.calls.obstacle_in_turn.Given as goal

abbrev pub invariant-loop-list : goal.invariant-loop-list
invariant-loop-list l = first_of (map (λ (list : Vec Ask Global). obstacle_in l.loaded list.items) (drop l.list-index l.lists)) ≡ first_of (map (λ (list : Vec Ask Global). obstacle_in l.loaded list.items) l.lists)
