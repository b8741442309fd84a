use Rattle.std.proofs.Common.{◌≡◌, drop, map}
use Rattle.tatp_threads.specs.Calls.{first_of, obstacle_to}
use Rattle.tatp_threads.proofs.calls.obstacle_in.Given as goal

abbrev pub invariant-loop-ask : goal.invariant-loop-ask
invariant-loop-ask l = first_of (map (obstacle_to l.loaded) (drop l.ask-index l.asks)) ≡ first_of (map (obstacle_to l.loaded) l.asks)
