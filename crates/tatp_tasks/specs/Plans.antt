-- Runs that can be asked for.
use Rattle.std.specs.Prelude.{ℕ, ◌≤◌}
use Rattle.tatp_limits.specs.declared.limits.TheConstants.{MAX_BENCH_CALLS, MAX_BENCH_CHAPTER, MAX_BENCH_MOVES, MAX_BENCH_STOPS, MAX_CLIENTS, MAX_PARTITIONS, MAX_SUBSCRIBERS}
use Rattle.tatp_tasks.specs.declared.plan.BenchPlan.{BenchPlan}

abbrev IsWithin : ℕ → ℕ → ℕ → Type 0
IsWithin low high n = (low ≤ n) × (n ≤ high)

-- each number of the plan is in its range
pub record IsPlan (plan : BenchPlan) : Type 0 where
  pub subscribers : IsWithin 1 MAX_SUBSCRIBERS plan.subscribers
  pub partitions : IsWithin 1 MAX_PARTITIONS plan.partitions
  pub clients : IsWithin 1 MAX_CLIENTS plan.clients
  pub calls : IsWithin 1 MAX_BENCH_CALLS plan.calls
  pub moves : plan.moves ≤ MAX_BENCH_MOVES
  pub stops : plan.stops ≤ MAX_BENCH_STOPS
  pub chapter : IsWithin 1 MAX_BENCH_CHAPTER plan.chapter
