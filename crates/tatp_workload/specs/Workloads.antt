-- All that is drawn for a run.
use Rattle.std.specs.Prelude.{◌≡◌}
use Rattle.tatp_tables.specs.Clean.{IsClean}
use Rattle.tatp_logs.specs.Lists.{lists_of}
use Rattle.tatp_tasks.specs.declared.plan.BenchPlan.{BenchPlan}
use Rattle.tatp_workload.specs.declared.workload.Workload.{Workload}
use Rattle.tatp_workload.specs.Drawn.{rows_drawn, calls_drawn, moves_drawn, stops_drawn}

-- what is drawn for a plan: its population twice, which is clean, and all that the threads do
pub record IsWorkload (plan : BenchPlan) (drawn : Workload) : Type 0 where
  pub population : drawn.population ≡ rows_drawn plan
  pub rows : drawn.rows ≡ rows_drawn plan
  pub clean : IsClean (rows_drawn plan)
  pub calls : lists_of drawn.lists.items ≡ calls_drawn plan
  pub moves : drawn.moves.items ≡ moves_drawn plan
  pub stops : drawn.stops.items ≡ stops_drawn plan
