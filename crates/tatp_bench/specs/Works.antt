-- What the threads of a run are handed.
use Rattle.std.specs.Prelude.{◌≡◌}
use Rattle.tatp_procs.specs.Standard.{standard_module}
use Rattle.tatp_logs.specs.Lists.{lists_of}
use Rattle.tatp_tasks.specs.declared.plan.BenchPlan.{BenchPlan}
use Rattle.tatp_workload.specs.Drawn.{rows_drawn, calls_drawn, moves_drawn, stops_drawn}
use Rattle.tatp_bench.specs.declared.work.Work.{Work}

-- all of it is the plan's: the standard module, its partitions and chapters, and all that is drawn
-- for it
pub record IsWorkOf (plan : BenchPlan) (work : Work) : Type 0 where
  pub standard : work.loaded.now ≡ standard_module
  pub rows : work.rows ≡ rows_drawn plan
  pub partitions : work.run.partitions ≡ plan.partitions
  pub calls : lists_of work.run.lists.now ≡ calls_drawn plan
  pub moves : work.run.moves.now ≡ moves_drawn plan
  pub stops : work.run.stops.now ≡ stops_drawn plan
  pub chapter : work.run.chapter ≡ plan.chapter
