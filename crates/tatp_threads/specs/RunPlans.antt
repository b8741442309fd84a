-- What the threads of a run are to do.
use Rattle.std.specs.Prelude.{◌≤◌, length}
use Rattle.tatp_limits.specs.declared.limits.TheConstants.{MAX_CLIENTS, MAX_PARTITIONS}
use Rattle.tatp_threads.specs.declared.run_plan.RunPlan.{RunPlan}

-- there are partitions and clients, and not too many of either
pub record IsRunPlan (plan : RunPlan) : Type 0 where
  pub partitions : (1 ≤ plan.partitions) × (plan.partitions ≤ MAX_PARTITIONS)
  pub clients : (1 ≤ length plan.lists.now) × (length plan.lists.now ≤ MAX_CLIENTS)
