-- Histories that can be judged.
use Rattle.std.specs.Prelude.{◌≤◌}
use Rattle.tatp_tasks.specs.Populations.{IsPopulation}
use Rattle.tatp_tasks.specs.declared.judging.JudgePlan.{JudgePlan}
use Rattle.tatp_limits.specs.declared.limits.TheConstants.{MAX_CONFIGURATIONS}

-- the rows can be drawn, this many configurations can be asked to be kept, and there is the part
pub record IsJudgePlan (plan : JudgePlan) : Type 0 where
  pub population : IsPopulation plan.population
  pub some : 1 ≤ plan.most
  pub few : plan.most ≤ MAX_CONFIGURATIONS
  pub part_first : 1 ≤ plan.part
  pub part_last : plan.part ≤ plan.parts
