-- Tasks that can be done.
use Rattle.std.specs.Prelude.{ℕ, ◌≤◌, List, codes}
use Rattle.tatp_limits.specs.declared.limits.TheConstants.{MAX_PARTITIONS}
use Rattle.tatp_tasks.specs.declared.task.Task.{Task}
use Rattle.tatp_tasks.specs.declared.task.Task.TheVariants.{Call, Trace, Asm, Dis, Check, Audit, Judge, Bench, Rows, Calls, Explain}
use Rattle.tatp_tasks.specs.Judging.{IsJudgePlan}
use Rattle.tatp_tasks.specs.Loads.{IsRowsPlan, IsCallsPlan}
use Rattle.tatp_tasks.specs.Plans.{IsPlan}
use Rattle.tatp_tasks.specs.Populations.{IsPopulation, IsSetup, IsInputLimit}

-- each number of the task is in its range: of drawn rows and calls, of partitions and clients, of
-- configurations, and of bytes of the input; and the run of the benchmark can be asked for
abbrev pub IsTask : Task → Type 0
IsTask (Call population partitions rows input_limit) =
    IsPopulation population × (1 ≤ partitions) × (partitions ≤ MAX_PARTITIONS)
    × IsInputLimit input_limit
IsTask (Trace setup echo) = IsSetup setup
IsTask (Audit input_limit) = IsInputLimit input_limit
IsTask (Judge plan progress) = IsJudgePlan plan
IsTask (Bench plan progress history) = IsPlan plan
IsTask (Rows plan) = IsRowsPlan plan
IsTask (Calls plan) = IsCallsPlan plan
IsTask task = Unit {0}

-- the command's name
abbrev pub name_of : Task → List ℕ
name_of (Call population partitions rows input_limit) = codes "call"
name_of (Trace setup echo) = codes "trace"
name_of Asm = codes "asm"
name_of Dis = codes "dis"
name_of Check = codes "check"
name_of (Audit input_limit) = codes "audit"
name_of (Judge plan progress) = codes "judge"
name_of (Bench plan progress history) = codes "bench"
name_of (Rows plan) = codes "rows"
name_of (Calls plan) = codes "calls"
name_of (Explain word) = codes "explain"
