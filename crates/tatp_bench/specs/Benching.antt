-- trusted: read it
-- What a run of the benchmark is of, and why it isn't settled.
use Rattle.std.specs.Prelude.{◌≡◌, ℕ, List, map, count_by, length}
use Rattle.std.specs.List.{range_with_len}
use Rattle.tatp_logs.specs.Receipts.{ReceiptsState, receipts_of}
use Rattle.tatp_settle.specs.declared.settled.Settled.{Settled}
use Rattle.tatp_settle.specs.Answering.{is_of_kind}
use Rattle.tatp_settle.specs.Runs.{Run, joined}
use Rattle.tatp_bench.specs.declared.fault.BenchFault.{BenchFault}
use Rattle.tatp_bench.specs.declared.fault.BenchFault.TheVariants.{ExtentMissing, Unsettled, NoMemory, NoThread}
use Rattle.tatp_tasks.specs.declared.plan.BenchPlan.{BenchPlan}
use Rattle.tatp_workload.specs.Drawn.{rows_drawn, calls_drawn}
use Rattle.tatp_bench.specs.SettledRuns.{SettlesRun, RefusesToSettleRun}

-- a run of the plan: its calls on its population, which left a site for each partition, and a list
-- of receipts for each client
pub record IsRunOf (plan : BenchPlan) (run : Run) : Type 0 where
  pub population : run.population ≡ rows_drawn plan
  pub calls : run.calls ≡ calls_drawn plan
  pub sites : length run.closed.sites ≡ plan.partitions
  pub clients : length run.receipts ≡ plan.clients

-- a run of the plan is settled. Which run it was isn't said: threads may meet in any order
pub record SettlesPlan (plan : BenchPlan) (settled : Settled) : Type 0 where
  pub run : Run
  pub of_plan : IsRunOf plan run
  pub settles : SettlesRun run settled

-- a run of the plan is settled, with these receipts of its clients
pub record ReceivesPlan (plan : BenchPlan) (receipts : List ReceiptsState) (settled : Settled)
    : Type 0 where
  pub run : Run
  pub of_plan : IsRunOf plan run
  pub settles : SettlesRun run settled
  pub received : run.receipts ≡ receipts_of receipts

-- how many calls there are of each kind, in the order of the mix
abbrev pub kinds_drawn : BenchPlan → List ℕ
kinds_drawn plan =
    map (λ kind. count_by (is_of_kind kind) (joined (calls_drawn plan))) (range_with_len 0 7)

-- a run of the plan isn't settled for this reason. Which run it was isn't said
pub record HasUnsettledRun (plan : BenchPlan) (fault : BenchFault) : Type 0 where
  pub run : Run
  pub of_plan : IsRunOf plan run
  pub refused : RefusesToSettleRun run fault

-- why a plan isn't settled; memory may run out and a thread may not start at any time
abbrev pub RefusesBench : BenchPlan → BenchFault → Type 0
RefusesBench plan (ExtentMissing e) = HasUnsettledRun plan (ExtentMissing e)
RefusesBench plan (Unsettled cause) = HasUnsettledRun plan (Unsettled cause)
RefusesBench plan NoMemory = Unit {0}
RefusesBench plan NoThread = Unit {0}
