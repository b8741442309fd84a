-- trusted: read it
-- What `bench --history` writes, and what each fault leaves: docs/FORMATS.md, "Lines of a history".
use Rattle.std.specs.Prelude.{◌≡◌, ℕ, ◌+◌, ◌*◌, ◌⊎◌, List, [], Option}
use Rattle.std.specs.Io.KnownBytes.{Appends}
use Rattle.tatp_run_history.specs.ClientLines.{all_lines}
use Rattle.tatp_run_history.specs.Telling.{TellsMerged}
use Rattle.tatp_settle.specs.declared.settled.Settled.{Settled}
use Rattle.tatp_settle.specs.Runs.{Run}
use Rattle.tatp_streams.specs.declared.fault.StreamFault.TheVariants.{NoMemory, ReadFault, WriteFault}
use Rattle.tatp_streams.specs.Writing.{WritesFrontOfText}
use Rattle.tatp_tasks.specs.declared.plan.BenchPlan.{BenchPlan}
use Rattle.tatp_bench.specs.Benching.{IsRunOf, RefusesBench, kinds_drawn}
use Rattle.tatp_bench.specs.declared.report_fault.ReportFault.{ReportFault}
use Rattle.tatp_bench.specs.declared.report_fault.ReportFault.TheVariants.{Bench, Stream}
use Rattle.tatp_bench.specs.Reports.{settled_text}
use Rattle.tatp_bench.specs.SettledRuns.{SettlesRun}

-- the text says what a settled run of the plan counts, and then what its clients asked and
-- received: the lines of all clients, merged so that each client's keep their order
pub record TellsHistory (plan : BenchPlan) (text : List ℕ) : Type 0 where
  pub settled : Settled
  pub run : Run
  pub of_plan : IsRunOf plan run
  pub settles : SettlesRun run settled
  pub calls : settled.completed + settled.refused ≡ plan.clients * plan.calls
  pub mix : settled.kinds ≡ kinds_drawn plan
  pub told : TellsMerged (settled_text settled) (all_lines 0 run.calls run.receipts) text

-- what each fault says of the plan, and leaves: nothing is read; where memory is refused before
-- the first line is made, nothing is written
abbrev pub LeavesHistory : BenchPlan → Option (List ℕ) → Option (List ℕ) → ReportFault → Type 0
LeavesHistory plan old new (Bench fault) = RefusesBench plan fault × Appends old new []
LeavesHistory plan old new (Stream NoMemory) =
    Appends old new [] ⊎ WritesFrontOfText (TellsHistory plan) old new
LeavesHistory plan old new (Stream ReadFault) = ⊥
LeavesHistory plan old new (Stream WriteFault) = WritesFrontOfText (TellsHistory plan) old new
