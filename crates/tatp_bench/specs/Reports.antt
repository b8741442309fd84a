-- What the command `bench` writes, and what each fault leaves: docs/FORMATS.md, "What a run reads
-- and writes".
use Rattle.std.specs.Prelude.{◌≡◌, ℕ, ◌+◌, ◌*◌, List, [], ◌++◌, Option, codes, decimal}
use Rattle.std.specs.List.{flat_map}
use Rattle.std.specs.Io.KnownBytes.{Appends}
use Rattle.tatp_audits.specs.Printing.{field, verdict_text}
use Rattle.tatp_settle.specs.declared.settled.Settled.{Settled}
use Rattle.tatp_streams.specs.declared.fault.StreamFault.TheVariants.{ReadFault}
use Rattle.tatp_streams.specs.Writing.{LeavesText}
use Rattle.tatp_tasks.specs.declared.plan.BenchPlan.{BenchPlan}
use Rattle.tatp_bench.specs.Benching.{SettlesPlan, kinds_drawn, RefusesBench}
use Rattle.tatp_bench.specs.declared.report_fault.ReportFault.{ReportFault}
use Rattle.tatp_bench.specs.declared.report_fault.ReportFault.TheVariants.{Bench, Stream}

-- three lines: how many calls were completed and how many refused; how many there were of each
-- kind, in the order of the mix; the verdict on the rows
abbrev pub settled_text : Settled → List ℕ
settled_text settled =
    codes "SETTLED " ++ (decimal settled.completed ++ (codes " " ++ (decimal settled.refused
    ++ (codes "\nMIX" ++ (flat_map field settled.kinds
    ++ (codes "\n" ++ (verdict_text settled.verdict ++ codes "\n")))))))

-- the text says what a settled run of the plan counts: all calls of its clients, and of each kind
-- as many as are drawn
pub record TellsSettled (plan : BenchPlan) (text : List ℕ) : Type 0 where
  pub settled : Settled
  pub settles : SettlesPlan plan settled
  pub calls : settled.completed + settled.refused ≡ plan.clients * plan.calls
  pub mix : settled.kinds ≡ kinds_drawn plan
  pub told : text ≡ settled_text settled

-- what each fault says of the plan, and leaves: nothing is read
abbrev pub LeavesSettled : BenchPlan → Option (List ℕ) → Option (List ℕ) → ReportFault → Type 0
LeavesSettled plan old new (Bench fault) = RefusesBench plan fault × Appends old new []
LeavesSettled plan old new (Stream ReadFault) = ⊥
LeavesSettled plan old new (Stream fault) = LeavesText (TellsSettled plan) old new fault
