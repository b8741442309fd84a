-- What is left where the report of a settled run can't be written, and what its history tells.
use Rattle.std.specs.Prelude.{◌≡◌, ◌⊎◌, ℕ, ◌+◌, ◌*◌, List, Option, Vec}
use Rattle.std.proofs.Common.{sym, subst, refl, ap, ◌∙◌, inl, inr}
use Rattle.std.specs.declared.alloc.Global.{Global}
use Rattle.tatp_calls.specs.declared.ask.Ask.{Ask}
use Rattle.tatp_logs.specs.Receipts.{ReceiptsState}
use Rattle.tatp_run_history.specs.ClientLines.{all_lines}
use Rattle.tatp_run_history.specs.Telling.{TellsMerged, TellsClients}
use Rattle.tatp_settle.specs.declared.settled.Settled.{Settled}
use Rattle.tatp_logs.specs.Lists.{lists_of}
use Rattle.tatp_streams.specs.declared.fault.StreamFault.{StreamFault}
use Rattle.tatp_streams.specs.declared.fault.StreamFault.TheVariants.{NoMemory, WriteFault}
use Rattle.tatp_streams.specs.Writing.{AppendsFront, WritesText, WritesFrontOfText}
use Rattle.tatp_streams.proofs.WritingLaws.{cut}
use Rattle.tatp_tasks.specs.declared.plan.BenchPlan.{BenchPlan}
use Rattle.tatp_bench.specs.declared.report_fault.ReportFault.TheVariants.{Stream}
use Rattle.tatp_workload.specs.Drawn.{calls_drawn}
use Rattle.tatp_bench.specs.Benching.{SettlesPlan, ReceivesPlan, kinds_drawn}
use Rattle.tatp_bench.specs.Reports.{settled_text, TellsSettled, LeavesSettled}
use Rattle.tatp_bench.specs.RunHistories.{TellsHistory, LeavesHistory}

-- a front of the text was written
pub settled_cut : (plan : BenchPlan) (old new : Option (List ℕ)) (text : List ℕ) (fault : StreamFault)
    → TellsSettled plan text → fault ≡ WriteFault → AppendsFront text old new → LeavesSettled plan old new (Stream fault)
settled_cut plan old new text fault tells e front =
    subst (λ f. LeavesSettled plan old new (Stream f)) (sym e) (cut (TellsSettled plan) old new text WriteFault tells refl front)

-- the receipts are forgotten
pub plan_received : (plan : BenchPlan) (receipts : List ReceiptsState) (settled : Settled) → ReceivesPlan plan receipts settled → SettlesPlan plan settled
plan_received plan receipts settled is = record { run = is.run; of_plan = is.of_plan; settles = is.settles }

-- ---- the history
-- a settled run of the plan, with its counts, calls and receipts
pub record IsTold (plan : BenchPlan) (asked : List (Vec Ask Global)) (receipts : List ReceiptsState) (settled : Settled) : Type 0 where
  pub received : ReceivesPlan plan receipts settled
  pub drawn : lists_of asked ≡ calls_drawn plan
  pub calls : settled.completed + settled.refused ≡ plan.clients * plan.calls
  pub kinds : settled.kinds ≡ kinds_drawn plan

-- the lines of these clients are those of the run
pub history_told : (plan : BenchPlan) (asked : List (Vec Ask Global)) (receipts : List ReceiptsState) (settled : Settled) (head text : List ℕ)
    → IsTold plan asked receipts settled → head ≡ settled_text settled → TellsClients head asked receipts text → TellsHistory plan text
history_told plan asked receipts settled head text is first lines =
    let run = is.received.run in
    let same : lists_of asked ≡ run.calls = is.drawn ∙ sym is.received.of_plan.calls in
    record {
      settled = settled;
      run = run;
      of_plan = is.received.of_plan;
      settles = is.received.settles;
      calls = is.calls;
      mix = is.kinds;
      told = subst (λ (h : List ℕ). TellsMerged h (all_lines 0 run.calls run.receipts) text) first
          (subst (λ asks. TellsMerged head (all_lines 0 asks run.receipts) text) same
          (subst (λ got. TellsMerged head (all_lines 0 (lists_of asked) got) text) (sym is.received.received) lines));
    }

pub history_written : (plan : BenchPlan) (asked : List (Vec Ask Global)) (receipts : List ReceiptsState) (settled : Settled) (head : List ℕ) (old new : Option (List ℕ))
    → IsTold plan asked receipts settled → head ≡ settled_text settled → WritesText (TellsClients head asked receipts) old new → WritesText (TellsHistory plan) old new
history_written plan asked receipts settled head old new is first w = (w.0, history_told plan asked receipts settled head w.0 is first w.1, w.2)

pub history_left : (plan : BenchPlan) (asked : List (Vec Ask Global)) (receipts : List ReceiptsState) (settled : Settled) (head : List ℕ) (old new : Option (List ℕ)) (fault : StreamFault)
    → IsTold plan asked receipts settled → head ≡ settled_text settled → (fault ≡ NoMemory) ⊎ (fault ≡ WriteFault) → WritesFrontOfText (TellsClients head asked receipts) old new
    → LeavesHistory plan old new (Stream fault)
history_left plan asked receipts settled head old new fault is first why w =
    let front : WritesFrontOfText (TellsHistory plan) old new = (w.0, w.1, history_told plan asked receipts settled head _ is first w.2, w.3) in
    elim why as (λ _. LeavesHistory plan old new (Stream fault)) [
      | inl memory ↦ subst (λ f. LeavesHistory plan old new (Stream f)) (sym memory) (inr front)
      | inr write ↦ subst (λ f. LeavesHistory plan old new (Stream f)) (sym write) front
    ]
