-- What a settled run of a plan counts.
use Rattle.std.specs.Prelude.{◌≡◌, ℕ, ◌+◌, ◌*◌, not, Bool, true, false, cond, List, [], ◌∷◌, map, length, count_by, Result, Ok, Err, IfOk, Vec, vec_len}
use Rattle.std.specs.List.{range_with_len}
use Rattle.std.proofs.Common.{refl, sym, ◌∙◌, ap, arith}
use Rattle.std.specs.declared.alloc.Global.{Global}
use Rattle.std.proofs.lemmas.List.{length-map}
use Rattle.std.proofs.lemmas.List.Sums.{sum_by-cons}
use Rattle.tatp_tables.specs.declared.row.Rows.{Rows}
use Rattle.tatp_calls.specs.declared.ask.Ask.{Ask}
use Rattle.tatp_logs.specs.Receipts.{ReceiptsState, receipts_of}
use Rattle.tatp_settle.specs.declared.settled.Settled.{Settled}
use Rattle.tatp_settle.specs.Closings.{closed_site}
use Rattle.tatp_settle.specs.Receipts.{is_done}
use Rattle.tatp_settle.specs.Answering.{is_of_kind}
use Rattle.tatp_logs.specs.Lists.{lists_of}
use Rattle.tatp_settle.specs.Runs.{Run, joined}
use Rattle.tatp_settle.specs.Settlements.{IsSettled}
use Rattle.tatp_settle.proofs.JudgeLaws.{as_many_receipts}
use Rattle.tatp_tasks.specs.declared.plan.BenchPlan.{BenchPlan}
use Rattle.tatp_threads.specs.declared.outcome.RunOutcomeParts.{RunOutcomeParts}
use Rattle.tatp_bench.specs.declared.fault.BenchFault.{BenchFault}
use Rattle.tatp_bench.specs.declared.fault.BenchFault.TheVariants.{ExtentMissing, Unsettled, NoMemory, NoThread}
use Rattle.tatp_workload.specs.Drawn.{rows_drawn, calls_drawn}
use Rattle.tatp_bench.specs.SettledRuns.{run_left, SettlesRun, RefusesToSettleRun}
use Rattle.tatp_bench.specs.declared.closing.SettledRun.{SettledRun}
use Rattle.tatp_bench.specs.Benching.{IsRunOf, SettlesPlan, ReceivesPlan, RefusesBench, kinds_drawn}
use Rattle.tatp_bench.proofs.PlanLaws.{calls_counted}

one_or_other : (b : Bool) → cond {A = ℕ} b 1 0 + cond {A = ℕ} (not b) 1 0 ≡ 1
one_or_other true = refl
one_or_other false = refl

-- each passes, or it doesn't
counts_add : {A : Type 0} (p : A → Bool) (xs : List A) → count_by p xs + count_by (λ x. not (p x)) xs ≡ length xs
counts_add p [] = refl
counts_add p (x ∷ xs) =
    let passing : count_by p (x ∷ xs) ≡ cond (p x) 1 0 + count_by p xs = sum_by-cons (λ y. cond (p y) 1 0) x xs in
    let others : count_by (λ y. not (p y)) (x ∷ xs) ≡ cond (not (p x)) 1 0 + count_by (λ y. not (p y)) xs = sum_by-cons (λ y. cond (not (p y)) 1 0) x xs in
    omega (arith, passing, others, one_or_other (p x), counts_add p xs)

all_counted : (run : Run) (settled : Settled) → IsSettled run settled → settled.completed + settled.refused ≡ length (joined run.calls)
all_counted run settled is =
    (λ i. is.completed i + is.refused i)
    ∙ (counts_add is_done (joined run.receipts)
    ∙ as_many_receipts run.calls run.receipts (λ client number unmatched. unmatched (is.one_history.received.matched client number)))

pub plan_counted : (plan : BenchPlan) (settled : Settled) → SettlesPlan plan settled → settled.completed + settled.refused ≡ plan.clients * plan.calls
plan_counted plan settled is = all_counted is.run settled is.settles.settles ∙ (ap (λ (calls : List (List Ask)). length (joined calls)) is.of_plan.calls ∙ calls_counted plan)

abbrev kinds_of : List (List Ask) → List ℕ
kinds_of calls = map (λ kind. count_by (is_of_kind kind) (joined calls)) (range_with_len 0 7)

pub plan_kinds : (plan : BenchPlan) (settled : Settled) → SettlesPlan plan settled → settled.kinds ≡ kinds_drawn plan
plan_kinds plan settled is = is.settles.settles.kinds ∙ ap kinds_of is.of_plan.calls

-- ---- the run of a plan is forgotten
-- what threads left of the plan's calls on its population is a run of the plan
pub left_of_plan : (plan : BenchPlan) (population : Rows) (parts : RunOutcomeParts) (lists : List (Vec Ask Global))
    → population ≡ rows_drawn plan → lists_of lists ≡ calls_drawn plan → vec_len parts.sites ≡ plan.partitions → vec_len parts.receipts ≡ plan.clients
    → IsRunOf plan (run_left population parts lists)
left_of_plan plan population parts lists same asked sites clients = record {
  population = same;
  calls = asked;
  sites = length-map parts.sites.items closed_site ∙ (sym parts.sites.ok.0 ∙ sites);
  clients = length-map parts.receipts.items (λ (client : ReceiptsState). client.receipts) ∙ (sym parts.receipts.ok.0 ∙ clients);
}

pub plan_settled : (plan : BenchPlan) (run : Run) → IsRunOf plan run → (settled : Settled) → SettlesRun run settled → SettlesPlan plan settled
plan_settled plan run of_plan settled settles = record { run = run; of_plan = of_plan; settles = settles }

-- settled beside its receipts
pub received : (plan : BenchPlan) (run : Run) (receipts : List ReceiptsState) (ended : Result SettledRun BenchFault)
    → IsRunOf plan run → run.receipts ≡ receipts_of receipts
    → IfOk ended (λ (s : SettledRun). SettlesRun run s.settled) → IfOk ended (λ (s : SettledRun). s.receipts.items ≡ receipts)
    → IfOk ended (λ (s : SettledRun). ReceivesPlan plan s.receipts.items s.settled)
received plan run receipts (Ok s) of_plan same settles kept = record { run = run; of_plan = of_plan; settles = settles; received = same ∙ ap receipts_of (sym kept) }
received plan run receipts (Err fault) of_plan same settles kept = tt

pub plan_refused : (plan : BenchPlan) (run : Run) → IsRunOf plan run → (fault : BenchFault) → RefusesToSettleRun run fault → RefusesBench plan fault
plan_refused plan run of_plan (ExtentMissing e) refused = record { run = run; of_plan = of_plan; refused = refused }
plan_refused plan run of_plan (Unsettled cause) refused = record { run = run; of_plan = of_plan; refused = refused }
plan_refused plan run of_plan NoMemory refused = tt
plan_refused plan run of_plan NoThread refused = tt
