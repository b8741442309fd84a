use Rattle.std.proofs.Common.{◌≡◌, ◌+◌, ◌*◌, ◌<◌, ◌^◌, None, length, vec_len, refl, sym, ap, ◌∙◌, subst, arith, inl, inr}
use Rattle.std.proofs.lemmas.Result.{IfOk-weaker, IfErr-weaker}
use Rattle.tatp_logs.specs.Lists.{lists_of}
use Rattle.tatp_settle.specs.Runs.{Run, joined}
use Rattle.tatp_threads.specs.declared.outcome.RunOutcomeParts.{RunOutcomeParts}
use Rattle.tatp_bench.specs.declared.closing.SettledRun.{SettledRun}
use Rattle.tatp_bench.specs.Benching.{IsRunOf, RefusesBench, kinds_drawn}
use Rattle.tatp_bench.specs.SettledRuns.{run_left, SettlesRun, RefusesToSettleRun}
use Rattle.tatp_workload.specs.Drawn.{rows_drawn, calls_drawn}
use Rattle.tatp_bench.proofs.PlanLaws.{few_calls}
use Rattle.tatp_bench.proofs.SettlingLaws.{left_of_plan, plan_settled, plan_refused, plan_counted, plan_kinds, received}
use Rattle.tatp_bench.proofs.bench.run_and_settle.Given as given
use Rattle.tatp_bench.proofs.bench.run_and_settle.Goals as goal
use Rattle.tatp_bench.proofs.bench.run_and_settle.Goals.{After-settle_run}

pub returns-in-Err-clause-refusal : goal.returns-in-Err-clause-refusal
returns-in-Err-clause-refusal g c = elim c.in-Err.ensures.refusal as (λ _. RefusesBench c.args.plan.now c.in-Err.fault) [
  | inl is ↦ subst (RefusesBench c.args.plan.now) (sym is) tt
  | inr is ↦ subst (RefusesBench c.args.plan.now) (sym is) tt
]

pub settle_run-requires-clause-few : goal.settle_run-requires-clause-few
settle_run-requires-clause-few g c κs within =
    let same : lists_of c.args.work.run.lists.now ≡ calls_drawn c.args.plan.now = c.requires.work.calls in
    subst (λ lists. length (joined lists) < 2 ^ 64) (sym same) (few_calls c.args.plan.now c.requires.plan)

-- what the threads left
abbrev left : (g : given.Over) (c : After-settle_run g) → Run
left g c = run_left c.args.population.now c.parts-parts.result c.args.work.run.lists.now

-- it is a run of the plan
of_plan : (g : given.Over) (c : After-settle_run g) → IsRunOf c.args.plan.now (left g c)
of_plan g c =
    let plan = c.args.plan.now in
    let lists = c.args.work.run.lists.now in
    let parts = c.parts-parts.result in
    let same : lists_of lists ≡ calls_drawn plan = c.requires.work.calls in
    let population : c.args.population.now ≡ rows_drawn plan = c.requires.population in
    let sites : vec_len parts.sites ≡ plan.partitions = ap (λ (p : RunOutcomeParts). vec_len p.sites) c.parts-parts.ensures ∙ c.in-Ok.ensures.sites in
    let receipts : vec_len parts.receipts ≡ plan.clients = ap (λ (p : RunOutcomeParts). vec_len p.receipts) c.parts-parts.ensures ∙ c.in-Ok.ensures.receipts in
    left_of_plan plan c.args.population.now parts lists population same sites receipts

pub returns-in-Ok-clause-settled : goal.returns-in-Ok-clause-settled
returns-in-Ok-clause-settled g c =
    received c.args.plan.now (left g c) c.parts-parts.result.receipts.items c.settle_run.result (of_plan g c) refl c.settle_run.ensures.settled c.settle_run.ensures.receipts

pub returns-in-Ok-clause-kinds : goal.returns-in-Ok-clause-kinds
returns-in-Ok-clause-kinds g c =
    let plan = c.args.plan.now in
    IfOk-weaker c.settle_run.result (λ (run : SettledRun). SettlesRun (left g c) run.settled) (λ (run : SettledRun). run.settled.kinds ≡ kinds_drawn plan)
    (λ run settles. plan_kinds plan run.settled (plan_settled plan (left g c) (of_plan g c) run.settled settles)) c.settle_run.ensures.settled

pub returns-in-Ok-clause-calls : goal.returns-in-Ok-clause-calls
returns-in-Ok-clause-calls g c =
    let plan = c.args.plan.now in
    IfOk-weaker c.settle_run.result (λ (run : SettledRun). SettlesRun (left g c) run.settled) (λ (run : SettledRun). run.settled.completed + run.settled.refused ≡ plan.clients * plan.calls)
    (λ run settles. plan_counted plan run.settled (plan_settled plan (left g c) (of_plan g c) run.settled settles)) c.settle_run.ensures.settled

pub returns-in-Ok-clause-refusal : goal.returns-in-Ok-clause-refusal
returns-in-Ok-clause-refusal g c =
    let plan = c.args.plan.now in
    IfErr-weaker c.settle_run.result (RefusesToSettleRun (left g c)) (RefusesBench plan) (plan_refused plan (left g c) (of_plan g c)) c.settle_run.ensures.refusal
