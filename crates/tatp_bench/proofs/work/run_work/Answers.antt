use Rattle.std.proofs.Common.{◌≡◌, None, length, sym, ◌∙◌, subst, arith, inl, inr}
use Rattle.tatp_logs.specs.Lists.{lists_of}
use Rattle.tatp_threads.specs.Calls.{obstacle_among}
use Rattle.tatp_workload.specs.Drawn.{calls_drawn}
use Rattle.tatp_bench.proofs.PlanLaws.{calls_are_run, rows_are_opened, clients_listed}
use Rattle.tatp_bench.proofs.work.run_work.Given as given
use Rattle.tatp_bench.proofs.work.run_work.Goals as goal

pub run_clean_calls-requires-clause-plan : goal.run_clean_calls-requires-clause-plan
run_clean_calls-requires-clause-plan g c κs within =
    let same : lists_of c.args.work.run.lists.now ≡ calls_drawn c.args.plan.now = c.requires.work.calls in
    let listed = clients_listed c.args.plan.now c.args.work.run.lists.now same in
    record {
      partitions = (omega (arith, c.requires.work.partitions, c.requires.plan.partitions.0), omega (arith, c.requires.work.partitions, c.requires.plan.partitions.1));
      clients = (omega (arith, listed, c.requires.plan.clients.0), omega (arith, listed, c.requires.plan.clients.1));
    }

pub run_clean_calls-requires-clause-rows : goal.run_clean_calls-requires-clause-rows
run_clean_calls-requires-clause-rows g c κs within =
    rows_are_opened c.args.plan.now c.args.work.rows c.requires.plan c.requires.clean c.requires.work.rows

pub run_clean_calls-requires-clause-calls : goal.run_clean_calls-requires-clause-calls
run_clean_calls-requires-clause-calls g c κs within =
    let plan = c.args.plan.now in
    let lists = c.args.work.run.lists.now in
    let same : lists_of lists ≡ calls_drawn plan = c.requires.work.calls in
    subst (λ modul. obstacle_among modul lists ≡ None) (sym c.requires.work.standard) (calls_are_run plan lists c.requires.plan same)

pub returns-in-Ok-clause-sites : goal.returns-in-Ok-clause-sites
returns-in-Ok-clause-sites g c = c.in-Ok.ensures.sites ∙ c.requires.work.partitions

pub returns-in-Ok-clause-receipts : goal.returns-in-Ok-clause-receipts
returns-in-Ok-clause-receipts g c =
    let same : lists_of c.args.work.run.lists.now ≡ calls_drawn c.args.plan.now = c.requires.work.calls in
    c.in-Ok.ensures.receipts ∙ clients_listed c.args.plan.now c.args.work.run.lists.now same

pub returns-in-Err-clause-refusal : goal.returns-in-Err-clause-refusal
returns-in-Err-clause-refusal g c = elim c.fault_of.ensures [
  | inl is ↦ inl is.1
  | inr is ↦ inr is.1
]
