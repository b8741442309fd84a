-- What is drawn for a plan can be run.
use Rattle.std.specs.Prelude.{◌≡◌, ℕ, ◌*◌, ◌≤◌, ◌<◌, ◌^◌, List, length, None, Vec}
use Rattle.std.proofs.Common.{sym, ap, ◌∙◌, subst, arith, mul-le-mul}
use Rattle.std.specs.declared.alloc.Global.{Global}
use Rattle.std.proofs.lemmas.List.{length-map}
use Rattle.std.proofs.lemmas.List.FromFn.{length-map-range_with_len}
use Rattle.tatp_limits.specs.declared.limits.TheConstants.{MAX_BENCH_CALLS, MAX_CLIENTS}
use Rattle.rand_core.specs.Stream.{next_u64}
use Rattle.tatp_tables.specs.Clean.{IsClean}
use Rattle.tatp_tables.specs.declared.row.Rows.{Rows}
use Rattle.tatp_calls.specs.declared.ask.Ask.{Ask}
use Rattle.tatp_calls.specs.declared.ask.Ask.TheVariants.{Txn}
use Rattle.tatp_procs.specs.Standard.{standard_module}
use Rattle.tatp_population.proofs.PopulatedLaws.{populated}
use Rattle.tatp_driver.specs.DrawnCalls.{next_calls}
use Rattle.tatp_driver.specs.DrawnWords.{words_of, client_generator}
use Rattle.tatp_logs.specs.Lists.{lists_of}
use Rattle.tatp_settle.specs.Runs.{joined}
use Rattle.tatp_threads.specs.Calls.{obstacle_among, AreOpened}
use Rattle.tatp_tasks.specs.declared.plan.BenchPlan.{BenchPlan}
use Rattle.tatp_tasks.specs.Plans.{IsPlan}
use Rattle.tatp_workload.specs.Drawn.{stream_numbered, rows_drawn, client_calls, calls_drawn}
use Rattle.tatp_bench.proofs.CallLaws.{count_of_calls, count_joined, has_standard, calls_run, lists_run}

-- ---- the calls
client_count : (plan : BenchPlan) (client : ℕ) → length (client_calls plan client) ≡ plan.calls
client_count plan client =
    let stream = words_of (client_generator plan.seed client) in
    length-map (next_calls plan.distribution plan.subscribers plan.calls stream).0 Txn ∙ count_of_calls plan.distribution plan.subscribers plan.calls stream

pub calls_counted : (plan : BenchPlan) → length (joined (calls_drawn plan)) ≡ plan.clients * plan.calls
calls_counted plan = count_joined (client_calls plan) plan.calls 0 plan.clients (client_count plan)

pub few_calls : (plan : BenchPlan) → IsPlan plan → length (joined (calls_drawn plan)) < 2 ^ 64
few_calls plan is =
    let most : plan.clients * plan.calls ≤ MAX_CLIENTS * MAX_BENCH_CALLS = mul-le-mul is.clients.1 is.calls.1 in
    omega (arith, calls_counted plan, most)

pub clients_listed : (plan : BenchPlan) (lists : List (Vec Ask Global)) → lists_of lists ≡ calls_drawn plan → length lists ≡ plan.clients
clients_listed plan lists same = sym (length-map lists (λ (list : Vec Ask Global). list.items)) ∙ (ap length same ∙ length-map-range_with_len (client_calls plan) 0 plan.clients)

pub calls_are_run : (plan : BenchPlan) (lists : List (Vec Ask Global)) → IsPlan plan → lists_of lists ≡ calls_drawn plan → obstacle_among standard_module lists ≡ None
calls_are_run plan lists is same =
    lists_run standard_module has_standard (client_calls plan) plan.clients lists
    (λ client. calls_run standard_module has_standard plan.distribution plan.subscribers is.subscribers.0 is.subscribers.1 plan.calls (words_of (client_generator plan.seed client))) same

-- ---- the rows
pub rows_are_opened : (plan : BenchPlan) (rows : Rows) → IsPlan plan → IsClean (rows_drawn plan) → rows ≡ rows_drawn plan → AreOpened rows
rows_are_opened plan rows is clean same =
    let size = (populated next_u64 plan.subscribers (stream_numbered plan.seed 0) (omega (arith, is.subscribers.1))).size in
    subst AreOpened (sym same) (omega (arith, size, is.subscribers.1), clean)
