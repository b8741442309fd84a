use Rattle.std.proofs.Common.{◌≡◌, None, sym, ◌∙◌, subst, rules}
use Rattle.std.proofs.lemmas.Result.{IfErr-weaker}
use Rattle.tatp_threads.specs.Calls.{AreOpened, RefusesRun, obstacle_among}
use Rattle.tatp_threads.proofs.RefusalLaws.{opening_refused, call_refused, end_refused}
use Rattle.tatp_threads.proofs.run.run_calls.Goals as goal

pub returns-in-Err-clause-refusal : goal.returns-in-Err-clause-refusal
returns-in-Err-clause-refusal g c =
    subst (RefusesRun c.args.loaded.now c.args.rows c.args.plan.lists.now) (sym c.refusal_of.ensures)
    (opening_refused c.args.loaded.now c.args.rows c.args.plan.lists.now c.in-Err.error (search rules))

pub returns-in-Some-clause-refusal : goal.returns-in-Some-clause-refusal
returns-in-Some-clause-refusal g c =
    let opened : AreOpened c.args.rows = search rules in
    call_refused c.args.loaded.now c.args.rows c.args.plan.lists.now c.in-Some.refusal opened (sym c.obstacle_among.ensures ∙ c.in-Some.is)

pub returns-clause-refusal : goal.returns-clause-refusal
returns-clause-refusal g c =
    let opened : AreOpened c.args.rows = search rules in
    let none : obstacle_among c.args.loaded.now c.args.plan.lists.now ≡ None = search rules in
    IfErr-weaker c.run_clean_calls.result _ (RefusesRun c.args.loaded.now c.args.rows c.args.plan.lists.now) (end_refused c.args.loaded.now c.args.rows c.args.plan.lists.now opened none) c.run_clean_calls.ensures.refusal
