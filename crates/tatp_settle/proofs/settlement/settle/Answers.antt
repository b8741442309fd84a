use Rattle.std.proofs.lemmas.Result.{IfOk-at_ok}
use Rattle.tatp_settle.specs.Runs.{Run, run_of}
use Rattle.tatp_settle.specs.Settlements.{IsSettled}
use Rattle.tatp_settle.proofs.JudgeLaws.{one_history_in_any_order}
use Rattle.tatp_settle.proofs.settlement.settle.Goals as goal

pub returns-in-Ok-clause-any_order : goal.returns-in-Ok-clause-any_order
returns-in-Ok-clause-any_order g c =
    let run : Run = run_of c.args.population.now c.args.closed c.args.receipts.now c.args.calls.now in
    let settled : IsSettled run c.in-Ok.settled = IfOk-at_ok (IsSettled run) c.in-Ok.is c.judge.ensures.settled in
    one_history_in_any_order run c.requires.clean c.what_holds.ensures settled.one_history
