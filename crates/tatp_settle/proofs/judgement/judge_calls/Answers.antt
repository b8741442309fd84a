use Rattle.std.proofs.Common.{Option, IfNone, subst, arith}
use Rattle.tatp_settle.specs.declared.cause.Unsettled.{Unsettled}
use Rattle.tatp_settle.specs.Runs.{Run, shown}
use Rattle.tatp_settle.specs.CallPlaces.{HoldsNowhere}
use Rattle.tatp_settle.specs.Causes.{IsUnmatched}
use Rattle.tatp_settle.proofs.JudgeLaws.{as_many_receipts}
use Rattle.tatp_settle.proofs.judgement.judge_calls.Goals as goal

pub count_all-requires-clause-receipts : goal.count_all-requires-clause-receipts
count_all-requires-clause-receipts g c =
    let run : Run = shown c.args.run.now in
    let matched : HoldsNowhere (IsUnmatched run.calls run.receipts) = subst (λ (v : Option Unsettled). IfNone v (HoldsNowhere (IsUnmatched run.calls run.receipts))) c.in-None.is c.in_ok-cause.ensures.matched in
    let many = as_many_receipts run.calls run.receipts matched in
    let few = c.requires.few in
    omega (arith, many, few)
