use Rattle.std.proofs.Common.{None, IfOk, sym, subst, arith, ◌∙◌}
use Rattle.std.proofs.lemmas.Result.{IfOk-at_ok}
use Rattle.tatp_tables.specs.Clean.{IsClean}
use Rattle.tatp_settle.specs.declared.cause.Unsettled.TheVariants.{Mixed}
use Rattle.tatp_settle.specs.Causes.{IsMixed}
use Rattle.tatp_settle.specs.Closings.{ClosedState}
use Rattle.tatp_settle.specs.Runs.{Run, rows_left, shown}
use Rattle.tatp_settle.specs.CauseOrder.{NoneOfFirst, IsFirstAfter, IsFirstInCalls}
use Rattle.tatp_settle.specs.Settlements.{AreCountsOf, IsOneHistory, IsAuditOf}
use Rattle.tatp_settle.proofs.CauseLaws.{first_audit}
use Rattle.tatp_settle.proofs.MovesLaws.{moves_by_number}
use Rattle.tatp_settle.proofs.JudgeLaws.{judged, no_cause, none_found, cause_found, none_in_calls, one_in_calls}
use Rattle.tatp_settle.proofs.judgement.judge.Goals as goal

pub judge_apart-in_chapters-requires-clause-unmixed : goal.judge_apart-in_chapters-requires-clause-unmixed
judge_apart-in_chapters-requires-clause-unmixed g c = λ _ _ e h. c.in_default.ensures (Mixed e) (omega arith) (subst (λ (closed : ClosedState). IsMixed closed e) c.in_ok-chapters.ensures.chapters h)

pub returns-in-Some-2-clause-refusal : goal.returns-in-Some-2-clause-refusal
returns-in-Some-2-clause-refusal g c =
    let run : Run = shown c.args.run.now in
    cause_found 6 run c.in_ok-cause.field-0 c.in-Some-2.cause c.in-Some-2.is (IfOk-at_ok (IsFirstAfter 3 6 run) c.in_ok-cause.was c.judge_apart-in_chapters.ensures.chapters c.in_default.ensures)

pub returns-in-Err-clause-refusal : goal.returns-in-Err-clause-refusal
returns-in-Err-clause-refusal g c =
    let run : Run = shown c.args.run.now in
    let none6 : NoneOfFirst 6 run = none_found 6 run c.in_ok-cause.field-0 c.in_default-2.is (IfOk-at_ok (IsFirstAfter 3 6 run) c.in_ok-cause.was c.judge_apart-in_chapters.ensures.chapters c.in_default.ensures) in
    (one_in_calls run c.in_ok-counts.was c.in-Err.is c.judge_apart-in_chapters.ensures.calls).first none6

pub returns-in-Some-3-clause-refusal : goal.returns-in-Some-3-clause-refusal
returns-in-Some-3-clause-refusal g c =
    let run : Run = shown c.args.run.now in
    let none6 : NoneOfFirst 6 run = none_found 6 run c.in_ok-cause.field-0 c.in_default-2.is (IfOk-at_ok (IsFirstAfter 3 6 run) c.in_ok-cause.was c.judge_apart-in_chapters.ensures.chapters c.in_default.ensures) in
    let calls : IsFirstInCalls run None = none_in_calls run c.in_ok-counts.was c.in-Ok.is c.judge_apart-in_chapters.ensures.calls in
    cause_found 11 run c.in_ok-cause-2.field-0 c.in-Some-3.cause c.in-Some-3.is (c.in_ok-cause-2.ensures (calls.first none6))

pub returns-then-not-is_clean-clause-refusal : goal.returns-then-not-is_clean-clause-refusal
returns-then-not-is_clean-clause-refusal g c =
    let run : Run = shown c.args.run.now in
    let none6 : NoneOfFirst 6 run = none_found 6 run c.in_ok-cause.field-0 c.in_default-2.is (IfOk-at_ok (IsFirstAfter 3 6 run) c.in_ok-cause.was c.judge_apart-in_chapters.ensures.chapters c.in_default.ensures) in
    let calls : IsFirstInCalls run None = none_in_calls run c.in_ok-counts.was c.in-Ok.is c.judge_apart-in_chapters.ensures.calls in
    let none11 : NoneOfFirst 11 run = none_found 11 run c.in_ok-cause-2.field-0 c.in_default-3.is (c.in_ok-cause-2.ensures (calls.first none6)) in
    first_audit run c.in_ok-verdict.verdict none11 ((IfOk-at_ok (IsAuditOf (rows_left run)) c.in_ok-verdict.was c.judge_apart-in_chapters.ensures.audit).told, sym c.is_clean.ensures ∙ c.if-not-is_clean.true)

pub returns-clause-settled : goal.returns-clause-settled
returns-clause-settled g c =
    let run : Run = shown c.args.run.now in
    let none6 : NoneOfFirst 6 run = none_found 6 run c.in_ok-cause.field-0 c.in_default-2.is (IfOk-at_ok (IsFirstAfter 3 6 run) c.in_ok-cause.was c.judge_apart-in_chapters.ensures.chapters c.in_default.ensures) in
    let calls : IsFirstInCalls run None = none_in_calls run c.in_ok-counts.was c.in-Ok.is c.judge_apart-in_chapters.ensures.calls in
    let none11 : NoneOfFirst 11 run = none_found 11 run c.in_ok-cause-2.field-0 c.in_default-3.is (c.in_ok-cause-2.ensures (calls.first none6)) in
    let audit : IsAuditOf (rows_left run) c.in_ok-verdict.verdict = IfOk-at_ok (IsAuditOf (rows_left run)) c.in_ok-verdict.was c.judge_apart-in_chapters.ensures.audit in
    let clean : IsClean (rows_left run) = audit.clean (sym c.is_clean.ensures ∙ c.if-not-is_clean.false) in
    let one : IsOneHistory run = judged run c.requires.clean c.what_holds.ensures none11 calls.placed clean in
    let counts : AreCountsOf run c.in-Ok.counts = IfOk-at_ok (AreCountsOf run) c.in-Ok.is (IfOk-at_ok (λ judged. IfOk judged (AreCountsOf run)) c.in_ok-counts.was c.judge_apart-in_chapters.ensures.counts) in
    record {
      one_history = one;
      completed = counts.completed;
      refused = counts.refused;
      kinds = counts.kinds;
      verdict = audit.counts clean;
      moves = c.count_moves.ensures ∙ moves_by_number run c.what_holds.ensures one.extents;
    }

pub returns-clause-no_cause : goal.returns-clause-no_cause
returns-clause-no_cause g c =
    let run : Run = shown c.args.run.now in
    let none6 : NoneOfFirst 6 run = none_found 6 run c.in_ok-cause.field-0 c.in_default-2.is (IfOk-at_ok (IsFirstAfter 3 6 run) c.in_ok-cause.was c.judge_apart-in_chapters.ensures.chapters c.in_default.ensures) in
    let calls : IsFirstInCalls run None = none_in_calls run c.in_ok-counts.was c.in-Ok.is c.judge_apart-in_chapters.ensures.calls in
    let none11 : NoneOfFirst 11 run = none_found 11 run c.in_ok-cause-2.field-0 c.in_default-3.is (c.in_ok-cause-2.ensures (calls.first none6)) in
    let audit : IsAuditOf (rows_left run) c.in_ok-verdict.verdict = IfOk-at_ok (IsAuditOf (rows_left run)) c.in_ok-verdict.was c.judge_apart-in_chapters.ensures.audit in
    no_cause run c.in_ok-verdict.verdict none11 audit.told (sym c.is_clean.ensures ∙ c.if-not-is_clean.false)
