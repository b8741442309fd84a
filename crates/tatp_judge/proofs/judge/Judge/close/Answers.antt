use Rattle.std.specs.Prelude.{IfSome}
use Rattle.std.proofs.Common.{◌≡◌, ◌≤◌, length, ◌∙◌, sym, subst, true, None}
use Rattle.std.proofs.lemmas.Bool.{false≢true}
use Rattle.tatp_history.specs.HistoryLines.{end_at}
use Rattle.tatp_judge.specs.declared.judge.Verdict.TheVariants.{Legal}
use Rattle.tatp_judge.specs.Followed.{Forgets}
use Rattle.tatp_judge.specs.Verdicts.{IsVerdictOn}
use Rattle.tatp_judge.proofs.FollowedLaws.{ends_on, never_legal, unfailed}
use Rattle.tatp_judge.proofs.JudgeLaws.{said_stays}
use Rattle.tatp_judge.proofs.StepLaws.{if_ok_weaker, if_some_weaker}
use Rattle.tatp_judge.proofs.judge.Judge.close.Goals as goal

pub close_on-requires-clause-noted : goal.close_on-requires-clause-noted
close_on-requires-clause-noted c = let q = c.requires.noted in (q.0, q.1, q.2, q.3, ends_on q.0 q.2 c.args.asked.now c.in-Some.s_id (end_at c.args.self.now.number c.args.line.now) c.in-Some.is q.4)

pub close_on-requires-clause-within : goal.close_on-requires-clause-within
close_on-requires-clause-within c = subst (λ o. IfSome o (λ s. (1 ≤ s) × (s ≤ length c.args.self.now.windows.items))) c.in-Some.is c.requires.within

pub close_on-requires-clause-forgets : goal.close_on-requires-clause-forgets
close_on-requires-clause-forgets c = subst (Forgets c.args.self.now) c.in-Some.is c.requires.forgets

pub returns-in-Some-clause-followed : goal.returns-in-Some-clause-followed
returns-in-Some-clause-followed c = λ none u most lines noted ends. c.close_on.ensures.followed none u most lines noted (ends_on u lines c.args.asked.now c.in-Some.s_id (end_at c.args.self.now.number c.args.line.now) c.in-Some.is ends)

pub returns-in-Some-clause-decided : goal.returns-in-Some-clause-decided
returns-in-Some-clause-decided c = if_ok_weaker c.close_on.result (λ found h. if_some_weaker found (λ verdict k. λ u most lines more noted ends.
    k u most lines more noted (ends_on u lines c.args.asked.now c.in-Some.s_id (end_at c.args.self.now.number c.args.line.now) c.in-Some.is ends)) h) c.close_on.ensures.decided

pub returns-in-Some-clause-kept : goal.returns-in-Some-clause-kept
returns-in-Some-clause-kept c = λ first named e u most lines noted ends. c.close_on.ensures.kept first named e u most lines noted (ends_on u lines c.args.asked.now c.in-Some.s_id (end_at c.args.self.now.number c.args.line.now) c.in-Some.is ends)

pub search-requires : goal.search-requires
search-requires c =
    let q = c.requires.noted in
    let self = c.args.self.now in
    (q.0, q.1, q.2, unfailed q.0 q.1 q.2 self c.args.asked.now (end_at self.number c.args.line.now) q.3 q.4 c.in-None.is (λ may. false≢true (sym c.if-may_fail.false ∙ c.may_fail.ensures.1 may)))

pub returns-in_ok-search-in-None-clause-never : goal.returns-in_ok-search-in-None-clause-never
returns-in_ok-search-in-None-clause-never c = λ e.
    let q = c.requires.noted in
    let self = c.args.self.now in
    let before = unfailed q.0 q.1 q.2 self c.args.asked.now (end_at self.number c.args.line.now) q.3 q.4 c.in-None.is (λ may. false≢true (sym c.if-may_fail.false ∙ c.may_fail.ensures.1 may)) in
    let then = c.in_ok-search-in-None.ensures in
    let legal : c.in_ok-search-in-None.field-0 ≡ Legal = cc in
    never_legal q.0 q.1 q.2 c.search.new.self (then.searchable q.0 q.1 q.2 before) (subst (IsVerdictOn q.0 c.search.new.self.undecided.items q.2) legal (then.said q.0 q.1 q.2 before).verdict_is)

pub returns-in_ok-search-in-None-clause-decided : goal.returns-in_ok-search-in-None-clause-decided
returns-in_ok-search-in-None-clause-decided c = λ u most lines more noted ends.
    let self = c.args.self.now in
    let before = unfailed u most lines self c.args.asked.now (end_at self.number c.args.line.now) noted ends c.in-None.is (λ may. false≢true (sym c.if-may_fail.false ∙ c.may_fail.ensures.1 may)) in
    let then = c.in_ok-search-in-None.ensures in
    let said = then.said u most lines before in
    said_stays u most lines more c.search.new.self.undecided.items c.in_ok-search-in-None.field-0
    (λ legal. never_legal u most lines c.search.new.self (then.searchable u most lines before) (subst (IsVerdictOn u c.search.new.self.undecided.items lines) legal said.verdict_is)) said

pub returns-in_ok-search-in-None-clause-kept : goal.returns-in_ok-search-in-None-clause-kept
returns-in_ok-search-in-None-clause-kept c = λ first named e u most lines noted ends.
    let self = c.args.self.now in
    let before = unfailed u most lines self c.args.asked.now (end_at self.number c.args.line.now) noted ends c.in-None.is (λ may. false≢true (sym c.if-may_fail.false ∙ c.may_fail.ensures.1 may)) in
    record { most = most; illegal = true; s_id = None; searchable = c.in_ok-search-in-None.ensures.searchable u most lines before }
