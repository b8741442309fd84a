use Rattle.std.specs.Prelude.{ℕ}
use Rattle.std.proofs.Common.{◌≡◌, ◌-◌, ◌++◌, length, ap, sym, subst, ◌∙◌}
use Rattle.std.proofs.lemmas.Option.{IfSome_then}
use Rattle.std.proofs.lemmas.Result.{err_from_is_err_and}
use Rattle.tatp_streams.specs.LineReading.{lines_left}
use Rattle.tatp_inputs.specs.Parts.{before_dot}
use Rattle.tatp_tables.specs.Database.{database_of}
use Rattle.tatp_judge.specs.Aside.{undecided_in}
use Rattle.tatp_judge.specs.Verdicts.{AreUndecided as AreUndecidedOfAll, IsLegalBut as AreLegalBut}
use Rattle.tatp_judge.specs.Finishing.{IsFinalVerdictOn as IsFinalVerdictOnAll}
use Rattle.tatp_judged_inputs.specs.Views.{IsBegun, View, seen}
use Rattle.tatp_judged_inputs.specs.Judged.{IsJudgement}
use Rattle.tatp_judged_inputs.specs.RowsAtEnd.{IsJudgementTo, told_at, told_by_rows}
use Rattle.tatp_judged_inputs.proofs.AsideLaws.{told_more}
use Rattle.tatp_judged_inputs.proofs.HistoryLaws.{at_all, by_all}
use Rattle.tatp_judged_inputs.proofs.RowsAtEndLaws.{judged_by_rows, judgement_before, rows_not_admitted, rows_not_read}
use Rattle.tatp_judged_inputs.proofs.to_rows.judge_to_rows.Goals as goal

pub returns-in_err-rows-in-Legal-clause-faults : goal.returns-in_err-rows-in-Legal-clause-faults
returns-in_err-rows-in-Legal-clause-faults g c =
    let p = err_from_is_err_and c.from_residual-in_err-rows-in-Legal.result c.from_residual-in_err-rows-in-Legal.ensures.1 in
    let q = c.requires.begun in
    let to = c.in_ok-judgement.ensures.followed c.in-Legal.stakes c.in-Legal.is q.0 q.1 q.2 in
    rw (p.1, p.2) (rows_not_read c.args.lines.now.number c.judge_to_dot.new.lines.number to.0 (lines_left c.args.lines.now (g.R.Read.remaining c.args.reader.now)) (lines_left c.judge_to_dot.new.lines (g.R.Read.remaining c.judge_to_dot.new.reader))
    c.in_err-rows-in-Legal.field-0.0 to.2 c.in_err-rows-in-Legal.ensures.faults)

pub returns-in_err-admit-in-Legal-clause-faults : goal.returns-in_err-admit-in-Legal-clause-faults
returns-in_err-admit-in-Legal-clause-faults g c =
    let p = err_from_is_err_and c.from_residual-in_err-admit-in-Legal.result c.from_residual-in_err-admit-in-Legal.ensures.1 in
    let q = c.requires.begun in
    let to = c.in_ok-judgement.ensures.followed c.in-Legal.stakes c.in-Legal.is q.0 q.1 q.2 in
    rw (p.1, p.2) (rows_not_admitted c.args.lines.now.number c.judge_to_dot.new.lines.number to.0 (lines_left c.args.lines.now (g.R.Read.remaining c.args.reader.now)) (lines_left c.judge_to_dot.new.lines (g.R.Read.remaining c.judge_to_dot.new.reader))
    c.in_ok-rows-in-Legal.rows c.in_err-admit-in-Legal.field-0.0 to.2 c.in_ok-rows-in-Legal.ensures.rows c.in_err-admit-in-Legal.ensures.refusal)

pub finish_to-requires-clause-part : goal.finish_to-requires-clause-part
finish_to-requires-clause-part g c = let q = c.requires.begun in q.2.possible

pub finish_to-requires-clause-exact : goal.finish_to-requires-clause-exact
finish_to-requires-clause-exact g c = c.in_ok-judgement.ensures.exact ∙ c.requires.exact

pub finish_to-requires-clause-followed : goal.finish_to-requires-clause-followed
finish_to-requires-clause-followed g c =
    let q = c.requires.begun in
    let to = c.in_ok-judgement.ensures.followed c.in-Legal.stakes c.in-Legal.is q.0 q.1 q.2 in
    (q.0.rows, q.1, seen q.0 to.0, to.1)

pub returns-in_default-clause-judged : goal.returns-in_default-clause-judged
returns-in_default-clause-judged g c =
    let taken = c.args.lines.now.number in
    IfSome_then (lines_left c.args.lines.now (g.R.Read.remaining c.args.reader.now)) c.in_ok-judgement.ensures.judged
    (λ a h. λ u most is. judgement_before u most taken a.lines c.in_ok-judgement.judgement.judged c.in_ok-judgement.judgement.undecided.items c.in_ok-judgement.judgement.window c.in_default.not-Legal (h u most is))

pub returns-in_ok-add_at-in-Legal-clause-judged : goal.returns-in_ok-add_at-in-Legal-clause-judged
returns-in_ok-add_at-in-Legal-clause-judged g c =
    let taken = c.args.lines.now.number in
    let all = lines_left c.args.lines.now (g.R.Read.remaining c.args.reader.now) in
    let left = lines_left c.judge_to_dot.new.lines (g.R.Read.remaining c.judge_to_dot.new.reader) in
    let dot = c.judge_to_dot.new.lines.number in
    let verdict = c.in_ok-finish_to-in-Legal.field-0 in
    let judgement = c.in_ok-judgement.judgement in
    let window = judgement.window in
    let old = undecided_in c.judge_to_dot.new.judge in
    let then = c.in_ok-finish_to-in-Legal.ensures in
    let more = then.more.more in
    let both : undecided_in c.finish_to.new.self ≡ old ++ more = then.more.undecided_are in
    let told = judgement.undecided.items ++ told_at (dot - 1) more in
    let said = c.judged_to-judged.ensures ∙ ap (told_by_rows c.in-Legal.stakes verdict) c.number-dot.ensures.number in
    let listed : c.add_at.new.told.items ≡ told
    = told_more judgement.undecided.items c.add_at.new.told.items old c.undecided.result.now more (dot - 1) (c.number-dot.result - 1) (length c.undecided-known.result.now) (c.undecided.ensures ∙ both) (ap length c.undecided-known.ensures) (ap (λ n. n - 1) c.number-dot.ensures.number) c.in_ok-add_at-in-Legal.ensures in
    by_all all (λ a. (u : View) (most : ℕ) → IsBegun u most c.args.part.now c.args.judge.now → IsJudgementTo u most taken a.lines c.judged_to-judged.result c.add_at.new.told.items window) (λ a e. λ u most is.
    let to = c.in_ok-judgement.ensures.followed c.in-Legal.stakes c.in-Legal.is u most is in
    let past = seen u to.0 in
    let legal = IfSome_then all c.in_ok-judgement.ensures.judged (λ b h. subst (λ j. IsJudgement u most taken (before_dot b.lines) j judgement.undecided.items window) c.in-Legal.is (h u most is)) in
    subst (λ xs. IsJudgementTo u most taken a.lines c.judged_to-judged.result xs window) (sym listed)
    (subst (λ j. IsJudgementTo u most taken a.lines j told window) (sym said)
    (at_all all a (λ b. IsJudgementTo u most taken b.lines (told_by_rows c.in-Legal.stakes verdict dot) told window) e
    (judged_by_rows u most taken dot to.0 all left c.in_ok-rows-in-Legal.rows c.in-Legal.stakes verdict judgement.undecided.items old more window to.2 c.in_ok-rows-in-Legal.ensures.rows (record { few = c.in_ok-admit-in-Legal.ensures.few; clean = c.in_ok-admit-in-Legal.ensures.clean }) c.in_ok-judgement.ensures.named legal
    (record {
      verdict_is = subst (λ xs. IsFinalVerdictOnAll u.rows u.part xs past (database_of c.in_ok-rows-in-Legal.rows) verdict) both
          (subst (λ part. IsFinalVerdictOnAll u.rows part (undecided_in c.finish_to.new.self) past (database_of c.in_ok-rows-in-Legal.rows) verdict) (sym is.part_is) (then.verdict u.rows most past to.1));
      aside_are = subst (AreUndecidedOfAll u.rows most past) both (then.aside u.rows most past to.1);
      legal = λ h. subst (λ xs. AreLegalBut u.rows xs past) both (then.legal u.rows most past to.1 h);
    })))))
