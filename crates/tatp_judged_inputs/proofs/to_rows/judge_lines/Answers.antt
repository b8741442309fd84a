use Rattle.std.specs.Prelude.{ℕ, IfSome}
use Rattle.std.proofs.Common.{sym, subst, ◌∙◌}
use Rattle.std.proofs.lemmas.Result.{IfOk-weaker}
use Rattle.tatp_streams.specs.LineReading.{lines_left}
use Rattle.tatp_judged_inputs.specs.Views.{IsBegun, View}
use Rattle.tatp_judged_inputs.specs.Judging.{IsJudgedWith}
use Rattle.tatp_judged_inputs.proofs.to_rows.judge_lines.Goals as goal

pub judge_to_rows-requires-clause-exact : goal.judge_to_rows-requires-clause-exact
judge_to_rows-requires-clause-exact g c = c.requires.exact ∙ c.if-final_rows.true

pub returns-in_ok-judge_history-clause-judged : goal.returns-in_ok-judge_history-clause-judged
returns-in_ok-judge_history-clause-judged g c =
    subst (λ b. IfSome (lines_left c.args.lines.now (g.R.Read.remaining c.args.reader.now)) (λ a. (u : View) (most : ℕ) → IsBegun u most c.args.part.now c.args.judge.now → IsJudgedWith b u most c.args.lines.now.number a.lines c.in_ok-judge_history.field-0))
    (sym c.if-final_rows.false) c.in_ok-judge_history.ensures.judged

pub returns-then-final_rows-clause-judged : goal.returns-then-final_rows-clause-judged
returns-then-final_rows-clause-judged g c = IfOk-weaker c.judge_to_rows.result _ _
    (λ judgement h. subst (λ b. IfSome (lines_left c.args.lines.now (g.R.Read.remaining c.args.reader.now)) (λ a. (u : View) (most : ℕ) → IsBegun u most c.args.part.now c.args.judge.now → IsJudgedWith b u most c.args.lines.now.number a.lines judgement))
    (sym c.if-final_rows.true) h) c.judge_to_rows.ensures.judged
