use Rattle.std.proofs.lemmas.Result.{err_from_is_err_and, IfErr-weaker, IfOk-weaker}
use Rattle.std.proofs.Common.{sym, subst}
use Rattle.tatp_judge.specs.Parts.{IsPart}
use Rattle.tatp_judged_inputs.specs.Judging.{view_asked}
use Rattle.tatp_judged_inputs.proofs.JudgingLaws.{rows_refused, texts_refused, input_judged}
use Rattle.tatp_judged_inputs.proofs.command.judged.Goals as goal

pub returns-in_err-judge-clause-faults : goal.returns-in_err-judge-clause-faults
returns-in_err-judge-clause-faults g c =
    let p = err_from_is_err_and c.from_residual-in_err-judge.result c.from_residual-in_err-judge.ensures.1 in
    rw (p.1, p.2) (rows_refused c.args.plan.now _ _ (g.R.Read.remaining c.args.reader.now) _ c.in_ok-rows.rows _ _ c.new-lines.ensures c.in_ok-rows.ensures.work c.in_err-judge.ensures.refusal)

pub judge_lines-requires-clause-exact : goal.judge_lines-requires-clause-exact
judge_lines-requires-clause-exact g c = c.in_ok-judge.ensures.exact

pub judge_lines-requires-clause-begun : goal.judge_lines-requires-clause-begun
judge_lines-requires-clause-begun g c = (
  view_asked c.args.plan.now c.in_ok-rows.rows,
  c.args.plan.now.most,
  record {
    followed = c.in_ok-judge.ensures.judge;
    part_is = sym c.part_of-part.ensures;
    possible = subst IsPart (sym c.part_of-part.ensures) (record { first = c.requires.part_first; last = c.requires.part_last });
  },
)

pub returns-clause-judged : goal.returns-clause-judged
returns-clause-judged g c = IfOk-weaker c.judge_lines.result _ _
    (λ judgement h. input_judged c.args.plan.now _ _ (g.R.Read.remaining c.args.reader.now) _ c.in_ok-rows.rows _ c.in_ok-judge.judge c.part_of-part.result judgement c.new-lines.ensures c.in_ok-rows.ensures.work c.in_ok-judge.ensures.admitted c.in_ok-judge.ensures.judge c.part_of-part.ensures (record { first = c.requires.part_first; last = c.requires.part_last }) h) c.judge_lines.ensures.judged

pub returns-clause-faults : goal.returns-clause-faults
returns-clause-faults g c = IfErr-weaker c.judge_lines.result _ _
    (λ fault h. texts_refused c.args.plan.now _ _ (g.R.Read.remaining c.args.reader.now) _ c.in_ok-rows.rows _ fault c.new-lines.ensures c.in_ok-rows.ensures.work c.in_ok-judge.ensures.admitted h) c.judge_lines.ensures.faults
