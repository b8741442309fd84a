use Rattle.std.proofs.Common.{◌∙◌, ap, sym, subst}
use Rattle.std.proofs.lemmas.Result.{IfOk-weaker}
use Rattle.tatp_judge.specs.declared.judge.Verdict.TheVariants.{Illegal}
use Rattle.tatp_judged_inputs.specs.Judged.{IsWindowBy}
use Rattle.tatp_judged_inputs.specs.Reading.{told_of}
use Rattle.tatp_judged_inputs.proofs.TellingLaws.{kept_there}
use Rattle.tatp_judged_inputs.proofs.reading.Reading.window.Goals as goal

pub explained-requires : goal.explained-requires
explained-requires c =
    let q = c.requires in
    let there = kept_there q.0 q.1 q.2 c.args.verdict.now c.args.judge.now c.in-Illegal.line c.in-Illegal.s_id c.in-Some.s_id c.in-Illegal.is c.in-Some.is q.4 q.5 in
    (q.0, q.2, q.3, there.0, there.1, there.2, there.3)

pub returns-in-Some : goal.returns-in-Some
returns-in-Some c = IfOk-weaker c.explained.result _ _ (λ window told u most past numbered on kept.
    let there = kept_there u most past c.args.verdict.now c.args.judge.now c.in-Illegal.line c.in-Illegal.s_id c.in-Some.s_id c.in-Illegal.is c.in-Some.is on kept in
    subst (λ v. IsWindowBy u (told_of c.args.self.now past) v window) (sym (c.in-Illegal.is ∙ ap (λ o. Illegal c.in-Illegal.line o) c.in-Some.is)) (told u past numbered there.0 there.1 there.2 there.3)) c.explained.ensures
