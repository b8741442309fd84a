use Rattle.std.proofs.Common.{rules, refl}
use Rattle.std.proofs.lemmas.Result.{err_from_is_err_and}
use Rattle.tatp_explanations.specs.Texts.{IsExplanation, Explains}
use Rattle.tatp_explanations.proofs.FaultLaws.{front_left}
use Rattle.tatp_explanations.proofs.commands.run_explain.Goals as goal

pub returns-in_err-write_last-in-Some-clause-faults : goal.returns-in_err-write_last-in-Some-clause-faults
returns-in_err-write_last-in-Some-clause-faults g c =
    let p = err_from_is_err_and c.from_residual-in_err-write_last-in-Some.result c.from_residual-in_err-write_last-in-Some.ensures.1 in
    let is : IsExplanation c.in-Some.explanation.number c.as_bytes.result.now = record {
      row = c.in-Some.explanation;
      own = refl;
      named = c.in-Some.ensures.named;
      told = search rules;
    } in
    let explains : Explains c.args.word.now c.as_bytes.result.now = (c.in-Some.explanation.number, c.in-Some.ensures.own, is) in
    rw (p.1, p.2)
    (front_left (Explains c.args.word.now) (g.W.Write.contents c.args.writer.now) (g.W.Write.contents c.write_last.new.writer) c.as_bytes.result.now c.in_err-write_last-in-Some.field-0.0
    explains c.in_err-write_last-in-Some.ensures.faults c.in_err-write_last-in-Some.ensures.front)
