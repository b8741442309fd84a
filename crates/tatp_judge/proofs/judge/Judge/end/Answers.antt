use Rattle.std.proofs.Common.{refl, ◌∙◌, ap, sym, subst, suc, Option}
use Rattle.std.proofs.lemmas.Result.{on_ok_weaker}
use Rattle.tatp_judge.specs.declared.asked.Asked.{Asked}
use Rattle.tatp_judge.specs.Asked.{asked_on}
use Rattle.tatp_judge.specs.Steps.{AreEach, EndsCall}
use Rattle.tatp_judge.proofs.StepLaws.{none_open, this}
use Rattle.tatp_judge.proofs.judge.Judge.end.Goals as goal

pub end_in-requires-clause-some : goal.end_in-requires-clause-some
end_in-requires-clause-some c = λ place w named at.
    c.requires.some place w c.in-Some.asked.number (ap (asked_on (suc place)) c.in-Some.is ∙ this (suc place) (suc place) c.in-Some.asked named refl) at

pub returns-in-Some-clause-windows : goal.returns-in-Some-clause-windows
returns-in-Some-clause-windows c = on_ok_weaker c.end_in.result
    (λ each. subst (λ (o : Option Asked). AreEach (λ place. EndsCall (asked_on (suc place) o) c.args.number c.args.line.now) c.args.self.now.windows.items c.end_in.new.windows.items) (sym c.in-Some.is) each) c.end_in.ensures

pub returns-in-None-clause-windows : goal.returns-in-None-clause-windows
returns-in-None-clause-windows c =
    subst (λ (o : Option Asked). AreEach (λ place. EndsCall (asked_on (suc place) o) c.args.number c.args.line.now) c.args.self.now.windows.items c.args.self.now.windows.items) (sym c.in-None.is)
    (none_open c.args.number c.args.line.now c.args.self.now.windows.items)
