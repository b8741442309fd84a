use Rattle.std.specs.Prelude.{IfSome}
use Rattle.std.proofs.Common.{subst, ◌≤◌, length}
use Rattle.tatp_judge.proofs.StepLaws.{none_there, on_ok_six, one_ended}
use Rattle.tatp_judge.proofs.windows.end_in.Goals as goal

pub returns-in-Some : goal.returns-in-Some
returns-in-Some c =
    let s_id = c.in-Some.s_id in
    let within = subst (λ o. IfSome o (λ s. (1 ≤ s) × (s ≤ length c.args.windows.now.items))) c.in-Some.is c.requires.within in
    on_ok_six c.end.result (λ events numbers waiting from explanations aside. one_ended c.args.asked.now s_id c.args.number c.args.line.now c.args.windows.now.items c.index_mut.result.now c.end.new.self c.in-Some.is within.0 within.1 c.index_mut.ensures.value events numbers waiting from explanations aside)
    c.end.ensures.events c.end.ensures.numbers c.end.ensures.waiting c.end.ensures.from c.end.ensures.explanations c.end.ensures.aside

pub returns-in-None : goal.returns-in-None
returns-in-None c = none_there c.args.asked.now c.args.number c.args.line.now c.args.windows.now.items c.in-None.is
