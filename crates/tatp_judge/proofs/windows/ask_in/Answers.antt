use Rattle.std.specs.Prelude.{IfSome}
use Rattle.std.proofs.Common.{subst, ◌≤◌, length}
use Rattle.tatp_judge.proofs.StepLaws.{none_asked_there, on_ok_six, one_asked}
use Rattle.tatp_judge.proofs.windows.ask_in.Goals as goal

pub returns-in-Some : goal.returns-in-Some
returns-in-Some c =
    let s_id = c.in-Some.s_id in
    let within = subst (λ o. IfSome o (λ s. (1 ≤ s) × (s ≤ length c.args.windows.now.items))) c.in-Some.is c.requires.within in
    on_ok_six c.ask.result (λ events numbers waiting from explanations aside. one_asked c.args.s_id s_id c.args.x.now c.args.windows.now.items c.index_mut.result.now c.ask.new.self c.in-Some.is within.0 within.1 c.index_mut.ensures.value events numbers waiting from explanations aside)
    c.ask.ensures.events c.ask.ensures.numbers c.ask.ensures.waiting c.ask.ensures.from c.ask.ensures.explanations c.ask.ensures.aside

pub returns-in-None : goal.returns-in-None
returns-in-None c = none_asked_there c.args.s_id c.args.x.now c.args.windows.now.items c.in-None.is
