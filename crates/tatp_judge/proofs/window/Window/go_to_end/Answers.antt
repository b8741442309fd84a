use Rattle.std.proofs.Common.{vec_len, List, [], ◌≡◌, ◌∷◌, length, refl, sym, ◌∙◌, arith, eqb-true}
use Rattle.tatp_history.specs.declared.event.Event.{Event}
use Rattle.tatp_judge.proofs.LeavingLaws.{at_end_already, goes_to_end}
use Rattle.tatp_judge.proofs.window.Window.go_to_end.Goals as goal

nothing : (es : List Event) → length es ≡ 0 → es ≡ []
nothing [] e = refl
nothing (x ∷ es) e = absurd (omega (arith, e))

pub returns-then-is_empty-clause-goes : goal.returns-then-is_empty-clause-goes
returns-then-is_empty-clause-goes c = λ u most s lines is.
    let w = c.args.self.now in
    at_end_already u most s lines w is (nothing w.events.items (sym w.events.ok.0 ∙ eqb-true (vec_len w.events) 0 (sym c.is_empty.ensures ∙ c.if-is_empty.true)))

pub returns-clause-goes : goal.returns-clause-goes
returns-clause-goes c =
    let w = c.args.self.now in
    goes_to_end c.follow.result w (record { explanations = c.follow.new.self; from = w.from; events = w.events; numbers = w.numbers; waiting = w.waiting; only = w.only; aside = w.aside }) c.as_slice.result.now c.as_slice.ensures.value
    c.follow.ensures.reached c.follow.ensures.unexplained c.follow.ensures.undecided c.follow.ensures.own c.follow.ensures.most
