use Rattle.std.proofs.Common.{vec_len, sym, ap, ◌∙◌, arith, eqb-true}
use Rattle.tatp_linearization.specs.declared.explanations.Explanations.{Explanations}
use Rattle.tatp_judge.proofs.ClosingLaws.{closed_empty, none_left}
use Rattle.tatp_judge.proofs.window.Window.close.Goals as goal

pub follow_one-requires-clause-single : goal.follow_one-requires-clause-single
follow_one-requires-clause-single c = c.is_single.ensures.0 c.if-is_single.true

pub returns-then-is_empty-clause-closes : goal.returns-then-is_empty-clause-closes
returns-then-is_empty-clause-closes c = λ u most s lines is now.
    let w = c.args.self.now in (
      closed_empty u most s lines w is c.forget.new.self (omega (arith, c.if-self-gt0.false)) (none_left w.events.items (sym w.events.ok.0 ∙ eqb-true (vec_len w.events) 0 (sym c.is_empty.ensures ∙ c.if-is_empty.true)))
          c.forget.ensures.explanations c.forget.ensures.forgotten (c.forget.ensures.from ∙ now) c.forget.ensures.waiting,
      λ _. c.forget.ensures.forgotten,
    )

pub returns-then-is_empty-clause-exact : goal.returns-then-is_empty-clause-exact
returns-then-is_empty-clause-exact c = ap (λ (e : Explanations). e.exact) c.forget.ensures.explanations
