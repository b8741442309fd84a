use Rattle.std.proofs.Common.{◌++◌, sym, ap, ◌∙◌, subst}
use Rattle.std.specs.List.{AllByRecursion}
use Rattle.tatp_history.specs.declared.observed.Observed.{Observed}
use Rattle.tatp_linearization.specs.Possible.{NeedMore}
use Rattle.tatp_linearization.specs.Held.{IsAcceptedEvent}
use Rattle.tatp_linearization.specs.Single.{answered_with}
use Rattle.tatp_linearization.specs.Legal.{events_with}
use Rattle.tatp_linearization.specs.Listed.{IsExplainedBy, IsUnexplainedBy}
use Rattle.tatp_linearization.proofs.PlacedLaws.{accepted_with}
use Rattle.tatp_linearization.proofs.explanations.Explanations.explain_with.Goals as goal

pub explain-requires-clause-accepted : goal.explain-requires-clause-accepted
explain-requires-clause-accepted c =
    let y : Observed = answered_with c.args.x.now c.args.at c.args.reply.now in
    subst (AllByRecursion IsAcceptedEvent) (sym (c.as_slice.ensures.value ∙ (c.in_ok-told.ensures ∙ ap (λ z. events_with z c.args.cut.now) c.answered.ensures))) (accepted_with y c.args.cut.now c.requires.call c.requires.accepted)

pub returns-clause-explained : goal.returns-clause-explained
returns-clause-explained c = λ is. subst (IsExplainedBy c.args.self.now) (c.as_slice.ensures.value ∙ (c.in_ok-told.ensures ∙ ap (λ z. events_with z c.args.cut.now) c.answered.ensures)) (c.explain.ensures.explained is)

pub returns-clause-unexplained : goal.returns-clause-unexplained
returns-clause-unexplained c = λ is. subst (IsUnexplainedBy c.args.self.now) (c.as_slice.ensures.value ∙ (c.in_ok-told.ensures ∙ ap (λ z. events_with z c.args.cut.now) c.answered.ensures)) (c.explain.ensures.unexplained is)

pub returns-clause-undecided : goal.returns-clause-undecided
returns-clause-undecided c = λ is u past reached.
    subst (λ es. NeedMore c.args.self.now.most u (past ++ es)) (c.as_slice.ensures.value ∙ (c.in_ok-told.ensures ∙ ap (λ z. events_with z c.args.cut.now) c.answered.ensures)) (c.explain.ensures.undecided is u past reached)
