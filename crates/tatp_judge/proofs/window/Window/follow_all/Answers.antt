use Rattle.std.proofs.Common.{Ok, ap, refl, sym, subst, inl, ◌++◌, ◌∙◌}
use Rattle.tatp_tables.specs.Database.{of_subscriber}
use Rattle.tatp_history.specs.Histories.{IsStrictlySerializable}
use Rattle.tatp_history.specs.Events.{asked_in, TimesRise, HaveEnds}
use Rattle.tatp_linearization.specs.declared.explanations.Explanations.{Explanations}
use Rattle.tatp_linearization.specs.Reached.{AreOfSubscriber, AreReached}
use Rattle.tatp_linearization.specs.Possible.{NeedMore}
use Rattle.tatp_judge.proofs.ClosingLaws.{closed, many_now, rise_both, end_both, unsaid, same_window}
use Rattle.tatp_judge.proofs.window.Window.follow_all.Goals as goal

pub returns-in-Explained-clause-closes : goal.returns-in-Explained-clause-closes
returns-in-Explained-clause-closes c = λ u most s lines is now.
    let w = c.args.self.now in
    let reached = c.in_ok-follow.ensures.reached (ap Ok c.in-Explained.is) (of_subscriber u s) is.before is.reached in (
      closed u most s lines w is c.forget.new.self c.requires.none
          (subst (AreReached (of_subscriber u s) (is.before ++ w.events.items)) (sym c.forget.ensures.explanations)
          (subst (λ es. AreReached (of_subscriber u s) (is.before ++ es) c.follow.new.self) c.as_slice.ensures.value reached))
          (subst (AreOfSubscriber s) (sym c.forget.ensures.explanations) (c.follow.ensures.own s is.own))
          (ap (λ (e : Explanations). e.most) c.forget.ensures.explanations ∙ c.follow.ensures.most) c.forget.ensures.forgotten (c.forget.ensures.from ∙ now) c.forget.ensures.waiting,
      λ _. c.forget.ensures.forgotten,
    )

pub returns-in-Unexplained-clause-closes : goal.returns-in-Unexplained-clause-closes
returns-in-Unexplained-clause-closes c = λ u most s lines is now.
    let w = c.args.self.now in
    let same = sym c.as_slice.ensures.value in (
      λ explained. c.in_ok-follow.ensures.unexplained (ap Ok c.in-Unexplained.is) (of_subscriber u s) is.before is.reached
          (subst (λ es. TimesRise (is.before ++ es)) same (rise_both u most s lines w is))
          (subst (λ es. HaveEnds (is.before ++ es)) same (end_both u most s lines w is))
          (subst (λ es. IsStrictlySerializable (of_subscriber u s) (asked_in (is.before ++ es))) same (unsaid u most s lines w is explained)),
      inl (same_window u most s lines w (record { explanations = c.follow.new.self; from = w.from; events = w.events; numbers = w.numbers; waiting = w.waiting; only = w.only; aside = w.aside }) is
          (c.in_ok-follow.ensures.same (λ e. let other = sym c.in-Unexplained.is in cc)) refl refl refl refl refl refl),
    )

pub returns-in-Undecided-clause-closes : goal.returns-in-Undecided-clause-closes
returns-in-Undecided-clause-closes c = λ u most s lines is now.
    let w = c.args.self.now in
    many_now u most s lines w is
    (subst (λ es. NeedMore most (of_subscriber u s) (is.before ++ es)) c.as_slice.ensures.value
    (subst (λ m. NeedMore m (of_subscriber u s) (is.before ++ c.as_slice.result.now)) is.most_is (c.in_ok-follow.ensures.undecided (ap Ok c.in-Undecided.is) (of_subscriber u s) is.before is.reached)))

pub returns-in-Explained-clause-exact : goal.returns-in-Explained-clause-exact
returns-in-Explained-clause-exact c = ap (λ (e : Explanations). e.exact) c.forget.ensures.explanations ∙ c.follow.ensures.exact
