use Rattle.std.proofs.Common.{◌≡◌, ◌<◌, ◌≤◌, ◌↔◌, ap, subst, sym, inr, length, ◌++◌, ◌∙◌}
use Rattle.std.proofs.lemmas.Bool.{false≢true}
use Rattle.tatp_tables.specs.Database.{of_subscriber}
use Rattle.tatp_history.specs.Histories.{IsStrictlySerializable}
use Rattle.tatp_history.specs.Events.{asked_in, TimesRise, HaveEnds}
use Rattle.tatp_history.specs.SubscriberEvents.{no_calls, opened_after}
use Rattle.tatp_linearization.specs.declared.explanations.Explanations.{Explanations}
use Rattle.tatp_linearization.specs.Reached.{AreOfSubscriber, AreReached}
use Rattle.tatp_linearization.specs.Single.{answered_with, events_alone}
use Rattle.tatp_judge.specs.Windows.{AreCounted, only_reply}
use Rattle.tatp_judge.proofs.LegalReplyLaws.{alone_legal, kept_same}
use Rattle.tatp_judge.proofs.ClosingLaws.{alone_began, closed, rise_both, end_both, unsaid, spent}
use Rattle.tatp_judge.proofs.window.Window.follow_one.Goals as goal

pub returns-then-fits-clause-closes : goal.returns-then-fits-clause-closes
returns-then-fits-clause-closes c = λ u most s lines is now.
    let w = c.args.self.now in (
      closed u most s lines w is c.forget.new.self c.requires.none
          (subst (AreReached (of_subscriber u s) (is.before ++ w.events.items)) (sym c.forget.ensures.explanations)
          (subst (λ es. AreReached (of_subscriber u s) (is.before ++ es) c.follow_alone-fits.new.self) (sym c.requires.alone) (c.follow_alone-fits.ensures.reached c.if-fits.true c.args.number (of_subscriber u s) is.before is.reached)))
          (subst (AreOfSubscriber s) (sym c.forget.ensures.explanations) (c.follow_alone-fits.ensures.own s is.own))
          (ap (λ (e : Explanations). e.most) c.forget.ensures.explanations ∙ c.follow_alone-fits.ensures.most) c.forget.ensures.forgotten (c.forget.ensures.from ∙ now) c.forget.ensures.waiting,
      λ _. c.forget.ensures.forgotten,
    )

pub returns-in_ok-keep_only-clause-closes : goal.returns-in_ok-keep_only-clause-closes
returns-in_ok-keep_only-clause-closes c = λ u most s lines is now.
    let w = c.args.self.now in
    let x = c.args.x.now in
    let alone = c.requires.alone in
    let here = subst (λ k. w.events.items ≡ events_alone x k) now alone in
    let rise = subst (λ es. TimesRise (is.before ++ es)) alone (rise_both u most s lines w is) in
    let have = subst (λ es. HaveEnds (is.before ++ es)) alone (end_both u most s lines w is) in (
      λ explained. false≢true (sym c.if-fits.false ∙ (c.follow_alone-fits.ensures.explained c.args.number (of_subscriber u s) is.before is.reached rise have).1
          (subst (λ es. IsStrictlySerializable (of_subscriber u s) (asked_in (is.before ++ es))) alone (unsaid u most s lines w is explained))),
      inr (record {
        none = c.keep_only.ensures.events;
        only = only_reply x c.follow_alone-fits.new.reply;
        only_is = c.in_ok-keep_only.ensures.only;
        legal = alone_legal u most s lines w x c.follow_alone-fits.new.reply is here
            (λ other. subst (λ k. IsStrictlySerializable (of_subscriber u s) (asked_in (is.before ++ events_alone (answered_with x k other) k)) ↔ (other ≡ c.follow_alone-fits.new.reply)) now
            (c.follow_alone-fits.ensures.only c.args.number other (of_subscriber u s) is.before is.reached rise have));
        began = subst (λ k. k < length lines) (sym c.keep_only.ensures.from) (alone_began u most s lines w x is here);
        numbers = kept_same u s lines w c.keep_only.new.self c.keep_only.ensures.from c.keep_only.ensures.numbers is.numbers;
        counted = subst (AreCounted (opened_after u s 1 no_calls lines)) (sym c.keep_only.ensures.waiting) is.counted;
        few = subst (λ n. n ≤ length lines) (sym c.keep_only.ensures.waiting) is.few;
        before = spent u most s lines w x is here;
      }),
    )

pub returns-then-fits-clause-exact : goal.returns-then-fits-clause-exact
returns-then-fits-clause-exact c = ap (λ (e : Explanations). e.exact) c.forget.ensures.explanations ∙ c.follow_alone-fits.ensures.exact

pub returns-in_ok-keep_only-clause-exact : goal.returns-in_ok-keep_only-clause-exact
returns-in_ok-keep_only-clause-exact c = ap (λ (e : Explanations). e.exact) c.keep_only.ensures.explanations ∙ c.follow_alone-fits.ensures.exact

pub returns-in_err-keep_only-clause-exact : goal.returns-in_err-keep_only-clause-exact
returns-in_err-keep_only-clause-exact c = ap (λ (e : Explanations). e.exact) c.keep_only.ensures.explanations ∙ c.follow_alone-fits.ensures.exact
