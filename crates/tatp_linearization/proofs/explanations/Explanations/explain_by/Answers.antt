use Rattle.std.proofs.Common.{◌≡◌, List, ◌++◌, sym, ◌∙◌, subst}
use Rattle.std.specs.List.{AllByRecursion}
use Rattle.tatp_tables.specs.Database.{Database}
use Rattle.tatp_history.specs.declared.event.Event.{Event}
use Rattle.tatp_history.specs.Histories.{IsStrictlySerializable}
use Rattle.tatp_history.specs.Events.{asked_in, TimesRise, HaveEnds}
use Rattle.tatp_linearization.specs.Possible.{NeedMore}
use Rattle.tatp_linearization.specs.Held.{IsAcceptedEvent}
use Rattle.tatp_linearization.specs.Reached.{AreReached}
use Rattle.tatp_linearization.specs.Cut.{events_by}
use Rattle.tatp_linearization.proofs.CutLaws.{accepted_by, rises_by, have_by, both_by}
use Rattle.tatp_linearization.proofs.explanations.Explanations.explain_by.Goals as goal

pub explain-requires-clause-accepted : goal.explain-requires-clause-accepted
explain-requires-clause-accepted c = subst (AllByRecursion IsAcceptedEvent) (sym (c.as_slice.ensures.value ∙ c.in_ok-cut.ensures)) (accepted_by c.args.time c.args.events.now c.requires.accepted)

pub returns-clause-explained : goal.returns-clause-explained
returns-clause-explained c = λ is u past reached window.
    let cut : c.as_slice.result.now ≡ events_by c.args.time c.args.events.now = c.as_slice.ensures.value ∙ c.in_ok-cut.ensures in
    let explains = subst (λ es. (v : Database) (before : List Event) → AreReached v before c.args.self.now → TimesRise (before ++ es) → HaveEnds (before ++ es) → IsStrictlySerializable v (asked_in (before ++ es))) cut (c.explain.ensures.explained is) in
    subst (IsStrictlySerializable u) (both_by c.args.time past c.args.events.now)
    (explains u past reached (rises_by c.args.time past c.args.events.now window.rise) (have_by c.args.time past c.args.events.now window.own window.ends))

pub returns-clause-unexplained : goal.returns-clause-unexplained
returns-clause-unexplained c = λ is u past reached window s.
    let cut : c.as_slice.result.now ≡ events_by c.args.time c.args.events.now = c.as_slice.ensures.value ∙ c.in_ok-cut.ensures in
    let fails = subst (λ es. (v : Database) (before : List Event) → AreReached v before c.args.self.now → TimesRise (before ++ es) → HaveEnds (before ++ es) → IsStrictlySerializable v (asked_in (before ++ es)) → ⊥) cut (c.explain.ensures.unexplained is) in
    fails u past reached (rises_by c.args.time past c.args.events.now window.rise) (have_by c.args.time past c.args.events.now window.own window.ends)
    (subst (IsStrictlySerializable u) (sym (both_by c.args.time past c.args.events.now)) s)

pub returns-clause-undecided : goal.returns-clause-undecided
returns-clause-undecided c = λ is u past reached.
    subst (λ es. NeedMore c.args.self.now.most u (past ++ es)) (c.as_slice.ensures.value ∙ c.in_ok-cut.ensures) (c.explain.ensures.undecided is u past reached)
