use Rattle.std.proofs.Common.{◌≡◌, ℕ, ◌+◌, ◌-◌, ◌/◌, ◌<◌, List, [], ◌++◌, Ok, sym, ap, ◌∙◌, subst, arith}
use Rattle.std.proofs.lemmas.List.{append-nil}
use Rattle.tatp_tables.specs.Database.{Database}
use Rattle.tatp_history.specs.declared.event.Event.{Event}
use Rattle.tatp_history.specs.declared.observed.Observed.{Observed}
use Rattle.tatp_history.specs.Histories.{IsStrictlySerializable}
use Rattle.tatp_history.specs.Prefixes.{calls_by}
use Rattle.tatp_history.specs.Events.{asked_in, AreAfter}
use Rattle.tatp_linearization.specs.Reached.{AreReached}
use Rattle.tatp_linearization.specs.Cut.{AreWindow}
use Rattle.tatp_linearization.proofs.CutLaws.{none_by, asked_by, first_rises}
use Rattle.tatp_linearization.proofs.SearchedLaws.{reached_explained}
use Rattle.tatp_linearization.proofs.explanations.Explanations.first_unexplained.Goals as goal
use Rattle.tatp_linearization.proofs.explanations.Explanations.first_unexplained.Goals.{in-Explained-2, in-Unexplained-2}

-- before a window nothing of it is asked
before_it : (u : Database) (from : ℕ) (past : List Observed) (events : List Event) → AreAfter from events → IsStrictlySerializable u past → IsStrictlySerializable u (past ++ calls_by from (asked_in events))
before_it u from past events after s =
    let none : calls_by from (asked_in events) ≡ [] = sym (asked_by from events) ∙ ap asked_in (none_by from events after) in
    subst (IsStrictlySerializable u) (sym (ap (λ xs. past ++ xs) none ∙ append-nil past)) s

pub returns-in-Undecided-clause-undecided : goal.returns-in-Undecided-clause-undecided
returns-in-Undecided-clause-undecided c = λ _ u past reached. (c.args.by, c.in_ok-explain_by.ensures.undecided (ap Ok c.in-Undecided.is) u past reached)

pub halves-init : goal.halves-init
halves-init c = record {
  from = omega arith;
  by = omega arith;
  less = c.requires.times;
  nearer = omega arith;
  explains = λ u past reached window. before_it u c.args.from (asked_in past) c.args.events.now c.requires.after
      (reached_explained c.args.self.now u past reached (first_rises past c.args.events.now window.rise) window.own);
  fails = λ u past reached window. c.in_ok-explain_by.ensures.unexplained (ap Ok c.in-Unexplained.is) u past reached window;
}

pub returns-then-unexplained-explained-eq1-clause-explained :
    goal.returns-then-unexplained-explained-eq1-clause-explained
returns-then-unexplained-explained-eq1-clause-explained c = λ before is u past reached window.
    let at : c.halves.unexplained ≡ before + 1 = cc in
    let same : c.halves.explained ≡ before = omega (arith, at, c.if-unexplained-explained-eq1.true, c.halves.invariant.less) in
    subst (λ t. IsStrictlySerializable u (asked_in past ++ calls_by t (asked_in c.args.events.now))) same (c.halves.invariant.explains u past reached window)

pub returns-then-unexplained-explained-eq1-clause-unexplained :
    goal.returns-then-unexplained-explained-eq1-clause-unexplained
returns-then-unexplained-explained-eq1-clause-unexplained c = λ time is u past reached window s.
    let at : c.halves.unexplained ≡ time = cc in
    c.halves.invariant.fails u past reached window (subst (λ t. IsStrictlySerializable u (asked_in past ++ calls_by t (asked_in c.args.events.now))) (sym at) s)

pub returns-in-Undecided-2-clause-undecided : goal.returns-in-Undecided-2-clause-undecided
returns-in-Undecided-2-clause-undecided c = λ _ u past reached.
    (c.halves.explained + (c.halves.unexplained - c.halves.explained) / 2, c.in_ok-explain_by-2.ensures.undecided (ap Ok c.in-Undecided-2.is) u past reached)

-- the middle lies between
above : (lo hi : ℕ) → lo < hi → (hi - lo ≡ 1 → ⊥) → lo < lo + (hi - lo) / 2
above lo hi less far = omega (arith, less, far)

below : (lo hi : ℕ) → lo < hi → (hi - lo ≡ 1 → ⊥) → lo + (hi - lo) / 2 < hi
below lo hi less far = omega (arith, less, far)

pub halves-preserved : goal.halves-preserved
halves-preserved c =
    let lo : ℕ = c.halves.explained in
    let hi : ℕ = c.halves.unexplained in
    let middle : ℕ = c.halves.explained + (c.halves.unexplained - c.halves.explained) / 2 in
    let inv = c.halves.invariant in
    let up : lo < middle = above lo hi inv.less c.if-unexplained-explained-eq1.false in
    let down : middle < hi = below lo hi inv.less c.if-unexplained-explained-eq1.false in
    let Explains : ℕ → Type 0 = λ t. (u : Database) (past : List Event) → AreReached u past c.args.self.now → AreWindow past c.args.events.now → IsStrictlySerializable u (asked_in past ++ calls_by t (asked_in c.args.events.now)) in
    let Fails : ℕ → Type 0 = λ t. (u : Database) (past : List Event) → AreReached u past c.args.self.now → AreWindow past c.args.events.now → IsStrictlySerializable u (asked_in past ++ calls_by t (asked_in c.args.events.now)) → ⊥ in
    elim c.match-branch-4.branch [
      | in-Explained-2 w ↦
          let e : c.match-branch-4.explained ≡ middle = w.explained-is in
          let f : c.match-branch-4.unexplained ≡ hi = w.unexplained-is in
          record {
            from = omega (arith, e, up, inv.from);
            by = omega (arith, f, inv.by);
            less = omega (arith, e, f, down);
            nearer = omega (arith, e, f, up, inv.nearer);
            explains = subst Explains (sym e) (c.in_ok-explain_by-2.ensures.explained (ap Ok w.in-Explained-2.is));
            fails = subst Fails (sym f) inv.fails;
          }
      | in-Unexplained-2 w ↦
          let e : c.match-branch-4.explained ≡ lo = w.explained-is in
          let f : c.match-branch-4.unexplained ≡ middle = w.unexplained-is in
          record {
            from = omega (arith, e, inv.from);
            by = omega (arith, f, down, inv.by);
            less = omega (arith, e, f, up);
            nearer = omega (arith, e, f, down, inv.nearer);
            explains = subst Explains (sym e) inv.explains;
            fails = subst Fails (sym f) (c.in_ok-explain_by-2.ensures.unexplained (ap Ok w.in-Unexplained-2.is));
          }
    ]
