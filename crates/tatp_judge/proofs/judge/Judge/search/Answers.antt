use Rattle.std.proofs.Common.{◌≡◌, ◌+◌, ◌<◌, ◌≤◌, ◌∙◌, suc, ap, sym, subst, length, Some, arith}
use Rattle.std.proofs.lemmas.Option.{same_Some}
use Rattle.tatp_judge.specs.declared.judge.Judge.{Judge}
use Rattle.tatp_judge.specs.declared.window.Window.{Window}
use Rattle.tatp_judge.specs.Searching.{ReleasesSome}
use Rattle.tatp_judge.specs.Windows.{IsFirstOf}
use Rattle.tatp_judge.proofs.AsideLaws.{not_aside}
use Rattle.tatp_judge.proofs.PlaceLaws.{found_at}
use Rattle.tatp_judge.proofs.SearchLaws.{IsLeast, least_aside, least_illegal, least_later, least_moved, least_never, least_none, least_passed, least_sooner}
use Rattle.tatp_judge.proofs.SearchingLaws.{SearchedSoFar, least_starts, releases_more, releases_none, searchable_more, searched_for}
use Rattle.tatp_judge.proofs.judge.Judge.search.Goals as goal
use Rattle.tatp_judge.proofs.judge.Judge.search.Goals.{then-not-index+in_ok-first_at+in-Never, then-not-index+in_ok-first_at+in-At+then-line-least, then-not-index+in_ok-first_at+in-At+else-line-least, then-not-index+in_ok-first_at+in-Undecided+in_ok-set_aside-in-Undecided, else-not-index}

pub windows-init : goal.windows-init
windows-init c = (
  releases_none c.args.self.now,
  λ u most lines is. record { searchable = is; least_is = least_starts u most lines c.args.illegal c.args.s_id c.args.self.now c.bound-least.result is c.bound-least.ensures.last c.bound-least.ensures.next },
)

pub first_at-requires-clause-window : goal.first_at-requires-clause-window
first_at-requires-clause-window c = λ w at.
    let q = c.requires in
    let so_far = c.windows.invariant.1 q.0 q.1 q.2 q.3 in
    let i = c.windows.i in
    let next : i + 1 ≡ suc i = omega arith in
    let v = c.index.result.now in
    let ws = c.args.self.now.windows in
    let lt : i < length c.windows.self.windows.items = omega (arith, c.windows-test.true, c.len-i-end.ensures, ws.ok.0, c.windows.invariant.0.windows_are.count) in
    let there = found_at c.windows.self.windows.items i v lt c.index.ensures in
    let same : v ≡ w = same_Some v w (sym there ∙ at) in (
      q.0,
      q.1,
      q.2,
      searched_for q.0 q.1 q.2 c.args.illegal c.args.s_id c.is_known.result c.windows.self i w so_far.searchable at (sym (ap (λ (x : Window). x.aside) same) ∙ c.if-not-index.true)
          (λ e. let p = c.is_known.ensures.parts e in (p.0, p.1 ∙ ap Some next)) (λ e f. c.is_known.ensures.both e (f ∙ ap Some (sym next))),
      so_far.searchable.read.number_is,
    )

pub windows-preserved : goal.windows-preserved
windows-preserved c =
    let old = c.args.self.now in
    let mid = c.windows.self in
    let i = c.windows.i in
    let next : i + 1 ≡ suc i = omega arith in
    let v = c.index.result.now in
    let ws = old.windows in
    let releases = c.windows.invariant.0 in
    let lt : i < length mid.windows.items = omega (arith, c.windows-test.true, c.len-i-end.ensures, ws.ok.0, releases.windows_are.count) in
    let at = found_at mid.windows.items i v lt c.index.ensures in
    elim c.if-not-index.branch [
      | then-not-index+in_ok-first_at+in-Never w ↦ (
        subst (ReleasesSome old) (sym w.self-is) releases,
        λ u most lines is.
            let so_far = c.windows.invariant.1 u most lines is in
            let for = searched_for u most lines c.args.illegal c.args.s_id w.is_known.result mid i v so_far.searchable at w.if-not-index.true
            (λ e. let p = w.is_known.ensures.parts e in (p.0, p.1 ∙ ap Some next)) (λ e f. w.is_known.ensures.both e (f ∙ ap Some (sym next))) in
            let told = subst (IsFirstOf u most (suc i) lines) w.in-Never.is (w.in_ok-first_at.ensures v at u most lines for so_far.searchable.read.number_is) in
            subst (λ (j : Judge). SearchedSoFar u most lines c.args.illegal c.args.s_id j (i + 1) c.if-not-index.least c.if-not-index.whose) (sym w.self-is)
            (record { searchable = so_far.searchable; least_is = least_moved w.least-is w.whose-is (least_never u most lines mid.undecided.items i c.windows.least c.windows.whose so_far.least_is told) }),
      )
      | then-not-index+in_ok-first_at+in-At+then-line-least w ↦ (
        subst (ReleasesSome old) (sym w.self-is) releases,
        λ u most lines is.
            let so_far = c.windows.invariant.1 u most lines is in
            let for = searched_for u most lines c.args.illegal c.args.s_id w.is_known.result mid i v so_far.searchable at w.if-not-index.true
            (λ e. let p = w.is_known.ensures.parts e in (p.0, p.1 ∙ ap Some next)) (λ e f. w.is_known.ensures.both e (f ∙ ap Some (sym next))) in
            let told = subst (IsFirstOf u most (suc i) lines) w.in-At.is (w.in_ok-first_at.ensures v at u most lines for so_far.searchable.read.number_is) in
            let other = not_aside u most lines mid i v so_far.searchable.aside at w.if-not-index.true in
            subst (λ (j : Judge). SearchedSoFar u most lines c.args.illegal c.args.s_id j (i + 1) c.if-not-index.least c.if-not-index.whose) (sym w.self-is)
            (record { searchable = so_far.searchable; least_is = least_moved w.least-is w.whose-is (least_sooner u most lines mid.undecided.items i c.windows.least w.in-At.line c.windows.whose so_far.least_is told w.if-line-least.true other) }),
      )
      | then-not-index+in_ok-first_at+in-At+else-line-least w ↦ (
        subst (ReleasesSome old) (sym w.self-is) releases,
        λ u most lines is.
            let so_far = c.windows.invariant.1 u most lines is in
            let for = searched_for u most lines c.args.illegal c.args.s_id w.is_known.result mid i v so_far.searchable at w.if-not-index.true
            (λ e. let p = w.is_known.ensures.parts e in (p.0, p.1 ∙ ap Some next)) (λ e f. w.is_known.ensures.both e (f ∙ ap Some (sym next))) in
            let told = subst (IsFirstOf u most (suc i) lines) w.in-At.is (w.in_ok-first_at.ensures v at u most lines for so_far.searchable.read.number_is) in
            subst (λ (j : Judge). SearchedSoFar u most lines c.args.illegal c.args.s_id j (i + 1) c.if-not-index.least c.if-not-index.whose) (sym w.self-is)
            (record { searchable = so_far.searchable; least_is = least_moved w.least-is w.whose-is (least_later u most lines mid.undecided.items i c.windows.least w.in-At.line c.windows.whose so_far.least_is told w.if-line-least.false) }),
      )
      | then-not-index+in_ok-first_at+in-Undecided+in_ok-set_aside-in-Undecided w ↦
          let then = w.in_ok-set_aside-in-Undecided.ensures in
          let new = w.set_aside.new.self in (
            subst (ReleasesSome old) (sym w.self-is) (releases_more (i + 1) old mid new releases w.set_aside.ensures.directory w.set_aside.ensures.asked w.set_aside.ensures.number w.set_aside.ensures.exact then.windows),
            λ u most lines is.
                let so_far = c.windows.invariant.1 u most lines is in
                let for = searched_for u most lines c.args.illegal c.args.s_id w.is_known.result mid i v so_far.searchable at w.if-not-index.true
                (λ e. let p = w.is_known.ensures.parts e in (p.0, p.1 ∙ ap Some next)) (λ e f. w.is_known.ensures.both e (f ∙ ap Some (sym next))) in
                let many = subst (IsFirstOf u most (suc i) lines) w.in-Undecided.is (w.in_ok-first_at.ensures v at u most lines for so_far.searchable.read.number_is) in
                subst (λ (j : Judge). SearchedSoFar u most lines c.args.illegal c.args.s_id j (i + 1) c.if-not-index.least c.if-not-index.whose) (sym w.self-is)
                (record {
                  searchable = searchable_more u most lines c.args.illegal c.args.s_id i (i + 1) mid new v so_far.searchable next at w.if-not-index.true many w.set_aside.ensures.directory w.set_aside.ensures.number w.set_aside.ensures.exact then.undecided then.windows;
                  least_is = least_moved w.least-is w.whose-is
                      (subst (λ xs. IsLeast u lines xs (i + 1) c.windows.least c.windows.whose) (sym then.undecided) (least_aside u lines mid.undecided.items (record { line = mid.number; s_id = i + 1 }) i c.windows.least c.windows.whose so_far.least_is next));
                }),
          )
      | else-not-index w ↦ (
        subst (ReleasesSome old) (sym w.self-is) releases,
        λ u most lines is.
            let so_far = c.windows.invariant.1 u most lines is in
            subst (λ (j : Judge). SearchedSoFar u most lines c.args.illegal c.args.s_id j (i + 1) c.if-not-index.least c.if-not-index.whose) (sym w.self-is)
            (record { searchable = so_far.searchable; least_is = least_moved w.least-is w.whose-is (least_passed u lines mid.undecided.items i c.windows.least c.windows.whose so_far.least_is (λ other. absurd (other (so_far.searchable.aside.listed i v at w.if-not-index.false)))) }),
      )
    ]

pub returns-then-least-number-clause-said : goal.returns-then-least-number-clause-said
returns-then-least-number-clause-said c = λ u most lines is.
    let so_far = c.windows.invariant.1 u most lines is in
    let judge = c.windows.self in
    let all : length judge.windows.items ≤ c.windows.i = omega (arith, c.windows-test.false, c.len-i-end.ensures, c.args.self.now.windows.ok.0, c.windows.invariant.0.windows_are.count) in
    record {
      aside_are = so_far.searchable.aside.undecided;
      verdict_is = least_none u lines judge judge.undecided.items c.windows.i c.windows.least c.windows.whose so_far.searchable.read so_far.least_is all (omega (arith, c.if-least-number.true, c.windows.invariant.0.number_is));
    }

pub returns-then-least-number-clause-searchable : goal.returns-then-least-number-clause-searchable
returns-then-least-number-clause-searchable c = λ u most lines is. (c.windows.invariant.1 u most lines is).searchable

pub returns-else-least-number-clause-said : goal.returns-else-least-number-clause-said
returns-else-least-number-clause-said c = λ u most lines is.
    let so_far = c.windows.invariant.1 u most lines is in
    let judge = c.windows.self in
    let all : length judge.windows.items ≤ c.windows.i = omega (arith, c.windows-test.false, c.len-i-end.ensures, c.args.self.now.windows.ok.0, c.windows.invariant.0.windows_are.count) in
    record {
      aside_are = so_far.searchable.aside.undecided;
      verdict_is = least_illegal u lines judge judge.undecided.items c.windows.i c.windows.least c.windows.whose so_far.searchable.read so_far.least_is all (omega (arith, c.if-least-number.false, c.windows.invariant.0.number_is));
    }

pub returns-else-least-number-clause-searchable : goal.returns-else-least-number-clause-searchable
returns-else-least-number-clause-searchable c = λ u most lines is. (c.windows.invariant.1 u most lines is).searchable

pub returns-then-least-number-clause-exact : goal.returns-then-least-number-clause-exact
returns-then-least-number-clause-exact c = c.windows.invariant.0.exact_is

pub returns-else-least-number-clause-exact : goal.returns-else-least-number-clause-exact
returns-else-least-number-clause-exact c = c.windows.invariant.0.exact_is
