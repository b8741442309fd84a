use Rattle.std.proofs.Common.{◌≡◌, ◌+◌, ◌≤◌, Some, slice_get, take, take_all, refl, sym, subst, arith, inl, inr}
use Rattle.tatp_history.specs.declared.observed.Observed.{Observed}
use Rattle.tatp_linearization.specs.Overwritten.{AreOut, IsFirst}
use Rattle.tatp_linearization.proofs.PlaceLaws.{get_at}
use Rattle.tatp_linearization.proofs.StayingLaws.{out_lower, out_same}
use Rattle.tatp_linearization.proofs.overwriting.overwritten_before.Goals as goal
use Rattle.tatp_linearization.proofs.overwriting.overwritten_before.Goals.{then-stays_within, else-stays_within}

pub calls-init : goal.calls-init
calls-init c = record { still = omega (arith, c.ranges.before); others = tt; first = inl refl }

pub calls-preserved : goal.calls-preserved
calls-preserved c =
    let u = c.args.home.now.tables in
    let x = c.args.x.now in
    let xs = c.args.opened.now in
    let z : Observed = c.index-opened-i.result in
    let at : slice_get c.args.opened.now c.calls.i ≡ Some z = get_at c.args.opened.now c.calls.i z c.calls-test.true c.index-opened-i.is in
    let inv = c.calls.invariant in
    elim c.if-stays_within.branch [
      | then-stays_within w ↦
          let told = c.stays_within.ensures.stays w.if-stays_within.true in
          record {
            still = subst (λ n. c.args.before ≤ n) (sym w.first-is) told.0;
            others = subst (λ n. AreOut u x c.args.before n (take (c.calls.i + 1) xs)) (sym w.first-is) (out_lower u x c.args.before xs c.calls.i z c.calls.first at told.1 inv.others);
            first = subst (λ n. IsFirst u x n xs) (sym w.first-is) (inr (c.calls.i, z, at, refl, told.2, told.3));
          }
      | else-stays_within w ↦ record {
        still = subst (λ n. c.args.before ≤ n) (sym w.first-is) inv.still;
        others = subst (λ n. AreOut u x c.args.before n (take (c.calls.i + 1) xs)) (sym w.first-is) (out_same u x c.args.before xs c.calls.i z c.calls.first at (c.stays_within.ensures.goes w.if-stays_within.false) inv.others);
        first = subst (λ n. IsFirst u x n xs) (sym w.first-is) inv.first;
      }
    ]

pub returns-clause-still : goal.returns-clause-still
returns-clause-still c = c.calls.invariant.still

pub returns-clause-others : goal.returns-clause-others
returns-clause-others c = subst (AreOut c.args.home.now.tables c.args.x.now c.args.before c.calls.first) (take_all c.calls.i c.args.opened.now c.calls-test.false) c.calls.invariant.others

pub returns-clause-first : goal.returns-clause-first
returns-clause-first c = c.calls.invariant.first
