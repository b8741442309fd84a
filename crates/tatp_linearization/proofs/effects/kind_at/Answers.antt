use Rattle.std.proofs.Common.{◌≡◌, Some, slice_get, sym, ap, ◌∙◌, subst, arith, inl, inr}
use Rattle.tatp_history.specs.declared.observed.Observed.{Observed}
use Rattle.tatp_history.proofs.OrderLaws.{apart_is}
use Rattle.tatp_linearization.specs.Kinds.{kind_of}
use Rattle.tatp_linearization.proofs.PlaceLaws.{get_at, same_item, below_or_is}
use Rattle.tatp_linearization.proofs.DoomedLaws.{get_in}
use Rattle.tatp_linearization.proofs.effects.kind_at.Goals as goal

pub returns-then-x-asked : goal.returns-then-x-asked
returns-then-x-asked c = λ apart x there is.
    let y : Observed = c.index-x.result.now in
    let at : slice_get c.args.c.now.opened.items c.loop-i.i ≡ Some y = get_at c.args.c.now.opened.items c.loop-i.i y (omega (arith, c.loop-i-test.true, c.len-i-end.ensures, c.args.c.now.opened.ok.0)) c.index-x.ensures in
    let one : x ≡ y = apart_is c.args.c.now.opened.items x y apart there (get_in c.args.c.now.opened.items c.loop-i.i y at) (is ∙ sym c.if-x-asked.true) in
    ap (λ (z : Observed). kind_of z.call) one ∙ sym c.kind_of.ensures

pub loop-i-preserved : goal.loop-i-preserved
loop-i-preserved c =
    let x : Observed = c.index-x.result.now in
    let at : slice_get c.args.c.now.opened.items c.loop-i.i ≡ Some x = get_at c.args.c.now.opened.items c.loop-i.i x (omega (arith, c.loop-i-test.true, c.len-i-end.ensures, c.args.c.now.opened.ok.0)) c.index-x.ensures in
    λ k y lt there is. elim (below_or_is k c.loop-i.i lt) [
      | inl less ↦ c.loop-i.invariant k y less there is
      | inr same ↦ c.if-x-asked.false (ap (λ (z : Observed). z.asked) (same_item c.args.c.now.opened.items c.loop-i.i x y at (subst (λ n. slice_get c.args.c.now.opened.items n ≡ Some y) same there)) ∙ is)
    ]
