use Rattle.std.proofs.Common.{◌≡◌, ◌<◌, Some, slice_get, remove, inl, inr, refl, sym, ap, ◌∙◌, subst, true≢false, arith}
use Rattle.tatp_history.specs.declared.observed.Observed.{Observed}
use Rattle.tatp_linearization.specs.declared.configuration.Configuration.{Configuration as Held}
use Rattle.tatp_linearization.specs.Overwritten.{IsBlind}
use Rattle.tatp_linearization.proofs.PlaceLaws.{get_at, same_item, below_or_is}
use Rattle.tatp_linearization.proofs.ButSomeLaws.{get_inside}
use Rattle.tatp_linearization.proofs.CoveringLaws.{gone_some, gone_none, gone_nowhere}
use Rattle.tatp_linearization.proofs.configuration.let_go.Goals as goal

pub returns : goal.returns
returns c = gone_nowhere c.args.asked c.args.c.now (λ k x at is.
    let lt = get_inside c.args.c.now.opened.items k x at in
    c.loop-i.invariant k x (omega (arith, lt, c.loop-i-test.false, c.len-i-end.ensures, c.args.c.now.opened.ok.0)) at is)

pub returns-then-not-may_be_left_out : goal.returns-then-not-may_be_left_out
returns-then-not-may_be_left_out c =
    let x : Observed = c.index.result.now in
    let at : slice_get c.args.c.now.opened.items c.loop-i.i ≡ Some x = get_at c.args.c.now.opened.items c.loop-i.i x (omega (arith, c.loop-i-test.true, c.len-i-end.ensures, c.args.c.now.opened.ok.0)) c.index.ensures in
    gone_none c.args.asked c.args.c.now c.loop-i.i x at c.if-index-asked.true (λ early blind.
    true≢false (sym (c.may_be_left_out.ensures.1 (λ y there.
    let one = same_item c.args.c.now.opened.items c.loop-i.i x y at there in
    (subst (λ (z : Observed). z.asked < c.args.c.now.overwritten) one early, subst (IsBlind c.args.c.now.home.tables) one blind))) ∙ c.if-not-may_be_left_out.true))

pub returns-then-index-asked : goal.returns-then-index-asked
returns-then-index-asked c =
    let x : Observed = c.index.result.now in
    let at : slice_get c.args.c.now.opened.items c.loop-i.i ≡ Some x = get_at c.args.c.now.opened.items c.loop-i.i x (omega (arith, c.loop-i-test.true, c.len-i-end.ensures, c.args.c.now.opened.ok.0)) c.index.ensures in
    let left = c.may_be_left_out.ensures.0 c.if-not-may_be_left_out.false x at in
    let d : Held = record { home = c.copy.result; opened = c.in_ok-opened.opened; overwritten = c.args.c.now.overwritten } in
    gone_some c.args.asked c.args.c.now d c.loop-i.i x at c.if-index-asked.true left.0 left.1 c.copy.ensures
    (c.in_ok-opened.ensures ∙ ap (λ xs. remove xs c.loop-i.i) c.as_slice.ensures.value) refl

pub loop-i-preserved : goal.loop-i-preserved
loop-i-preserved c =
    let x : Observed = c.index.result.now in
    let at : slice_get c.args.c.now.opened.items c.loop-i.i ≡ Some x = get_at c.args.c.now.opened.items c.loop-i.i x (omega (arith, c.loop-i-test.true, c.len-i-end.ensures, c.args.c.now.opened.ok.0)) c.index.ensures in
    λ k y lt there is. elim (below_or_is k c.loop-i.i lt) [
      | inl less ↦ c.loop-i.invariant k y less there is
      | inr same ↦ c.if-index-asked.false (ap (λ (z : Observed). z.asked) (same_item c.args.c.now.opened.items c.loop-i.i x y at (subst (λ n. slice_get c.args.c.now.opened.items n ≡ Some y) same there)) ∙ is)
    ]
