use Rattle.std.proofs.Common.{◌≡◌, Some, slice_get, refl, sym, ◌∙◌, subst, arith, true≢false, inl, inr}
use Rattle.tatp_calls.specs.declared.reply.Reply.{Reply}
use Rattle.tatp_linearization.specs.Listed.{IsListed}
use Rattle.tatp_linearization.proofs.PlaceLaws.{get_at, below_or_is, same_item}
use Rattle.tatp_linearization.proofs.ListedLaws.{get_listed, listed_get}
use Rattle.tatp_linearization.proofs.legal.is_listed.Goals as goal

pub loop-i-preserved : goal.loop-i-preserved
loop-i-preserved c =
    let r : Reply = c.index-replies-i.result in
    let at : slice_get c.args.replies.now c.loop-i.i ≡ Some r = get_at c.args.replies.now c.loop-i.i r c.loop-i-test.true c.index-replies-i.is in
    λ k other lt there same. elim (below_or_is k c.loop-i.i lt) [
      | inl less ↦ c.loop-i.invariant k other less there same
      | inr is ↦
          let one : other ≡ r = same_item c.args.replies.now c.loop-i.i other r (subst (λ n. slice_get c.args.replies.now n ≡ Some other) is there) at in
          true≢false (sym (c.is_same.ensures.1 (same ∙ one)) ∙ c.if-is_same.false)
    ]

pub returns-then-is_same : goal.returns-then-is_same
returns-then-is_same c =
    let r : Reply = c.index-replies-i.result in
    let at : slice_get c.args.replies.now c.loop-i.i ≡ Some r = get_at c.args.replies.now c.loop-i.i r c.loop-i-test.true c.index-replies-i.is in
    (λ _. subst (λ q. IsListed q c.args.replies.now) (sym (c.is_same.ensures.0 c.if-is_same.true)) (get_listed c.args.replies.now c.loop-i.i r at), λ _. refl)

pub returns : goal.returns
returns c = (
  λ e. absurd (true≢false (sym e)),
  λ h. let there = listed_get c.args.replies.now c.args.reply.now h in let lt = there.1 in absurd (c.loop-i.invariant there.0 c.args.reply.now (omega (arith, lt, c.loop-i-test.false)) there.2 refl),
)
