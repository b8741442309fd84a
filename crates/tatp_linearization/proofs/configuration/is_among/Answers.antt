use Rattle.std.proofs.Common.{◌≡◌, Some, slice_get, sym, ◌∙◌, subst, true≢false, arith, inl, inr}
use Rattle.tatp_linearization.specs.declared.configuration.Configuration.{Configuration as Held}
use Rattle.tatp_linearization.specs.Held.{Has, seen}
use Rattle.tatp_linearization.proofs.PlaceLaws.{get_at, all_get, below_or_is, same_item}
use Rattle.tatp_linearization.proofs.HeldLaws.{get_has, has_get}
use Rattle.tatp_linearization.proofs.configuration.is_among.Goals as goal

pub loop-i-preserved : goal.loop-i-preserved
loop-i-preserved c =
    let at : slice_get c.args.set.now c.loop-i.i ≡ Some c.index-set-i.result = get_at c.args.set.now c.loop-i.i c.index-set-i.result c.loop-i-test.true c.index-set-i.is in
    λ k b lt there own same. elim (below_or_is k c.loop-i.i lt) [
      | inl less ↦ c.loop-i.invariant k b less there own same
      | inr is ↦
          let one : b ≡ c.index-set-i.result = same_item c.args.set.now c.loop-i.i b c.index-set-i.result (subst (λ n. slice_get c.args.set.now n ≡ Some b) is there) at in
          true≢false (sym (c.is_same.ensures.other (subst (λ (q : Held). q.home.s_id ≡ c.args.d.now.home.s_id) one own) (subst (λ (q : Held). seen q ≡ seen c.args.d.now) one same)) ∙ c.if-is_same.false)
    ]

pub returns-then-is_same-clause-there : goal.returns-then-is_same-clause-there
returns-then-is_same-clause-there c = λ _. subst (Has c.args.set.now) (c.is_same.ensures.same c.if-is_same.true)
    (get_has c.args.set.now c.loop-i.i c.index-set-i.result (get_at c.args.set.now c.loop-i.i c.index-set-i.result c.loop-i-test.true c.index-set-i.is))

pub returns-clause-other : goal.returns-clause-other
returns-clause-other c = λ apart has.
    let there = has_get c.args.set.now (seen c.args.d.now) has in
    let lt = there.1 in
    absurd (c.loop-i.invariant there.0 there.2 (omega (arith, lt, c.loop-i-test.false)) there.3
    (all_get (λ (b : Held). b.home.s_id ≡ c.args.d.now.home.s_id) c.args.set.now there.0 there.2 apart.own there.3) (sym there.4))
