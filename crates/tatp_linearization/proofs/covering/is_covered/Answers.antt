use Rattle.std.proofs.Common.{◌≡◌, ◌≤◌, Some, slice_get, subst, arith, inl, inr}
use Rattle.tatp_linearization.specs.declared.configuration.Configuration.{Configuration as Held}
use Rattle.tatp_linearization.specs.Held.{seen}
use Rattle.tatp_linearization.proofs.PlaceLaws.{get_at, below_or_is, same_item}
use Rattle.tatp_linearization.proofs.CoveringLaws.{get_stands, held_inside}
use Rattle.tatp_linearization.proofs.covering.is_covered.Goals as goal

pub loop-i-preserved : goal.loop-i-preserved
loop-i-preserved c =
    let one : Held = c.index-set-i.result in
    let at : slice_get c.args.set.now c.loop-i.i ≡ Some c.index-set-i.result = get_at c.args.set.now c.loop-i.i c.index-set-i.result c.loop-i-test.true c.index-set-i.is in
    λ k b lt there own same less. elim (below_or_is k c.loop-i.i lt) [
      | inl before ↦ c.loop-i.invariant k b before there own same less
      | inr is ↦
          let e : b ≡ c.index-set-i.result = same_item c.args.set.now c.loop-i.i b c.index-set-i.result (subst (λ n. slice_get c.args.set.now n ≡ Some b) is there) at in
          c.covers.ensures.other c.location_of.ensures c.location_of-location.ensures c.if-covers.false (subst (λ (q : Held). q.home.s_id ≡ c.args.d.now.home.s_id) e own) (subst (λ (q : Held). seen q ≡ seen c.args.d.now) e same)
          (subst (λ (q : Held). c.args.d.now.overwritten ≤ q.overwritten) e less)
    ]

pub returns-then-covers-clause-covered : goal.returns-then-covers-clause-covered
returns-then-covers-clause-covered c =
    let at : slice_get c.args.set.now c.loop-i.i ≡ Some c.index-set-i.result = get_at c.args.set.now c.loop-i.i c.index-set-i.result c.loop-i-test.true c.index-set-i.is in
    λ _ e h. get_stands c.args.set.now c.loop-i.i c.index-set-i.result e at (c.covers.ensures.covers c.if-covers.true e h)

pub returns-clause-other : goal.returns-clause-other
returns-clause-other c = λ k b at own same less.
    let lt = held_inside c.args.set.now k b at in
    absurd (c.loop-i.invariant k b (omega (arith, lt, c.loop-i-test.false)) at own same less)
