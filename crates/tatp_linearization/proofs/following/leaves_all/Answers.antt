use Rattle.std.proofs.Common.{◌≡◌, ◌↔◌, Some, slice_get, refl, sym, subst, arith, inl, inr}
use Rattle.tatp_history.specs.Configurations.{Configuration}
use Rattle.tatp_linearization.specs.declared.configuration.Configuration.{Configuration as Held}
use Rattle.tatp_linearization.specs.AtOnce.{FollowsAtOnce}
use Rattle.tatp_linearization.specs.Covering.{StandsFor}
use Rattle.tatp_linearization.specs.Going.{LeadsOn}
use Rattle.tatp_linearization.proofs.PlaceLaws.{get_at, below_or_is, same_item}
use Rattle.tatp_linearization.proofs.CoveringLaws.{stands_get}
use Rattle.tatp_linearization.proofs.GoingLaws.{event_on}
use Rattle.tatp_linearization.proofs.GatheringLaws.{follows_may}
use Rattle.tatp_linearization.proofs.following.leaves_all.Goals as goal

pub loop-i-preserved : goal.loop-i-preserved
loop-i-preserved c =
    let own : Held = c.index-set-i.result in
    let at : slice_get c.args.set.now c.loop-i.i ≡ Some c.index-set-i.result = get_at c.args.set.now c.loop-i.i own c.loop-i-test.true c.index-set-i.is in
    λ k b lt there. elim (below_or_is k c.loop-i.i lt) [
      | inl less ↦ c.loop-i.invariant k b less there
      | inr is ↦
          let one : b ≡ own = same_item c.args.set.now c.loop-i.i b own (subst (λ n. slice_get c.args.set.now n ≡ Some b) is there) at in
          subst (λ (q : Held). (d : Configuration) → StandsFor q d → (e : Configuration) → (e ≡ d) ↔ FollowsAtOnce c.args.event.now d e) (sym one) (c.leaves.ensures c.if-not-leaves.false)
    ]

pub returns : goal.returns
returns c = λ _ ahead. record {
  sound = λ d h.
      let there = stands_get c.args.set.now d h in
      let lt = there.1 in
      let law = c.loop-i.invariant there.0 there.2 (omega (arith, lt, c.loop-i-test.false)) there.3 d there.4 d in
      (d, h, follows_may c.args.event.now d d (law.0 refl));
  found = λ apart later to rest known one.
      let there = stands_get c.args.set.now one.0 one.1 in
      let lt = there.1 in
      let next = event_on to c.args.event.now rest one.0 one.2 in
      let same : next.0 ≡ one.0 = (c.loop-i.invariant there.0 there.2 (omega (arith, lt, c.loop-i-test.false)) there.3 one.0 there.4 next.0).1 next.1 in
      (one.0, one.1, subst (LeadsOn to rest) same next.2);
}
