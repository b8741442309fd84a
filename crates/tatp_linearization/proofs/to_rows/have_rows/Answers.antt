use Rattle.std.proofs.Common.{◌≡◌, Some, slice_get, sym, ap, ◌∙◌, subst, true≢false, arith, inl, inr}
use Rattle.tatp_homes.specs.Home.{SubscriberRows}
use Rattle.tatp_linearization.specs.declared.configuration.Configuration.{Configuration as Held}
use Rattle.tatp_linearization.specs.Held.{seen}
use Rattle.tatp_linearization.proofs.PlaceLaws.{get_at, all_get, below_or_is, same_item}
use Rattle.tatp_linearization.proofs.CoveringLaws.{seen_stands, get_stands, stands_get}
use Rattle.tatp_linearization.proofs.to_rows.have_rows.Goals as goal

pub loop-i-preserved : goal.loop-i-preserved
loop-i-preserved c =
    let d : Held = c.index-set-i.result in
    let at : slice_get c.args.set.now c.loop-i.i ≡ Some c.index-set-i.result = get_at c.args.set.now c.loop-i.i d c.loop-i-test.true c.index-set-i.is in
    λ k b lt there own same. elim (below_or_is k c.loop-i.i lt) [
      | inl less ↦ c.loop-i.invariant k b less there own same
      | inr is ↦
          let one : b ≡ d = same_item c.args.set.now c.loop-i.i b d (subst (λ n. slice_get c.args.set.now n ≡ Some b) is there) at in
          let home : d.home ≡ c.args.rows.now = λ i. record { s_id = subst (λ (q : Held). q.home.s_id ≡ c.args.rows.now.s_id) one own i; tables = subst (λ (q : Held). q.home.tables ≡ c.args.rows.now.tables) one same i } in
          true≢false (sym (c.eq.ensures.same.1 (ap (λ (q : Held). q.home) (sym c.index-set-i.is) ∙ home)) ∙ c.if-eq.false)
    ]

pub returns-then-eq-clause-there : goal.returns-then-eq-clause-there
returns-then-eq-clause-there c = λ _.
    let d : Held = c.index-set-i.result in (
      seen d,
      get_stands c.args.set.now c.loop-i.i d (seen d) (get_at c.args.set.now c.loop-i.i d c.loop-i-test.true c.index-set-i.is) (seen_stands d),
      ap (λ (q : Held). q.home.tables) c.index-set-i.is ∙ ap (λ (h : SubscriberRows). h.tables) (c.eq.ensures.same.0 c.if-eq.true),
    )

pub returns-clause-other : goal.returns-clause-other
returns-clause-other c = λ apart d has same.
    let there = stands_get c.args.set.now d has in
    let lt = there.1 in
    absurd (c.loop-i.invariant there.0 there.2 (omega (arith, lt, c.loop-i-test.false)) there.3
    (all_get (λ (b : Held). b.home.s_id ≡ c.args.rows.now.s_id) c.args.set.now there.0 there.2 apart.own there.3) (sym there.4.rows ∙ same))
