use Rattle.std.proofs.Common.{◌≡◌, ◌≤◌, length, take, Some, slice_get, vec_len, sym, ap, ◌∙◌, subst, arith}
use Rattle.std.specs.List.{AllByRecursion}
use Rattle.std.proofs.lemmas.List.{take_all}
use Rattle.tatp_history.proofs.OrderLaws.{all_map}
use Rattle.tatp_linearization.specs.declared.configuration.Configuration.{Configuration as Held}
use Rattle.tatp_linearization.proofs.PlaceLaws.{get_at, all_more, take_more}
use Rattle.tatp_linearization.proofs.to_rows.most_open.Goals as goal
use Rattle.tatp_linearization.proofs.to_rows.most_open.Goals.{then-open-most, else-open-most}

pub loop-i-preserved : goal.loop-i-preserved
loop-i-preserved c =
    let d : Held = c.index-set-i.result in
    let set = c.args.set.now in
    let i = c.loop-i.i in
    let most = c.if-open-most.most in
    let at : slice_get c.args.set.now c.loop-i.i ≡ Some d = get_at c.args.set.now c.loop-i.i d c.loop-i-test.true c.index-set-i.is in
    let size : c.len-open.result ≡ length d.opened.items = c.len-open.ensures ∙ (ap (λ (q : Held). vec_len q.opened) (sym c.index-set-i.is) ∙ d.opened.ok.0) in
    let both : (c.loop-i.most ≤ c.if-open-most.most) × (c.len-open.result ≤ c.if-open-most.most) = elim c.if-open-most.branch [
      | then-open-most w ↦ (omega (arith, w.if-open-most.true, w.most-is), omega (arith, w.most-is))
      | else-open-most w ↦ (omega (arith, w.most-is), omega (arith, w.if-open-most.false, w.most-is))
    ] in
    let before = both.0 in
    let own = both.1 in
    subst (AllByRecursion (λ (b : Held). length b.opened.items ≤ most)) (sym (take_more set i d at))
    (all_more (λ (b : Held). length b.opened.items ≤ most) (take i set) d
    (all_map (λ (b : Held). length b.opened.items ≤ c.loop-i.most) (λ (b : Held). length b.opened.items ≤ most) (λ b le. omega (arith, le, before)) (take i set) c.loop-i.invariant)
    (omega (arith, own, size)))

pub returns : goal.returns
returns c = subst (AllByRecursion (λ (b : Held). length b.opened.items ≤ c.loop-i.most)) (take_all c.loop-i.i c.args.set.now c.loop-i-test.false) c.loop-i.invariant
