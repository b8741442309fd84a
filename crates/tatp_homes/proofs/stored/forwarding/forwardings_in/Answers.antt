use Rattle.std.proofs.Common.{rules, ◌≡◌, ◌<◌, length, slice_index_or, None, subst, arith, ◌∙◌}
use Rattle.std.proofs.lemmas.List.{get_or_default}
use Rattle.tatp_homes.proofs.StoredLaws.{AreFirst, first_set, first_all}
use Rattle.tatp_homes.proofs.stored.forwarding.forwardings_in.Goals as goal

pub loop-at-preserved : goal.loop-at-preserved
loop-at-preserved c =
    let long : length c.args.cells.now ≡ 12 = search rules in
    let more : c.loop-at.at < 12 = search rules in
    first_set None 12 c.loop-at.at (λ k. slice_index_or c.args.cells.now k None) c.loop-at.rows c.columns_in.result more c.loop-at.invariant
    (c.columns_in.ensures ∙ get_or_default c.args.cells.now c.loop-at.at c.index-cells-at.result None (omega (arith, more, long)))

pub returns : goal.returns
returns c =
    let long : length c.args.cells.now ≡ 12 = search rules in
    let all : c.loop-at.at ≡ 12 = omega (arith, c.loop-at-test.false, c.loop-at.auto.at-end) in
    first_all None 12 c.loop-at.rows c.args.cells.now (subst (λ n. AreFirst None 12 n (λ k. slice_index_or c.args.cells.now k None) c.loop-at.rows) all c.loop-at.invariant) long
