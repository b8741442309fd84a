use Rattle.std.proofs.Common.{refl, ◌<◌, ◌≤◌, length, sym, ◌∙◌, arith}
use Rattle.std.proofs.lemmas.List.{take_all}
use Rattle.tatp_linearization.proofs.PlaceLaws.{get_at, alike_more}
use Rattle.tatp_linearization.proofs.comparing.are_same.Goals as goal

pub loop-i-preserved : goal.loop-i-preserved
loop-i-preserved c =
    let lt : c.loop-i.i < length c.args.xs.now = c.loop-i-test.true in
    let lt' : c.loop-i.i < length c.args.ys.now = omega (arith, c.loop-i-test.true, c.loop-i.invariant.sizes) in
    record {
      sizes = c.loop-i.invariant.sizes;
      alike = alike_more c.args.xs.now c.args.ys.now c.loop-i.i c.index-xs-i.result c.index-ys-i.result
          (get_at c.args.xs.now c.loop-i.i c.index-xs-i.result lt c.index-xs-i.is) (get_at c.args.ys.now c.loop-i.i c.index-ys-i.result lt' c.index-ys-i.is)
          (c.is_same_call.ensures.0 c.if-not-is_same_call.false) c.loop-i.invariant.alike;
    }

pub returns : goal.returns
returns c =
    let all : length c.args.xs.now ≤ c.loop-i.i = c.loop-i-test.false in
    let all' : length c.args.ys.now ≤ c.loop-i.i = omega (arith, c.loop-i-test.false, c.loop-i.invariant.sizes) in (
      λ _. sym (take_all c.loop-i.i c.args.xs.now all) ∙ (c.loop-i.invariant.alike ∙ take_all c.loop-i.i c.args.ys.now all'),
      λ _. refl,
    )
