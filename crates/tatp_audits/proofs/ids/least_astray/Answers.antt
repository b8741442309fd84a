use Rattle.std.proofs.Common.{refl, arith, ◌≡◌, [], ◌∷◌, ◌+◌}
use Rattle.tatp_tables.specs.Clean.{count_of_key}
use Rattle.tatp_audits.proofs.KeyCounts.{key_counted}
use Rattle.tatp_audits.proofs.Astray.{first_astray, one_more, none_astray}
use Rattle.tatp_audits.proofs.ids.least_astray.Goals as goal

pub returns-then-times_of-ne1 : goal.returns-then-times_of-ne1
returns-then-times_of-ne1 g c =
    let e : c.times_of.result ≡ count_of_key ((c.loop-before.before + 1) ∷ []) c.args.rows.now = key_counted 1 c.args.rows.now _ _ _ ((c.loop-before.before + 1) ∷ []) _ c.in_ok-keys.ensures.moved refl c.deref.ensures.value refl c.times_of.ensures in
    first_astray c.args.rows.now c.loop-before.before c.times_of.result (omega arith) e c.if-times_of-ne1.true c.loop-before.invariant

pub loop-before-preserved : goal.loop-before-preserved
loop-before-preserved g c =
    let e : c.times_of.result ≡ count_of_key ((c.loop-before.before + 1) ∷ []) c.args.rows.now = key_counted 1 c.args.rows.now _ _ _ ((c.loop-before.before + 1) ∷ []) _ c.in_ok-keys.ensures.moved refl c.deref.ensures.value refl c.times_of.ensures in
    one_more c.args.rows.now c.loop-before.before c.times_of.result e c.if-times_of-ne1.false c.loop-before.invariant

pub returns : goal.returns
returns g c = none_astray c.args.rows.now c.loop-before.before (omega arith) (omega arith) c.loop-before.invariant
