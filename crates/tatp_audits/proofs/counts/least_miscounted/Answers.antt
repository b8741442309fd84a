use Rattle.std.proofs.Common.{refl, sym, ◌∙◌, ap, arith, subst, take, ◌+◌, ◌≡◌, Option}
use Rattle.tatp_lines.specs.Numbers.{is_between}
use Rattle.tatp_tables.specs.Tuples.{Tuple}
use Rattle.tatp_tables.specs.Clean.{count_of_key}
use Rattle.tatp_audits.specs.Failing.{Finds, is_wrong}
use Rattle.tatp_audits.proofs.KeyCounts.{front_counted}
use Rattle.tatp_audits.proofs.Scan.{scan_right, scan_wrong}
use Rattle.tatp_audits.proofs.counts.least_miscounted.Goals as goal
use Rattle.tatp_audits.proofs.counts.least_miscounted.Goals.{then-not-is_within, else-not-is_within}

pub loop-row-preserved : goal.loop-row-preserved
loop-row-preserved g c =
    let right = λ (row : Tuple). is_between c.args.least c.args.most (count_of_key (take g.row.P row) c.args.below.now) in
    let finds = λ (best : Option Tuple). Finds (is_wrong right (take 1) (take (c.loop-row.row-index + 1) c.args.rows.now)) best in
    let e : c.times_of.result ≡ count_of_key (take g.row.P c.row-item.result) c.args.below.now = front_counted g.row.P c.args.below.now _ _ _ _ c.row-item.result _ c.in_ok-keys.ensures.moved refl c.deref.ensures.value c.front.ensures.length c.front.ensures.front c.times_of.ensures in
    let here = sym (c.is_within.ensures ∙ ap (is_between c.args.least c.args.most) e) in
    elim c.if-not-is_within.branch [
      | then-not-is_within w ↦ subst finds (sym w.best-is) (scan_wrong right (take 1) c.args.rows.now c.loop-row.row-index c.row-item.result c.loop-row.best _ (omega arith) c.row-item.is
          (here ∙ w.if-not-is_within.true) w.front-then-not-is_within.result w.front-then-not-is_within.ensures.front w.keep_least-best.ensures.least c.loop-row.invariant)
      | else-not-is_within w ↦ subst finds (sym w.best-is) (scan_right right (take 1) c.args.rows.now c.loop-row.row-index c.row-item.result c.loop-row.best (omega arith) c.row-item.is
          (here ∙ w.if-not-is_within.false) c.loop-row.invariant)
    ]
