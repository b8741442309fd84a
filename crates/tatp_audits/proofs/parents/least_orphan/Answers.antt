use Rattle.std.proofs.Common.{refl, sym, arith, subst, take, ◌+◌, ◌≡◌, Option}
use Rattle.std.specs.Prelude.{nat_le}
use Rattle.tatp_tables.specs.Tuples.{Tuple}
use Rattle.tatp_tables.specs.Clean.{count_of_key}
use Rattle.tatp_audits.specs.Failing.{Finds, is_wrong}
use Rattle.tatp_audits.proofs.KeyCounts.{front_counted, none_stands, one_stands}
use Rattle.tatp_audits.proofs.Scan.{scan_right, scan_wrong}
use Rattle.tatp_audits.proofs.parents.least_orphan.Goals as goal
use Rattle.tatp_audits.proofs.parents.least_orphan.Goals.{then-times_of-eq0, else-times_of-eq0}

pub loop-row-preserved : goal.loop-row-preserved
loop-row-preserved g c =
    let right = λ (row : Tuple). nat_le 1 (count_of_key (take g.row.P row) c.args.parents.now) in
    let finds = λ (best : Option Tuple). Finds (is_wrong right (take g.row.N) (take (c.loop-row.row-index + 1) c.args.rows.now)) best in
    let e : c.times_of.result ≡ count_of_key (take g.row.P c.row-item.result) c.args.parents.now = front_counted g.row.P c.args.parents.now _ _ _ _ c.row-item.result _ c.in_ok-keys.ensures.moved refl c.deref.ensures.value c.front.ensures.length c.front.ensures.front c.times_of.ensures in
    elim c.if-times_of-eq0.branch [
      | then-times_of-eq0 w ↦ subst finds (sym w.best-is) (scan_wrong right (take g.row.N) c.args.rows.now c.loop-row.row-index c.row-item.result c.loop-row.best _ (omega arith) c.row-item.is
          (none_stands _ _ e w.if-times_of-eq0.true) w.front-then-times_of-eq0.result w.front-then-times_of-eq0.ensures.front w.keep_least-best.ensures.least c.loop-row.invariant)
      | else-times_of-eq0 w ↦ subst finds (sym w.best-is) (scan_right right (take g.row.N) c.args.rows.now c.loop-row.row-index c.row-item.result c.loop-row.best (omega arith) c.row-item.is
          (one_stands _ _ e w.if-times_of-eq0.false) c.loop-row.invariant)
    ]
