use Rattle.std.proofs.Common.{◌≡◌, Ok, refl, sym, ap, subst}
use Rattle.tatp_homes.specs.Home.{SubscriberRows}
use Rattle.tatp_calls.specs.Arguments.{arguments_accepted}
use Rattle.tatp_history.specs.declared.observed.Observed.{Observed}
use Rattle.tatp_linearization.specs.Clusters.{DropsCalls, LosesNone}
use Rattle.tatp_linearization.proofs.ClusterLaws.{go_none, go_same, go_on_to, loses_same, loses_on, loses_apart, calls_all}
use Rattle.tatp_linearization.proofs.clusters.let_clusters_go.Goals as goal
use Rattle.tatp_linearization.proofs.clusters.let_clusters_go.Goals.{then-place-len, else-place-len}

pub returns-then-ahead-now-clause-gone : goal.returns-then-ahead-now-clause-gone
returns-then-ahead-now-clause-gone c = (c.args.before.now.tables, go_none c.args.before.now.tables c.args.opened.now.items)

pub returns-then-ahead-now-clause-kept : goal.returns-then-ahead-now-clause-kept
returns-then-ahead-now-clause-kept c = λ apart. loses_same c.args.ahead.now c.args.now c.args.opened.now.items c.args.opened.now.items refl

pub calls-init : goal.calls-init
calls-init c = record {
  gone = go_same c.args.before.now.tables c.copy-home.result.tables c.args.opened.now.items c.args.opened.now.items (ap (λ (h : SubscriberRows). h.tables) c.copy-home.ensures) refl;
  kept = λ apart. loses_same c.args.ahead.now c.args.now c.args.opened.now.items c.args.opened.now.items refl;
}

pub let_go_at-requires-clause-accepted : goal.let_go_at-requires-clause-accepted
let_go_at-requires-clause-accepted c = calls_all (λ (x : Observed). arguments_accepted x.call ≡ Ok tt) c.calls.invariant.gone.many _ _ c.calls.invariant.gone.effects c.requires.accepted

pub calls-preserved : goal.calls-preserved
calls-preserved c =
    let u = c.args.before.now.tables in
    let xs = c.args.opened.now.items in
    let ys = c.calls.opened.items in
    elim c.if-place-len.branch [
      | then-place-len w ↦ record {
        gone = subst (λ (h : SubscriberRows). DropsCalls c.args.before.now.tables c.args.opened.now.items h.tables c.if-place-len.opened.items) (sym w.home-is)
            (subst (λ v. DropsCalls c.args.before.now.tables c.args.opened.now.items w.let_go_at.new.home.tables v.items) (sym w.opened-is)
            (go_on_to u c.calls.home.tables w.let_go_at.new.home.tables xs ys w.let_go_at.new.opened.items c.calls.invariant.gone w.let_go_at.ensures.gone));
        kept = λ apart.
            let before = c.calls.invariant.kept apart in
            subst (λ v. LosesNone c.args.ahead.now c.args.now c.args.opened.now.items v.items) (sym w.opened-is)
            (loses_on c.args.ahead.now c.args.now xs ys w.let_go_at.new.opened.items before (w.let_go_at.ensures.kept (loses_apart c.args.ahead.now c.args.now xs ys before apart)));
      }
      | else-place-len w ↦ record {
        gone = subst (λ (h : SubscriberRows). DropsCalls c.args.before.now.tables c.args.opened.now.items h.tables c.if-place-len.opened.items) (sym w.home-is)
            (subst (λ v. DropsCalls c.args.before.now.tables c.args.opened.now.items c.calls.home.tables v.items) (sym w.opened-is) c.calls.invariant.gone);
        kept = λ apart. subst (λ v. LosesNone c.args.ahead.now c.args.now c.args.opened.now.items v.items) (sym w.opened-is) (c.calls.invariant.kept apart);
      }
    ]
