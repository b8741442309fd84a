use Rattle.tatp_history.specs.Histories.{AreAskedApart}
use Rattle.tatp_linearization.specs.Clusters.{DropsCalls, LosesNone}
use Rattle.tatp_linearization.proofs.clusters.let_clusters_go.Given as goal

abbrev pub invariant-calls : goal.invariant-calls
invariant-calls l = record {
  gone : DropsCalls l.before.tables l.fn.opened.items l.home.tables l.opened.items;
  kept : AreAskedApart l.fn.opened.items
      → LosesNone l.ahead l.now l.fn.opened.items l.opened.items;
}
