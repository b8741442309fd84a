use Rattle.std.proofs.Common.{◌≡◌, take}
use Rattle.tatp_linearization.specs.Clusters.{ReadsOfLocationFit}
use Rattle.tatp_linearization.proofs.clusters.reads_of_location_fit.Given as goal

abbrev pub invariant-calls : goal.invariant-calls
invariant-calls l = record {
  fit : ReadsOfLocationFit l.location l.fn.home.tables (take l.i l.opened);
  rows : l.home.tables ≡ l.fn.home.tables;
  own : l.home.s_id ≡ l.fn.home.s_id;
}
