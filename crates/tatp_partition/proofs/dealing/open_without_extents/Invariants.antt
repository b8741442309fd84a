use Rattle.std.proofs.Common.{◌≡◌, ◌≤◌, length, vec_capacity}
use Rattle.tatp_partition.proofs.OpenedSitesLaws.{AreOpened}
use Rattle.tatp_partition.proofs.dealing.open_without_extents.Given as goal

abbrev pub invariant-loop-partition : goal.invariant-loop-partition
invariant-loop-partition l = record {
  made : length l.sites.items ≡ l.partition;
  each : AreOpened l.loaded l.partitions l.count l.sites.items;
  room : l.partitions ≤ vec_capacity l.sites;
}
