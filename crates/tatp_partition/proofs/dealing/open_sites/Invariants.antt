use Rattle.std.proofs.Common.{vec_len}
use Rattle.tatp_partition.proofs.DealLaws.{AreBeingDealt}
use Rattle.tatp_partition.proofs.dealing.open_sites.Given as goal

abbrev pub invariant-loop-extent : goal.invariant-loop-extent
invariant-loop-extent l = AreBeingDealt l.loaded l.partitions l.fn.extents.items l.rest.items l.sites.items

abbrev pub decreases-loop-extent : goal.decreases-loop-extent
decreases-loop-extent l = vec_len l.rest
