use Rattle.tatp_partition.proofs.NumberLaws.{opened_are_numbered}
use Rattle.tatp_partition.proofs.dealing.opened_extents_are_numbered.Goals as goal

pub returns : goal.returns
returns c = opened_are_numbered
