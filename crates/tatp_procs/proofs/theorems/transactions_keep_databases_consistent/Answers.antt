use Rattle.tatp_procs.proofs.ConsistentAfterLaws.{consistent_after, keys_after}
use Rattle.tatp_procs.proofs.theorems.transactions_keep_databases_consistent.Goals as goal

pub returns : goal.returns
returns c = record { consistent = consistent_after; keys = keys_after }
