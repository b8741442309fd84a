use Rattle.tatp_procs.proofs.ConsistentLaws.{IsConsistent-clean, IsConsistent-home}
use Rattle.tatp_procs.proofs.theorems.clean_rows_and_homes_are_consistent.Goals as goal

pub returns : goal.returns
returns c = record { rows = IsConsistent-clean; homes = IsConsistent-home }
