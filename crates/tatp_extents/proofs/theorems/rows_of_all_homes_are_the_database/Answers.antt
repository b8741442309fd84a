use Rattle.tatp_extents.proofs.HomeRowsLaws.{rows_are_the_database}
use Rattle.tatp_extents.proofs.CleanRowsLaws.{rows_of_clean}
use Rattle.tatp_extents.proofs.theorems.rows_of_all_homes_are_the_database.Goals as goal

pub returns : goal.returns
returns c = record { database = rows_are_the_database; clean = rows_of_clean }
