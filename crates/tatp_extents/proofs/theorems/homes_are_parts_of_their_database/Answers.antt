use Rattle.tatp_extents.proofs.HomeRowsLaws.{has_homes, any_order, one_home, replaced_home}
use Rattle.tatp_extents.proofs.theorems.homes_are_parts_of_their_database.Goals as goal

pub returns : goal.returns
returns c = record { rows = has_homes; order = any_order; part = one_home; replaced = replaced_home }
