use Rattle.tatp_extents.proofs.PlaceLaws.{some_home, its_own, one_extent}
use Rattle.tatp_extents.proofs.theorems.homes_stand_in_their_places.Goals as goal

pub returns : goal.returns
returns c = record { some = some_home; own = its_own; extent = one_extent }
