use Rattle.tatp_dispatch.proofs.HandLaws.{parcels_stay, landings_stay}
use Rattle.tatp_dispatch.proofs.theorems.what_is_in_hand_stays.Goals as goal

pub returns : goal.returns
returns c = record { parcels = parcels_stay; landings = landings_stay }
