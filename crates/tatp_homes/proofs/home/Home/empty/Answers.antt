use Rattle.tatp_homes.proofs.ChangeLaws.{IsHome-none}
use Rattle.tatp_homes.proofs.home.Home.empty.Goals as goal

pub invariant_of-result : goal.invariant_of-result
invariant_of-result c = record { subscriber_place = tt; access_places = tt; facility_places = tt; forwarding_places = tt; home = IsHome-none c.args.s_id }
