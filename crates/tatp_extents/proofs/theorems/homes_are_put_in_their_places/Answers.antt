use Rattle.tatp_extents.proofs.PlaceLaws as places
use Rattle.tatp_extents.proofs.theorems.homes_are_put_in_their_places.Goals as goal

pub returns : goal.returns
returns c = record {
  put_in = places.put_in;
  put_back = places.put_back;
  put_twice = places.put_twice;
  others = places.other_places;
  lies = places.same_subscribers;
}
