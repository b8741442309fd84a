-- The homes that are searched.
use Rattle.std.specs.Prelude.{◌≡◌, List, length}
use Rattle.tatp_tables.specs.Database.{Database}
use Rattle.tatp_homes.specs.Home.{SubscriberRows}
use Rattle.tatp_homes.specs.Loading.{homes_in}

-- they are those of the subscribers 1 and up
abbrev pub AreHomesOf : Database → List SubscriberRows → Type 0
AreHomesOf u homes = homes ≡ homes_in u 1 (length homes)
