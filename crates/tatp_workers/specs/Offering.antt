-- A call is offered to a site whose lock is held, and the outcome of that.
use Rattle.std.specs.Prelude.{◌≡◌, ◌⊎◌, Bool, true, false, Some, None}
use Rattle.tatp_calls.specs.Asked.{Fits, arities_of}
use Rattle.tatp_partition.specs.declared.item.Item.{Item}
use Rattle.tatp_partition.specs.declared.refusal.SiteRefusal.TheVariants.{Running, Stopped, NotHere, WrongHome, StampFull}
use Rattle.tatp_partition.specs.Obstacles.{begin_obstacle}
use Rattle.tatp_partition.specs.Running.{begun}
use Rattle.tatp_partition.specs.Sites.{SiteState}
use Rattle.tatp_workers.specs.declared.offers.Offered.{Offered}
use Rattle.tatp_workers.specs.declared.offers.Offered.TheVariants.{Began, Again, Away, Denied, Dropped}

-- the module takes what is asked
abbrev pub IsTaken : SiteState → Item → Type 0
IsTaken s item = Fits (arities_of s.modul) item.ask

-- a call is dropped: the module doesn't take it, or it can never begin here
abbrev pub IsDropped : SiteState → Item → Type 0
IsDropped s item =
    (IsTaken s item → ⊥)
    ⊎ (begin_obstacle s item ≡ Some WrongHome)
    ⊎ (begin_obstacle s item ≡ Some StampFull)

-- a call is to be offered again: another runs here, or the site is stopped
abbrev pub IsToWait : SiteState → Item → Type 0
IsToWait s item = (begin_obstacle s item ≡ Some Running) ⊎ (begin_obstacle s item ≡ Some Stopped)

-- the outcome of offering a call under the lock, and the site after that
abbrev pub Offers : SiteState → Item → Offered → SiteState → Type 0
Offers s item Began s' = IsTaken s item × (begin_obstacle s item ≡ None) × (s' ≡ begun s item)
Offers s item Again s' = IsTaken s item × IsToWait s item × (s' ≡ s)
Offers s item Away s' = IsTaken s item × (begin_obstacle s item ≡ Some NotHere) × (s' ≡ s)
Offers s item Denied s' = IsTaken s item × (begin_obstacle s item ≡ None) × (s' ≡ s)
Offers s item Dropped s' = IsDropped s item × (s' ≡ s)

-- the call is to be offered again
abbrev pub is_again : Offered → Bool
is_again Began = false
is_again Again = true
is_again Away = false
is_again Denied = false
is_again Dropped = false

-- the call runs
abbrev pub has_begun : Offered → Bool
has_begun Began = true
has_begun Again = false
has_begun Away = false
has_begun Denied = false
has_begun Dropped = false
