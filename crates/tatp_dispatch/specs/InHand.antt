-- What is in hand: parcels until they land, and landings until they are routed.
use Rattle.std.specs.Prelude.{◌≡◌, ◌≢◌, ◌⊎◌, ℕ, Some, None, Ok, slice_get}
use Rattle.tatp_extents.specs.Extents.{ExtentState}
use Rattle.tatp_partition.specs.Moving.{LandedState}
use Rattle.tatp_partition.specs.Sites.{SiteState, slot}
use Rattle.tatp_move.specs.declared.route.Route.{Route}
use Rattle.tatp_events.specs.declared.event.Event.{Event}
use Rattle.tatp_events.specs.declared.event.Event.TheVariants.{Give, Route as Tell}
use Rattle.tatp_events.specs.declared.event.Answer.TheVariants.{Landed, Set, Superseded}
use Rattle.tatp_events.specs.Answers.{Answered}
use Rattle.tatp_dispatch.specs.Worlds.{WorldState}

-- this parcel of extent e is in hand, and this landing is
abbrev pub HoldsParcel : WorldState → ℕ → ExtentState → Type 0
HoldsParcel w e parcel = slot w.parcels e ≡ Some parcel

abbrev pub HoldsLanding : WorldState → LandedState → Type 0
HoldsLanding w landed = (i : ℕ) × (slice_get w.landings i ≡ Some landed)

-- ---- how they leave
-- the parcel of extent e was given to a site, and landed after its own number of moves
abbrev pub HasLanded : Event → Answered → ℕ → ExtentState → Type 0
HasLanded event answered e parcel =
    (p : ℕ) × (event ≡ Give p e) × (answered ≡ Ok (Landed e parcel.moves))

-- the landing was handed to the routes, and a route was set by it or not
abbrev pub WasTold : Event → Answered → LandedState → Type 0
WasTold event answered landed =
    (event ≡ Tell landed.number landed.moves)
    × ((answered ≡ Ok (Set landed.number landed.site))
    ⊎ (answered ≡ Ok (Superseded landed.number)))

-- ---- where nothing is in hand
-- neither a parcel nor a landing of extent e is in hand
pub record NoneInHand (w : WorldState) (e : ℕ) : Type 0 where
  pub parcel : slot w.parcels e ≡ None
  pub landing : (landed : LandedState) → HoldsLanding w landed → landed.number ≢ e

-- the route of extent e names the partition at whose site it is
pub record NamesTheHolder (w : WorldState) (e : ℕ) : Type 0 where
  pub route : Route
  pub site : SiteState
  pub extent : ExtentState
  pub routed : slice_get w.routes.routes e ≡ Some route
  pub holder : slice_get w.sites route.partition ≡ Some site
  pub stands : slot site.slots e ≡ Some extent
