-- Routes: at which site an extent was last known to have landed, and after how many moves.
use Rattle.std.specs.Prelude.{◌≡◌, ℕ, ◌+◌, ◌<◌, ◌≤◌, ◌&&◌, nat_le, if◌then◌else◌, List, Option, Some, None, map, slice_get, slice_set}
use Rattle.std.specs.List.{range_with_len}
use Rattle.tatp_extents.specs.Opening.{extent_count}
use Rattle.std.specs.Option.{option_map_or}
use Rattle.tatp_extents.specs.Extents.{extent_of}
use Rattle.tatp_partition.specs.Dealing.{opening_partition}
use Rattle.tatp_partition.specs.Moving.{LandedState}
use Rattle.tatp_move.specs.declared.route.Route.{Route}
use Rattle.tatp_move.specs.declared.route.RouteUpdate.{RouteUpdate}
use Rattle.tatp_move.specs.declared.route.RouteUpdate.TheVariants.{Set, Superseded}

-- how many subscribers and partitions there are, and the route at each extent's number; at 0, which
-- is no extent's, is partition 0
pub record RoutesState : Type 0 where
  pub subscribers : ℕ
  pub partitions : ℕ
  pub routes : List Route

-- the route to an extent that was just opened, with this number of partitions
abbrev pub opening_route : ℕ → ℕ → Route
opening_route partitions e = record { partition = opening_partition partitions e; moves = 0 }

-- the routes to extents just opened, with these numbers of subscribers and of partitions
abbrev pub opened_routes : ℕ → ℕ → RoutesState
opened_routes subscribers partitions = record {
  subscribers = subscribers;
  partitions = partitions;
  routes = map (opening_route partitions) (range_with_len 0 (extent_count subscribers + 1));
}

-- the partition of the route to an extent
abbrev pub partition_at : RoutesState → ℕ → ℕ
partition_at r e = option_map_or (λ (route : Route). route.partition) (slice_get r.routes e) 0

-- the partition to which calls on a home go: 0 without a home, and for one that is no subscriber's
abbrev pub route_of : RoutesState → Option ℕ → ℕ
route_of r None = 0
route_of r (Some h) =
    if nat_le 1 h && nat_le h r.subscribers then partition_at r (extent_of h) else 0

-- the route that a landing makes
abbrev pub landing_route : LandedState → Route
landing_route landed = record { partition = landed.site; moves = landed.moves }

-- what a landing makes of the routes: it is set where it is of more moves than the route, and
-- superseded otherwise
abbrev pub UpdatesRoute : RoutesState → LandedState → RouteUpdate → RoutesState → Type 0
UpdatesRoute r landed Set r' =
    (route : Route)
    × (slice_get r.routes landed.number ≡ Some route)
    × (route.moves < landed.moves)
    × (r' ≡ record r { routes = slice_set r.routes landed.number (landing_route landed) })
UpdatesRoute r landed Superseded r' =
    ((route : Route) → slice_get r.routes landed.number ≡ Some route → landed.moves ≤ route.moves)
    × (r' ≡ r)
