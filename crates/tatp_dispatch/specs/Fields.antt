-- How the fields of the system show it, and what holds of them.
use Rattle.std.specs.Prelude.{◌≡◌, ℕ, ◌+◌, ◌≤◌, List, Option, length, vec_len, None}
use Rattle.std.specs.Vec.{vec_capacity}
use Rattle.tatp_limits.specs.declared.limits.TheConstants.{MAX_CLIENTS}
use Rattle.tatp_extents.specs.Extents.{ExtentState}
use Rattle.tatp_partition.specs.Sites.{SiteState}
use Rattle.tatp_dispatch.specs.declared.world.World.TheInside.{Inside}
use Rattle.tatp_dispatch.specs.Worlds.{WorldState}
use Rattle.tatp_dispatch.specs.Counts.{one, total}
use Rattle.tatp_dispatch.specs.Serving.{IsWorld}

abbrev pub world_of : Inside → WorldState
world_of a = record {
  modul = a.loaded.now;
  directory = a.directory;
  sites = a.sites.items;
  queues = a.queues.items;
  routes = a.routes;
  parcels = a.parcels;
  landings = a.landings.items;
  clients = a.clients.items;
  completions = a.completions.entries;
  chapters = a.chapters.items;
}

-- how many calls run at these sites
abbrev pub running_count : List SiteState → ℕ
running_count sites = total (λ (s : SiteState). one s.running) sites

-- how many of these places have a parcel
abbrev pub parcel_count : List (Option ExtentState) → ℕ
parcel_count parcels = total (λ x. one x) parcels

-- memory is reserved for the completion of each running call, for the landing of each parcel in
-- hand, and in each queue for a call of each client
pub record HasRoom (a : Inside) : Type 0 where
  pub completions : running_count a.sites.items ≤ a.completions.room
  pub landings : vec_len a.landings + parcel_count a.parcels ≤ vec_capacity a.landings
  pub clients : length a.clients.items ≤ MAX_CLIENTS

pub record IsSound (a : Inside) : Type 0 where
  pub world : IsWorld (world_of a)
  pub room : HasRoom a
  pub empty : a.buffer ≡ None
