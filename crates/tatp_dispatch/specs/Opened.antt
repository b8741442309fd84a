-- trusted: read it
-- A system that was just opened.
use Rattle.std.specs.Prelude.{◌≡◌, ℕ, ◌+◌, false, List, [], length, replicate, None}
use Rattle.tatp_encoding.specs.Modules.{ModuleState}
use Rattle.tatp_tables.specs.Database.{Database, database_of}
use Rattle.tatp_tables.specs.declared.row.Rows.{Rows}
use Rattle.tatp_extents.specs.Extents.{ExtentState}
use Rattle.tatp_extents.specs.Opening.{opened_extents, extent_count}
use Rattle.tatp_partition.specs.Dealing.{AreSitesOpened}
use Rattle.tatp_move.specs.Routing.{opened_routes}
use Rattle.tatp_dispatch.specs.declared.client.Client.{Client}
use Rattle.tatp_dispatch.specs.Plain.{PlainWorld}
use Rattle.tatp_dispatch.specs.Shown.{shown, set_back}
use Rattle.tatp_dispatch.specs.Worlds.{WorldState}

-- the plain world with this database in which no call runs and none was completed
abbrev pub at_rest : Database → PlainWorld
at_rest u = record { database = u; calls = λ client. None; completions = [] }

-- a client that has asked nothing
abbrev pub new_client : Client
new_client = record { accepted = 0; refused = 0; is_busy = false; seen = 0 }

-- the extents of these rows
abbrev pub extents_of : Rows → List ExtentState
extents_of rows = opened_extents (database_of rows) (length rows.subscribers)

-- a system that was just opened with these rows, and these numbers of partitions and clients:
-- its database is that of the rows, no call runs or waits, none was completed, and each extent
-- is where its route says
pub record IsOpened (modul : ModuleState) (rows : Rows) (partitions client_count : ℕ)
    (w : WorldState) : Type 0 where
  pub runs : w.modul ≡ modul
  pub shows : shown w ≡ at_rest (database_of rows)
  pub back : set_back w ≡ database_of rows
  pub sites : AreSitesOpened modul partitions (extents_of rows) w.sites
  pub routes : w.routes ≡ opened_routes (length rows.subscribers) partitions
  pub queues : w.queues ≡ replicate partitions []
  pub clients : w.clients ≡ replicate client_count new_client
  pub parcels : w.parcels ≡ replicate (extent_count (length rows.subscribers) + 1) None
  pub landings : w.landings ≡ []
  pub chapters : w.chapters ≡ []
