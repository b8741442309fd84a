use Rattle.std.proofs.Common.{ℕ, ◌≡◌, ◌+◌, ◌<◌, List, Option, None, length, replicate, rules, arith, sym, ◌∙◌, ap, subst}
use Rattle.std.proofs.lemmas.List.{length-replicate}
use Rattle.tatp_tables.specs.Database.{database_of}
use Rattle.tatp_tables.specs.declared.row.Rows.{Rows}
use Rattle.tatp_extents.specs.Extents.{ExtentState}
use Rattle.tatp_extents.specs.Opening.{extent_count, opened_extents}
use Rattle.tatp_partition.specs.Opening.{AreNumbered}
use Rattle.tatp_move.specs.Routing.{opened_routes}
use Rattle.tatp_dispatch.specs.Counts.{one, total}
use Rattle.tatp_partition.specs.Dealing.{AreSitesOpened}
use Rattle.tatp_dispatch.specs.Opened.{new_client, IsOpened}
use Rattle.tatp_dispatch.specs.Serving.{IsWorld}
use Rattle.tatp_dispatch.specs.Worlds.{WorldState}
use Rattle.tatp_partition.proofs.NumberLaws.{length-opened_extents, opened_are_numbered}
use Rattle.tatp_dispatch.proofs.NewLaws.{Opens, new_world, no_parcels, is_world, is_opened, none_under_way, none_to_end}
use Rattle.tatp_dispatch.proofs.world.World.open_clean.Goals as goal

-- ---- the extents
many : (rows : Rows) (extents : List ExtentState) → extents ≡ opened_extents (database_of rows) (length rows.subscribers) → length extents ≡ extent_count (length rows.subscribers)
many rows extents is = ap length is ∙ length-opened_extents (database_of rows) (length rows.subscribers)

pub overflow_cast-len : goal.overflow_cast-len
overflow_cast-len c =
    let same : c.len.result ≡ length c.in_ok-extents.extents.items = search rules in
    let few : c.len.result < 4294967296 = omega (arith, same, many c.args.rows c.in_ok-extents.extents.items c.in_ok-extents.ensures.extents, c.requires.few) in
    search rules

pub open_sites-requires-clause-few : goal.open_sites-requires-clause-few
open_sites-requires-clause-few c = omega (arith, many c.args.rows c.in_ok-extents.extents.items c.in_ok-extents.ensures.extents, c.requires.few)

pub open_sites-requires-clause-numbers : goal.open_sites-requires-clause-numbers
open_sites-requires-clause-numbers c = subst (λ (xs : List ExtentState). AreNumbered (length xs) xs) (sym c.in_ok-extents.ensures.extents) (opened_are_numbered (database_of c.args.rows) (length c.args.rows.subscribers))

-- ---- the whole
opens : (c : goal.After-empty-2) → Opens c.args.loaded.now c.args.rows c.args.partitions c.in_ok-extents.directory c.in-Ok-open_sites.sites.items
opens c = record {
  lawful = c.module-module.ensures.lawful;
  some = c.requires.some_partitions;
  few = c.requires.few;
  clean = c.requires.clean;
  answers = c.in_ok-extents.ensures.directory;
  opened = subst (λ (xs : List ExtentState). AreSitesOpened c.args.loaded.now c.args.partitions xs c.in-Ok-open_sites.sites.items) c.in_ok-extents.ensures.extents c.in-Ok-open_sites.ensures;
}

abbrev shown_as : goal.After-empty-2 → WorldState
shown_as c = record {
  modul = c.args.loaded.now;
  directory = c.in_ok-extents.directory;
  sites = c.in-Ok-open_sites.sites.items;
  queues = c.in_ok-front.front.queues.items;
  routes = c.in_ok-front.front.routes;
  parcels = c.in-Ok.parcels;
  landings = c.new.result.items;
  clients = c.in_ok-front.front.clients.items;
  completions = c.new-2.result.entries;
  chapters = c.new-3.result.items;
}

none_held : (c : goal.After-empty-2) → c.in-Ok.parcels ≡ no_parcels (length c.args.rows.subscribers)
none_held c =
    let same : c.len.result ≡ length c.in_ok-extents.extents.items = search rules in
    c.in-Ok.ensures ∙ ap (λ (k : ℕ). replicate (k + 1) None) (same ∙ many c.args.rows c.in_ok-extents.extents.items c.in_ok-extents.ensures.extents)

same : (c : goal.After-empty-2) → new_world c.args.loaded.now (length c.args.rows.subscribers) c.args.partitions c.args.clients c.in_ok-extents.directory c.in-Ok-open_sites.sites.items ≡ shown_as c
same c =
    let n : c.len-subscribers.result ≡ length c.args.rows.subscribers = c.len-subscribers.ensures in
    let routes = c.in_ok-front.ensures.routes ∙ ap (λ (k : ℕ). opened_routes k c.args.partitions) n in
    λ i. record {
      modul = c.args.loaded.now;
      directory = c.in_ok-extents.directory;
      sites = c.in-Ok-open_sites.sites.items;
      queues = sym c.in_ok-front.ensures.queues i;
      routes = sym routes i;
      parcels = sym (none_held c) i;
      landings = sym c.new.ensures.items i;
      clients = sym c.in_ok-front.ensures.clients i;
      completions = sym c.new-2.ensures i;
      chapters = sym c.new-3.ensures.items i;
    }

world : (c : goal.After-empty-2) → IsWorld (shown_as c)
world c = subst IsWorld (same c) (is_world c.args.loaded.now c.args.rows c.args.partitions c.args.clients c.in_ok-extents.directory c.in-Ok-open_sites.sites.items (opens c))

pub invariant_of-result : goal.invariant_of-result
invariant_of-result c = record {
  world = world c;
  room = record {
    completions = omega (arith, none_to_end c.args.loaded.now c.args.partitions (opened_extents (database_of c.args.rows) (length c.args.rows.subscribers)) c.in-Ok-open_sites.sites.items (opens c).opened);
    landings = let none = ap (λ (t : List (Option ExtentState)). total (λ x. one x) t) (none_held c) ∙ none_under_way (length c.args.rows.subscribers) in omega (arith, c.new.ensures.len, none);
    clients = let count = ap length c.in_ok-front.ensures.clients ∙ length-replicate c.args.clients new_client in omega (arith, count, c.requires.few_clients);
  };
  empty = c.empty-2.ensures;
}

pub returns-clause-opened : goal.returns-clause-opened
returns-clause-opened c = subst (IsOpened c.args.loaded.now c.args.rows c.args.partitions c.args.clients) (same c) (is_opened c.args.loaded.now c.args.rows c.args.partitions c.args.clients c.in_ok-extents.directory c.in-Ok-open_sites.sites.items (opens c))

pub returns-clause-world : goal.returns-clause-world
returns-clause-world c = world c
