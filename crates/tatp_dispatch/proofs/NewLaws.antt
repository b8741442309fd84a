-- The whole that was just opened with clean rows is a whole, and shows their database.
use Rattle.std.proofs.Common.{◌≡◌, ◌≢◌, ℕ, zero, suc, ◌+◌, ◌-◌, ◌<◌, ◌≤◌, ◌==◌, ◌&&◌, if◌then◌else◌, Bool, true, false, List, [], ◌∷◌, length, replicate, Option, Some, None, slice_get, slice_index, refl, sym, ◌∙◌, ap, subst, inl, inr, arith}
use Rattle.std.specs.List.{list_any, range_with_len}
use Rattle.std.specs.Option.{option_flatten, option_map_or, option_and_then}
use Rattle.std.proofs.lemmas.Bool.{and_parts, eqb-true, eq-eqb}
use Rattle.std.proofs.lemmas.List.{length-replicate, length-map}
use Rattle.std.proofs.lemmas.List.FromFn.{length-range_with_len}
use Rattle.tatp_limits.specs.declared.limits.TheConstants.{MAX_SUBSCRIBERS}
use Rattle.tatp_encoding.specs.Modules.{ModuleState}
use Rattle.tatp_loader.specs.Lawful.{IsLawful}
use Rattle.tatp_tables.specs.Tuples.{Tuple, has, set_of}
use Rattle.tatp_tables.specs.Keys.{has_key}
use Rattle.tatp_tables.specs.Clean.{IsClean}
use Rattle.tatp_tables.specs.Database.{Database, database_of, in_table, of_subscriber}
use Rattle.tatp_homes.specs.Home.{SubscriberRows, home_in as home_in_database}
use Rattle.tatp_tables.specs.declared.row.Rows.{Rows}
use Rattle.tatp_tables.specs.declared.table.Table.{Table}
use Rattle.tatp_homes.proofs.SubscriberLaws.{has-rows_with_s_id, in_table-of_subscriber}
use Rattle.tatp_numbers.specs.declared.key.Key.{Key}
use Rattle.tatp_numbers.specs.Homes.{home_of_key}
use Rattle.tatp_numbers.specs.Listing.{Listing, answer}
use Rattle.tatp_procs.specs.Consistent.{IsConsistent}
use Rattle.tatp_procs.proofs.ConsistentLaws.{IsConsistent-clean}
use Rattle.tatp_extents.specs.Extents.{ExtentState, first_subscriber, extent_of, home_at}
use Rattle.tatp_extents.specs.Opening.{extent_count, last_subscriber, homes_of_extent, opened_extent, opened_extents}
use Rattle.tatp_extents.proofs.CleanRowsLaws.{rows_of_clean}
use Rattle.tatp_partition.specs.declared.item.Item.{Item}
use Rattle.tatp_partition.specs.Opening.{extent_numbered}
use Rattle.tatp_partition.specs.Sites.{SiteState, RunningCall, slot}
use Rattle.tatp_partition.proofs.OpenLaws.{range_get, range_past}
use Rattle.tatp_move.specs.Routing.{opened_routes}
use Rattle.tatp_move.specs.declared.route.Route.{Route}
use Rattle.tatp_dispatch.specs.Counts.{one, one_if, total}
use Rattle.tatp_dispatch.specs.Gathered.{gathered}
use Rattle.tatp_partition.specs.Dealing.{AreSitesOpened, opening_partition}
use Rattle.tatp_dispatch.specs.Opened.{new_client, IsOpened}
use Rattle.tatp_dispatch.specs.Placed.{extent_at, AreExtentsPlaced, WaitsIn, RunsIn, is_call_of, times_waiting, times_queued, times_running, IsClientInOrder, AreClientsInOrder}
use Rattle.tatp_dispatch.specs.Populated.{IsPopulated}
use Rattle.tatp_dispatch.specs.Routed.{extent_in, moves_of, stands_at, AreRoutesRight, NamePartitions}
use Rattle.tatp_dispatch.specs.Serving.{IsWorld}
use Rattle.tatp_dispatch.specs.Shown.{set_back}
use Rattle.tatp_dispatch.specs.Worlds.{WorldState}
use Rattle.tatp_dispatch.proofs.CleanLaws.{clean_populated}
use Rattle.tatp_dispatch.proofs.CollectLaws.{Collects, has_row, both_ways, first_is, collected_same}
use Rattle.tatp_dispatch.proofs.CountLaws.{total_none}
use Rattle.tatp_dispatch.proofs.IdleLaws.{NoneRuns, none_shown, none_set_back}
use Rattle.tatp_dispatch.proofs.GatherLaws.{gathered_is, any_at}
use Rattle.tatp_partition.proofs.NumberLaws.{length-opened_extents}
use Rattle.tatp_dispatch.proofs.OpenLaws.{its_extent, IsNumberOf, numbers_of, whole_extent, site_place, site_places, stands_dealt}
use Rattle.tatp_dispatch.proofs.PlaceLaws.{extent_found, extent_at_site, home_in, home_at_place, home_at_index, slot_has}
use Rattle.tatp_dispatch.proofs.SlotLaws.{stands_here}

-- ---- what holds of what is opened
pub record Opens (modul : ModuleState) (rows : Rows) (partitions : ℕ) (directory : Listing) (sites : List SiteState) : Type 0 where
  pub lawful : IsLawful modul
  pub some : 1 ≤ partitions
  pub few : length rows.subscribers ≤ MAX_SUBSCRIBERS
  pub clean : IsClean rows
  pub answers : (key : Key) → answer directory key ≡ home_of_key (set_of rows.subscribers) key
  pub opened : AreSitesOpened modul partitions (opened_extents (database_of rows) (length rows.subscribers)) sites

abbrev pub no_parcels : ℕ → List (Option ExtentState)
no_parcels n = replicate (extent_count n + 1) None

abbrev pub new_world : ModuleState → ℕ → ℕ → ℕ → Listing → List SiteState → WorldState
new_world modul n partitions client_count directory sites = record {
  modul = modul;
  directory = directory;
  sites = sites;
  queues = replicate partitions [];
  routes = opened_routes n partitions;
  parcels = no_parcels n;
  landings = [];
  clients = replicate client_count new_client;
  completions = [];
  chapters = [];
}

-- ---- lists of one thing
got_replicated : {A : Type 0} (m i : ℕ) (a x : A) → slice_get (replicate m a) i ≡ Some x → a ≡ x
got_replicated zero i a x is = absurd cc
got_replicated (suc m) zero a x is = cc
got_replicated (suc m) (suc i) a x is = got_replicated m i a x is

none_in : (m e : ℕ) → slot (replicate m None) e ≡ None
none_in zero e = refl
none_in (suc m) zero = refl
none_in (suc m) (suc e) = none_in m e

not_held : (m e : ℕ) (x : ExtentState) → slice_get (replicate m None) e ≡ Some (Some x) → ⊥
not_held m e x is = let f : None ≡ Some x = sym (none_in m e) ∙ ap option_flatten is in absurd cc

total_single : {A : Type 0} (f : A → ℕ) (xs : List A) (k : ℕ) → k < length xs → ((x : A) → slice_get xs k ≡ Some x → f x ≡ 1) → ((i : ℕ) (x : A) → slice_get xs i ≡ Some x → i ≢ k → f x ≡ 0) → total f xs ≡ 1
total_single f [] k lt here others = absurd (omega arith)
total_single f (x ∷ xs) zero lt here others = omega (arith, here x refl, total_none f xs (λ i y is. others (suc i) y is (λ e. omega (arith, e))))
total_single f (x ∷ xs) (suc k) lt here others = omega (arith, others 0 x refl (λ e. omega (arith, e)), total_single f xs k (omega arith) here (λ i y is other. others (suc i) y is (λ e. other (omega (arith, e)))))

site_at : {A : Type 0} (xs : List A) (k : ℕ) → k < length xs → (x : A) × (slice_get xs k ≡ Some x)
site_at [] k lt = absurd (omega arith)
site_at (x ∷ xs) zero lt = (x, refl)
site_at (x ∷ xs) (suc k) lt = site_at xs k (omega arith)

-- ---- each extent stands once
differs : (a b : ℕ) → a ≢ b → (a == b) ≡ false
differs a b n = by_test (a == b) refl
  where
    by_test : (c : Bool) → (a == b) ≡ c → (a == b) ≡ false
    by_test true is = absurd (n (eqb-true a b is))
    by_test false is = is

stands_once : (modul : ModuleState) (partitions n e : ℕ) (u : Database) (sites : List SiteState) → 1 ≤ partitions → AreSitesOpened modul partitions (opened_extents u n) sites → 1 ≤ e → e ≤ extent_count n → total (λ s. one (extent_at e s)) sites ≡ 1
stands_once modul partitions n e u sites some h least most =
    let within : opening_partition partitions e < partitions = omega arith in
    let count : e ≤ length (opened_extents u n) = omega (arith, length-opened_extents u n) in
    total_single (λ (s : SiteState). one (extent_at e s)) sites (opening_partition partitions e) (omega (arith, h.count))
    (λ s at. ap one (
    site_place modul partitions (opening_partition partitions e) e (opened_extents u n) s (h.each (opening_partition partitions e) s at) count
    ∙ ap (λ b. if b then extent_numbered (opened_extents u n) e else None) (eq-eqb (opening_partition partitions e) (opening_partition partitions e) refl)
    ∙ its_extent u n e least most))
    (λ i s at other. ap one (
    site_place modul partitions i e (opened_extents u n) s (h.each i s at) count
    ∙ ap (λ b. if b then extent_numbered (opened_extents u n) e else None) (differs (opening_partition partitions e) i (λ same. other (sym same)))))

pub placed : (modul : ModuleState) (partitions n : ℕ) (u : Database) (sites : List SiteState) → 1 ≤ partitions → IsConsistent u → AreSitesOpened modul partitions (opened_extents u n) sites → AreExtentsPlaced n sites (no_parcels n)
placed modul partitions n u sites some is h = record {
  once = λ e least most. omega (arith, stands_once modul partitions n e u sites some h least most, ap one (none_in (extent_count n + 1) e));
  at_sites = λ p e s x at has. whole_extent u n e x is (numbers_of u n e x (stands_dealt modul partitions p e (opened_extents u n) s x (h.each p s at) has).numbered);
  in_hand = λ e x has. absurd (not_held (extent_count n + 1) e x has);
  site_slots = λ p s at. site_places modul partitions p (opened_extents u n) s (h.each p s at) ∙ ap (λ (k : ℕ). k + 1) (length-opened_extents u n);
  parcel_slots = length-replicate (extent_count n + 1) None;
}

-- ---- and is as it was opened, where its route says
pub record IsAsOpened (partitions n e : ℕ) (u : Database) (sites : List SiteState) (x : ExtentState) : Type 0 where
  pub number : IsNumberOf u n e x
  pub stands : stands_at sites e ≡ Some (opening_partition partitions e)

as_opened : (modul : ModuleState) (partitions n e : ℕ) (u : Database) (sites : List SiteState) (x : ExtentState) → 1 ≤ partitions → IsConsistent u → AreSitesOpened modul partitions (opened_extents u n) sites
    → extent_in sites (no_parcels n) e ≡ Some x → IsAsOpened partitions n e u sites x
as_opened modul partitions n e u sites x some is h found = elim (extent_found sites (no_parcels n) e x found) as (λ _. IsAsOpened partitions n e u sites x) [
  | inl a ↦
      let s = h.each a.p a.s a.site in
      let d = stands_dealt modul partitions a.p e (opened_extents u n) a.s x s a.has in
      record {
        number = numbers_of u n e x d.numbered;
        stands = stands_here n sites (no_parcels n) a.p e a.s x (placed modul partitions n u sites some is h) a.site a.has ∙ ap (λ (t : SiteState). Some t.partition) s.fields ∙ ap (λ (p : ℕ). Some p) (sym d.opens);
      }
  | inr k ↦ absurd (not_held (extent_count n + 1) e x k)
]

pub stands_opened : (modul : ModuleState) (partitions n e : ℕ) (u : Database) (sites : List SiteState) → 1 ≤ partitions → IsConsistent u → AreSitesOpened modul partitions (opened_extents u n) sites → 1 ≤ e → e ≤ extent_count n
    → extent_in sites (no_parcels n) e ≡ Some (opened_extent e (homes_of_extent u n e))
stands_opened modul partitions n e u sites some is h least most =
    let p : ℕ = opening_partition partitions e in
    let within : p < partitions = omega arith in
    let count : e ≤ length (opened_extents u n) = omega (arith, length-opened_extents u n) in
    let s = site_at sites p (omega (arith, h.count)) in
    let has : extent_at e s.0 ≡ Some (opened_extent e (homes_of_extent u n e)) =
    site_place modul partitions p e (opened_extents u n) s.0 (h.each p s.0 s.1) count
    ∙ ap (λ b. if b then extent_numbered (opened_extents u n) e else None) (eq-eqb p p refl)
    ∙ its_extent u n e least most in
    extent_at_site n sites (no_parcels n) p e s.0 (opened_extent e (homes_of_extent u n e)) (placed modul partitions n u sites some is h) s.1 (slot_has s.0.slots e (opened_extent e (homes_of_extent u n e)) has)

-- ---- the database
home_of_place : (u : Database) (n e i : ℕ) (home : SubscriberRows) → slice_get (homes_of_extent u n e) i ≡ Some home → home ≡ home_in_database u (first_subscriber e + i)
home_of_place u n e i home at =
    let count : ℕ = last_subscriber n e + 1 - first_subscriber e in
    let lt = range_past (home_in_database u) count i (first_subscriber e) home at in
    let f : Some (home_in_database u (first_subscriber e + i)) ≡ Some home = sym (range_get (home_in_database u) count i (first_subscriber e) (first_subscriber e + i) refl lt) ∙ at in
    cc

home_is : (modul : ModuleState) (partitions n s : ℕ) (u : Database) (sites : List SiteState) (home : SubscriberRows) (o : Option ExtentState) → 1 ≤ partitions → IsConsistent u → AreSitesOpened modul partitions (opened_extents u n) sites
    → extent_in sites (no_parcels n) (extent_of s) ≡ o → option_and_then (λ (x : ExtentState). home_at x s) o ≡ Some home → home ≡ home_in_database u s
home_is modul partitions n s u sites home None some is h found at = absurd cc
home_is modul partitions n s u sites home (Some x) some is h found at =
    let e : ℕ = extent_of s in
    let a = as_opened modul partitions n e u sites x some is h found in
    let p = home_at_place x s home at in
    let number : x.number ≡ e = ap (λ (y : ExtentState). y.number) a.number.is in
    let place : s ≡ first_subscriber e + p.i = p.place ∙ ap (λ (k : ℕ). first_subscriber k + p.i) number in
    home_of_place u n e p.i home (ap (λ (y : ExtentState). slice_get y.homes p.i) (sym a.number.is) ∙ p.home_is) ∙ ap (home_in_database u) (sym place)

home_there : (modul : ModuleState) (partitions n s : ℕ) (u : Database) (sites : List SiteState) → 1 ≤ partitions → IsConsistent u → AreSitesOpened modul partitions (opened_extents u n) sites → 1 ≤ s → s ≤ n
    → home_in sites (no_parcels n) s ≡ Some (home_in_database u s)
home_there modul partitions n s u sites some is h least most =
    let e : ℕ = extent_of s in
    let i : ℕ = s - first_subscriber e in
    let place : s ≡ first_subscriber e + i = omega arith in
    let lt : i < last_subscriber n e + 1 - first_subscriber e = omega arith in
    ap (option_and_then (λ (x : ExtentState). home_at x s)) (stands_opened modul partitions n e u sites some is h (omega arith) (omega arith))
    ∙ home_at_index (opened_extent e (homes_of_extent u n e)) s i place
    ∙ range_get (home_in_database u) (last_subscriber n e + 1 - first_subscriber e) i (first_subscriber e) s place lt

has_some : (t : Table) (q : Tuple) (o : Option SubscriberRows) → has_row o t q ≡ true → (home : SubscriberRows) × (o ≡ Some home) × (has (in_table t home.tables) q ≡ true)
has_some t q None h = absurd cc
has_some t q (Some home) h = (home, refl, h)

-- one of 1 to n
among : (n : ℕ) (q : Tuple) → list_any (λ s. has_key (s ∷ []) q) (range_with_len 1 n) ≡ true → (1 ≤ slice_index q 0) × (slice_index q 0 ≤ n) × (has_key (slice_index q 0 ∷ []) q ≡ true)
among n q h =
    let a = any_at (λ s. has_key (s ∷ []) q) (range_with_len 1 n) h in
    let first : slice_index q 0 ≡ a.x = first_is a.x q a.passes in
    let bound = range_has 1 n a.i a.x a.there in
    (omega (arith, first, bound.0), omega (arith, first, bound.1), subst (λ (k : ℕ). has_key (k ∷ []) q ≡ true) (sym first) a.passes)
  where
    range_has : (a n i x : ℕ) → slice_get (range_with_len a n) i ≡ Some x → (a ≤ x) × (x < a + n)
    range_has a zero i x is = absurd cc
    range_has a (suc n) zero x is = let e : a ≡ x = cc in (omega (arith, e), omega (arith, e))
    range_has a (suc n) (suc i) x is = let more = range_has (a + 1) n i x is in (omega (arith, more.0), omega (arith, more.1))

pub database_is : (modul : ModuleState) (rows : Rows) (partitions client_count : ℕ) (directory : Listing) (sites : List SiteState) → Opens modul rows partitions directory sites
    → gathered (new_world modul (length rows.subscribers) partitions client_count directory sites) ≡ database_of rows
database_is modul rows partitions client_count directory sites h =
    let u : Database = database_of rows in
    let n : ℕ = length rows.subscribers in
    let w : WorldState = new_world modul n partitions client_count directory sites in
    let is : IsConsistent u = IsConsistent-clean rows h.clean in
    let homes : ℕ → Option SubscriberRows = home_in sites (no_parcels n) in
    let g : Collects homes (gathered w) = gathered_is n w (placed modul partitions n u sites h.some is h.opened) in
    collected_same homes homes u (gathered w) (record {
      own = g.own;
      rows = λ t q. both_ways (has (in_table t u) q) (has_row (homes (slice_index q 0)) t q)
          (λ a.
          let k = among n q (rows_of_clean rows h.clean t q a) in
          ap (λ o. has_row o t q) (home_there modul partitions n (slice_index q 0) u sites h.some is h.opened k.0 k.1)
          ∙ (ap (λ v. has v q) (in_table-of_subscriber t u (slice_index q 0)) ∙ has-rows_with_s_id (slice_index q 0) (in_table t u) q)
          ∙ both_hold (has (in_table t u) q) (has_key (slice_index q 0 ∷ []) q) a k.2)
          (λ b.
          let k = has_some t q (homes (slice_index q 0)) b in
          let home = home_is modul partitions n (slice_index q 0) u sites k.0 (extent_in sites (no_parcels n) (extent_of (slice_index q 0))) h.some is h.opened refl k.1 in
          let own : has (in_table t (of_subscriber u (slice_index q 0))) q ≡ true = ap (λ (y : SubscriberRows). has (in_table t y.tables) q) (sym home) ∙ k.2 in
          (and_parts (has (in_table t u) q) (has_key (slice_index q 0 ∷ []) q) (sym (ap (λ v. has v q) (in_table-of_subscriber t u (slice_index q 0)) ∙ has-rows_with_s_id (slice_index q 0) (in_table t u) q) ∙ own)).0);
    }) g (λ k. refl)
  where
    both_hold : (a b : Bool) → a ≡ true → b ≡ true → (a && b) ≡ true
    both_hold a b h k = rw (h, k) refl

none_runs : (modul : ModuleState) (partitions : ℕ) (xs : List ExtentState) (sites : List SiteState) → AreSitesOpened modul partitions xs sites → NoneRuns sites
none_runs modul partitions xs sites h p s at = ap (λ (t : SiteState). t.running) (h.each p s at).fields

-- ---- no call
not_running : (sites : List SiteState) (r : RunningCall) → NoneRuns sites → RunsIn sites r → ⊥
not_running sites r none at = let f : None ≡ Some r = sym (none at.0 at.1.s at.1.at) ∙ at.1.runs in absurd cc

not_waiting : (partitions : ℕ) (item : Item) → WaitsIn (replicate partitions []) item → ⊥
not_waiting partitions item at =
    let empty : [] ≡ at.queue = got_replicated partitions at.p [] at.queue at.at in
    let f : slice_get [] at.i ≡ Some item = ap (λ (t : List Item). slice_get t at.i) empty ∙ at.there in absurd cc

none_queued : (partitions client : ℕ) → times_queued client (replicate partitions []) ≡ 0
none_queued partitions client = total_none (times_waiting client) (replicate partitions []) (λ i queue at. ap (times_waiting client) (sym (got_replicated partitions i [] queue at)))

none_running : (sites : List SiteState) (client : ℕ) → NoneRuns sites → times_running client sites ≡ 0
none_running sites client none = total_none (λ (s : SiteState). one_if (is_call_of client s)) sites (λ p s at. ap (λ (k : Option RunningCall). one_if (option_map_or (λ (r : RunningCall). r.client == client) k false)) (none p s at))

pub new_clients_in_order : (partitions client_count : ℕ) (sites : List SiteState) → NoneRuns sites → AreClientsInOrder (record { queues = replicate partitions []; sites = sites; clients = replicate client_count new_client; completions = [] })
new_clients_in_order partitions client_count sites none = record {
  clients = λ client c at. subst (IsClientInOrder (record { queues = replicate partitions []; sites = sites; clients = replicate client_count new_client; completions = [] }) client) (got_replicated client_count client new_client c at) (record {
    once = omega (arith, none_queued partitions client, none_running sites client none);
    counted = refl;
    queued_last = λ item waits own. absurd (not_waiting partitions item waits);
    running_last = λ r runs own. absurd (not_running sites r none runs);
    completed_before = λ number some. absurd (omega (arith, some));
    completed_once = λ number. omega arith;
    seen = refl;
    queued_seen = λ item waits own. absurd (not_waiting partitions item waits);
    running_seen = λ r runs own. absurd (not_running sites r none runs);
  });
  known = λ client past. omega (arith, none_queued partitions client, none_running sites client none);
}

-- ---- routes
pub route_is : (n partitions e : ℕ) (route : Route) → slice_get (opened_routes n partitions).routes e ≡ Some route → record { partition = opening_partition partitions e; moves = 0 } ≡ route
route_is n partitions e route at =
    let opens : ℕ → Route = λ k. record { partition = opening_partition partitions k; moves = 0 } in
    let lt = range_past opens (extent_count n + 1) e 0 route at in
    let f : Some (opens e) ≡ Some route = sym (range_get opens (extent_count n + 1) e 0 e (omega arith) lt) ∙ at in
    some_same (opens e) route f
  where
    some_same : (x y : Route) → Some x ≡ Some y → x ≡ y
    some_same x y h = cc

-- one for each extent, and one at 0
length_opened : (n partitions : ℕ) → length (opened_routes n partitions).routes ≡ extent_count n + 1
length_opened n partitions =
    let opens : ℕ → Route = λ k. record { partition = opening_partition partitions k; moves = 0 } in
    length-map (range_with_len 0 (extent_count n + 1)) opens ∙ length-range_with_len 0 (extent_count n + 1)

moved_so : (o : Option ExtentState) (m : ℕ) → moves_of o ≡ Some m → (x : ExtentState) × (o ≡ Some x) × (x.moves ≡ m)
moved_so None m h = absurd cc
moved_so (Some x) m h = (x, refl, cc)

pub routes_are_right : (modul : ModuleState) (partitions n : ℕ) (u : Database) (sites : List SiteState) → 1 ≤ partitions → IsConsistent u → AreSitesOpened modul partitions (opened_extents u n) sites
    → AreRoutesRight (opened_routes n partitions).routes [] (λ e. moves_of (extent_in sites (no_parcels n) e)) (stands_at sites)
routes_are_right modul partitions n u sites some is h = record {
  below = λ e m route at moves. let r = ap (λ (k : Route). k.moves) (route_is n partitions e route at) in omega (arith, r);
  there = λ e route at moves.
      let x = moved_so (extent_in sites (no_parcels n) e) route.moves moves in
      (as_opened modul partitions n e u sites x.0 some is h x.1).stands ∙ ap (λ (k : Route). Some k.partition) (route_is n partitions e route at);
  under_way = λ e m route at moves lt.
      let x = moved_so (extent_in sites (no_parcels n) e) m moves in
      let a = as_opened modul partitions n e u sites x.0 some is h x.1 in
      let none : x.0.moves ≡ 0 = ap (λ (y : ExtentState). y.moves) a.number.is in
      absurd (omega (arith, lt, none, x.2));
  landing = λ i m t at moves. absurd cc;
  once = λ i j t u at at' number many. absurd cc;
}

pub partitions_named : (modul : ModuleState) (partitions n : ℕ) (xs : List ExtentState) (sites : List SiteState) → 1 ≤ partitions → AreSitesOpened modul partitions xs sites → NamePartitions (length sites) (opened_routes n partitions).routes []
partitions_named modul partitions n xs sites some h = record {
  some = omega (arith, h.count);
  of_routes = λ e route at.
      let r : opening_partition partitions e ≡ route.partition = ap (λ (k : Route). k.partition) (route_is n partitions e route at) in
      let lt : opening_partition partitions e < partitions = omega arith in
      omega (arith, r, lt, h.count);
  of_landings = λ i t at. absurd cc;
}

-- ---- the whole
pub is_world : (modul : ModuleState) (rows : Rows) (partitions client_count : ℕ) (directory : Listing) (sites : List SiteState) → Opens modul rows partitions directory sites
    → IsWorld (new_world modul (length rows.subscribers) partitions client_count directory sites)
is_world modul rows partitions client_count directory sites h =
    let u : Database = database_of rows in
    let n : ℕ = length rows.subscribers in
    let w : WorldState = new_world modul n partitions client_count directory sites in
    let is : IsConsistent u = IsConsistent-clean rows h.clean in
    let none : NoneRuns sites = none_runs modul partitions (opened_extents u n) sites h.opened in
    let database : gathered w ≡ u = database_is modul rows partitions client_count directory sites h in
    let back : set_back w ≡ u = none_set_back (gathered w) sites none ∙ database in
    let populated : IsPopulated n u = clean_populated rows h.clean in
    record {
      lawful = h.lawful;
      few = h.few;
      queues = length-replicate partitions [] ∙ sym h.opened.count;
      extents = placed modul partitions n u sites h.some is h.opened;
      sites = λ p s at.
          let k = h.opened.each p s at in
          record { site = k.site; partition = ap (λ (t : SiteState). t.partition) k.fields; runs = ap (λ (t : SiteState). t.modul) k.fields };
      one_call_a_home = λ p q home r r' runs more on also. absurd (not_running sites r none (p, runs));
      clients = new_clients_in_order partitions client_count sites none;
      items = λ item waits. absurd (not_waiting partitions item waits);
      calls = λ r runs. absurd (not_running sites r none runs);
      routed = length_opened n partitions;
      route_partitions = sym h.opened.count;
      partitions = partitions_named modul partitions n (opened_extents u n) sites h.some h.opened;
      routes = routes_are_right modul partitions n u sites h.some is h.opened;
      keys = subst (λ (v : Database). (key : Key) → answer directory key ≡ home_of_key v.subscribers key) (sym database) h.answers;
      keys_back = subst (λ (v : Database). (key : Key) → answer directory key ≡ home_of_key v.subscribers key) (sym back) h.answers;
      consistent = subst IsConsistent (sym database) is;
      consistent_back = subst IsConsistent (sym back) is;
      populated = subst (IsPopulated n) (sym database) populated;
      populated_back = subst (IsPopulated n) (sym back) populated;
    }

pub is_opened : (modul : ModuleState) (rows : Rows) (partitions client_count : ℕ) (directory : Listing) (sites : List SiteState) → Opens modul rows partitions directory sites
    → IsOpened modul rows partitions client_count (new_world modul (length rows.subscribers) partitions client_count directory sites)
is_opened modul rows partitions client_count directory sites h =
    let u : Database = database_of rows in
    let n : ℕ = length rows.subscribers in
    let w : WorldState = new_world modul n partitions client_count directory sites in
    let none : NoneRuns sites = none_runs modul partitions (opened_extents u n) sites h.opened in
    let database : gathered w ≡ u = database_is modul rows partitions client_count directory sites h in
    record {
      runs = refl;
      shows = λ i. record { database = database i; calls = λ client. none_shown sites none client i; completions = [] };
      back = none_set_back (gathered w) sites none ∙ database;
      sites = h.opened;
      routes = refl;
      queues = refl;
      clients = refl;
      parcels = refl;
      landings = refl;
      chapters = refl;
    }

-- ---- room
pub none_under_way : (n : ℕ) → total (λ (x : Option ExtentState). one x) (no_parcels n) ≡ 0
none_under_way n = total_none (λ (x : Option ExtentState). one x) (no_parcels n) (λ i x at. ap one (sym (got_replicated (extent_count n + 1) i None x at)))

pub none_to_end : (modul : ModuleState) (partitions : ℕ) (xs : List ExtentState) (sites : List SiteState) → AreSitesOpened modul partitions xs sites → total (λ (s : SiteState). one s.running) sites ≡ 0
none_to_end modul partitions xs sites h = total_none (λ (s : SiteState). one s.running) sites (λ p s at. ap one (none_runs modul partitions xs sites h p s at))
