-- What becomes of a call of the one client from rest, and that there is rest again.
use Rattle.std.proofs.Common.{◌≡◌, inl, inr, ℕ, zero, suc, ◌+◌, ◌-◌, ◌^◌, ◌<◌, ◌≤◌, ◌==◌, nat_le, not, ◌&&◌, Bool, true, false, List, [], ◌∷◌, ◌++◌, length, take, replicate, is_some, is_none, if◌then◌else◌, Option, Some, None, Result, Ok, Err, slice_get, refl, sym, ◌∙◌, ap, subst, arith}
use Rattle.std.specs.Option.{option_map, option_map_or, option_and_then}
use Rattle.std.proofs.Math.ListN.{set}
use Rattle.std.proofs.lemmas.Bool.{eq-eqb, eqb-true, false_from_ne_true}
use Rattle.std.proofs.lemmas.Bool.Decides.{nat_tests}
use Rattle.std.proofs.lemmas.Option.{slice_get_cases, slice_get_within}
use Rattle.tatp_encoding.specs.Modules.{ModuleState}
use Rattle.tatp_tables.specs.Tuples.{Tuple, Tuples, has}
use Rattle.tatp_tables.specs.Keys.{row_at, has_key, has_number}
use Rattle.tatp_tables.specs.Database.{Database, database_of, of_subscriber}
use Rattle.tatp_tables.specs.declared.row.Rows.{Rows}
use Rattle.tatp_tables.specs.declared.table.Table.TheVariants.{Subscriber}
use Rattle.tatp_tables.proofs.KeyLaws.{row_at-has, row_at-key, row_at-some, has-found}
use Rattle.tatp_homes.specs.Home.{SubscriberRows}
use Rattle.tatp_numbers.specs.declared.key.Key.{Key}
use Rattle.tatp_numbers.specs.declared.key.Key.TheVariants.{Id, Number}
use Rattle.tatp_numbers.specs.Homes.{s_id_of, home_of_key}
use Rattle.tatp_numbers.specs.Listing.{answer}
use Rattle.tatp_calls.specs.declared.ask.Ask.{Ask}
use Rattle.tatp_calls.specs.declared.entry.Entry.{Entry}
use Rattle.tatp_calls.specs.declared.domains.BadArgument.{BadArgument as Bad}
use Rattle.tatp_calls.specs.declared.reply.Reply.{Reply}
use Rattle.tatp_calls.specs.Asked.{key_asked, has_procedure, bad_argument}
use Rattle.tatp_procs.proofs.LocalityLaws.{id_names, number_names, named_at_home}
use Rattle.tatp_extents.specs.Extents.{ExtentState, extent_of, last_stamp_of}
use Rattle.tatp_extents.specs.Opening.{extent_count, opened_extents}
use Rattle.tatp_partition.specs.declared.item.Item.{Item}
use Rattle.tatp_partition.specs.declared.item.Completion.{Completion}
use Rattle.tatp_partition.specs.declared.refusal.SiteRefusal.TheVariants.{NotHere, Running}
use Rattle.tatp_partition.specs.Dealing.{IsSiteOpened}
use Rattle.tatp_partition.specs.Obstacles.{begin_obstacle, step_obstacle, is_away, is_at_wrong_home, is_stamp_full, is_named}
use Rattle.tatp_partition.specs.Sites.{SiteState, RunningCall, slot, home_here, last_stamp_here}
use Rattle.tatp_move.specs.Routing.{route_of, partition_at}
use Rattle.tatp_move.specs.declared.route.Route.{Route}
use Rattle.tatp_events.specs.declared.event.Event.TheVariants.{Submit, Begin, Step}
use Rattle.tatp_events.specs.declared.event.Answer.TheVariants.{Queued, Began, Away, Denied, Moved, Ended}
use Rattle.tatp_events.specs.declared.refusal.Refusal.{Refusal}
use Rattle.tatp_events.specs.declared.refusal.Refusal.TheVariants.{NoMemory, Site, NoPartition, ClientBusy, NoProcedure, NumbersFull, BadArgument}
use Rattle.tatp_events.specs.Answers.{Answered}
use Rattle.tatp_dispatch.specs.declared.client.Client.{Client}
use Rattle.tatp_dispatch.specs.Calling.{MakesCall, refusal_by}
use Rattle.tatp_dispatch.specs.Clients.{with_call_accepted, with_call_refused, with_call_ended}
use Rattle.tatp_dispatch.specs.Counts.{one_if, or_else}
use Rattle.tatp_dispatch.specs.Events.{Submits, BeginsAt, AdvancesAt, QueuesCall, BeginsFront, DropsFront, MovesAt, EndsAt, item_of}
use Rattle.tatp_dispatch.specs.Gathered.{gathered}
use Rattle.tatp_dispatch.specs.InHand.{NamesTheHolder}
use Rattle.tatp_dispatch.specs.Obstacles.{where_holds, submit_obstacle, client_obstacle, front_obstacle, begin_obstacle_at, step_obstacle_at}
use Rattle.tatp_dispatch.specs.Opened.{IsOpened, new_client}
use Rattle.tatp_dispatch.specs.Placed.{times_waiting, times_queued, times_running, is_call_of}
use Rattle.tatp_dispatch.specs.Resting.{IsUndisturbed, HasOneClient, IsAtRest, IsOutcomeAtRest}
use Rattle.tatp_dispatch.specs.Runs.{HappenAll}
use Rattle.tatp_dispatch.specs.Serving.{IsWorld}
use Rattle.tatp_dispatch.specs.Worlds.{WorldState}
use Rattle.tatp_dispatch.proofs.CallingLaws.{StillRuns, still_runs, begins_ours}
use Rattle.tatp_dispatch.proofs.CollectLaws.{from_database, first_is}
use Rattle.tatp_dispatch.proofs.CountLaws.{get_set_same, total_at}
use Rattle.tatp_dispatch.proofs.GatherLaws.{gathered_is}
use Rattle.tatp_dispatch.proofs.HandLaws.{names_the_holder}
use Rattle.tatp_dispatch.proofs.NameLaws.{HaveFirst, first_of_rows}
use Rattle.tatp_dispatch.proofs.OpenLaws.{numbers_of, stands_dealt}
use Rattle.tatp_dispatch.proofs.PlaceLaws.{slot_has, home_in}
use Rattle.tatp_dispatch.proofs.RowLaws.{home_in_here}
use Rattle.tatp_dispatch.proofs.SeenLaws.{homes_seen}
use Rattle.tatp_dispatch.proofs.UndisturbedLaws.{free_longer, free_running, free_rows, free_ended, all_free, greater_within, stamp_left, none_holds, no_step_obstacle}

some_inj : {A : Type 0} (x y : A) → Some x ≡ Some y → x ≡ y
some_inj x y h = cc

-- ---- a system that was just opened
none_held : (m e : ℕ) → slot (replicate m None) e ≡ None
none_held zero e = refl
none_held (suc m) zero = refl
none_held (suc m) (suc e) = none_held m e

opened_stamp : (modul : ModuleState) (partitions p n e : ℕ) (u : Database) (s : SiteState) (o : Option ExtentState) → IsSiteOpened modul partitions p (opened_extents u n) s → slot s.slots e ≡ o → option_map_or last_stamp_of o 0 ≡ 0
opened_stamp modul partitions p n e u s None h is = refl
opened_stamp modul partitions p n e u s (Some x) h is = ap last_stamp_of (numbers_of u n e x (stands_dealt modul partitions p e (opened_extents u n) s x h (slot_has s.slots e x is)).numbered).is

opened_free : (modul : ModuleState) (partitions p n : ℕ) (u : Database) (s : SiteState) → IsSiteOpened modul partitions p (opened_extents u n) s → IsUndisturbed 0 s
opened_free modul partitions p n u s h = record {
  goes = ap (λ (t : SiteState). t.stopped) h.fields;
  no_breakpoint = ap (λ (t : SiteState). t.breakpoints) h.fields;
  stamps = λ e. omega (arith, opened_stamp modul partitions p n e u s (slot s.slots e) h refl);
  homeless_stamp = let none : last_stamp_here s None ≡ 0 = ap (λ (t : SiteState). last_stamp_here t None) h.fields in omega (arith, none);
}

pub opened_at_rest : (modul : ModuleState) (rows : Rows) (partitions : ℕ) (w : WorldState) → IsOpened modul rows partitions 1 w → IsAtRest 0 w
opened_at_rest modul rows partitions w o = record {
  one = record {
    client = new_client;
    alone = o.clients;
    accepted = omega arith;
    seen = omega arith;
    sites = λ p s at. opened_free modul partitions p (length rows.subscribers) (database_of rows) s (o.sites.each p s at);
    parcels = λ e. ap (λ xs. slot xs e) o.parcels ∙ none_held (extent_count (length rows.subscribers) + 1) e;
    landings = o.landings;
  };
  idle = refl;
}

pub longer_at_rest : (n m : ℕ) (w : WorldState) → n ≤ m → IsAtRest n w → IsAtRest m w
longer_at_rest n m w le r = let one = r.one in
    record {
      one = record {
        client = one.client;
        alone = one.alone;
        accepted = omega (arith, le, one.accepted);
        seen = omega (arith, le, one.seen);
        sites = λ p s at. free_longer n m s le (one.sites p s at);
        parcels = one.parcels;
        landings = one.landings;
      };
      idle = r.idle;
    }

-- ---- where no call is under way
none_under_way : (w : WorldState) (c : Client) (k : ℕ) → IsWorld w → w.clients ≡ c ∷ [] → c.is_busy ≡ false → times_queued k w.queues + times_running k w.sites ≡ 0
none_under_way w c zero good alone idle = (good.clients.clients 0 c (ap (λ (cs : List Client). slice_get cs 0) alone)).once ∙ ap one_if idle
none_under_way w c (suc k) good alone idle = omega (arith, good.clients.known (suc k) (omega (arith, ap length alone)))

none_waits : (w : WorldState) (c : Client) (p : ℕ) (before : List Item) → IsWorld w → w.clients ≡ c ∷ [] → c.is_busy ≡ false → slice_get w.queues p ≡ Some before → before ≡ []
none_waits w c p [] good alone idle at = refl
none_waits w c p (item ∷ rest) good alone idle at =
    let itself : one_if (item.client == item.client) ≡ 1 = ap one_if (eq-eqb item.client item.client refl) in
    absurd (omega (arith, none_under_way w c item.client good alone idle, total_at (times_waiting item.client) w.queues p (item ∷ rest) at, itself))

none_runs : (w : WorldState) (c : Client) (p : ℕ) (s : SiteState) (o : Option RunningCall) → IsWorld w → w.clients ≡ c ∷ [] → c.is_busy ≡ false → slice_get w.sites p ≡ Some s → s.running ≡ o → is_some o ≡ false
none_runs w c p s None good alone idle at is = refl
none_runs w c p s (Some r) good alone idle at is =
    let itself : one_if (is_call_of r.client s) ≡ 1 = ap (λ o. one_if (option_map_or (λ (q : RunningCall). q.client == r.client) o false)) is ∙ ap one_if (eq-eqb r.client r.client refl) in
    absurd (omega (arith, none_under_way w c r.client good alone idle, total_at (λ (t : SiteState). one_if (is_call_of r.client t)) w.sites p s at, itself))

-- ---- the home that a key names is at the site that the route names
record RowNamed (u : Tuples) (h : ℕ) : Type 0 where
  row : Tuple
  there : has u row ≡ true
  key : has_key (h ∷ []) row ≡ true

by_s_id : (u : Tuples) (h : ℕ) (o : Option Tuple) → row_at u (h ∷ []) ≡ o → option_map s_id_of o ≡ Some h → RowNamed u h
by_s_id u h None is named = absurd cc
by_s_id u h (Some row) is named = record { row = row; there = row_at-has u (h ∷ []) row is; key = row_at-key u (h ∷ []) row is }

row_named : (u : Tuples) (key : Key) (h : ℕ) → HaveFirst u → home_of_key u key ≡ Some h → RowNamed u h
row_named u (Id k) h first named = let same : k ≡ h = id_names u k h named in by_s_id u h (row_at u (h ∷ [])) refl (subst (λ (j : ℕ). home_of_key u (Id j) ≡ Some h) same named)
row_named u (Number n) h first named =
    let x = number_names u n h named in
    let there : has u x.row ≡ true = has-found (has_number n) u x.row x.found in
    record { row = x.row; there = there; key = subst (λ (k : ℕ). has_key (k ∷ []) x.row ≡ true) x.own (first x.row there) }

record IsRouted (w : WorldState) (key : Key) (h : ℕ) : Type 0 where
  site : SiteState
  home : SubscriberRows
  at : slice_get w.sites (route_of w.routes (Some h)) ≡ Some site
  here : home_here site h ≡ Some home
  named : home_of_key home.tables.subscribers key ≡ Some h

route_is : (w : WorldState) (h : ℕ) (x : NamesTheHolder w (extent_of h)) → 1 ≤ h → h ≤ w.routes.subscribers → route_of w.routes (Some h) ≡ x.route.partition
route_is w h x least most =
    let above : nat_le 1 h ≡ true = grind (arith, nat_tests) in
    let below : nat_le h w.routes.subscribers ≡ true = grind (arith, nat_tests) in
    ap (λ b. if b && nat_le h w.routes.subscribers then partition_at w.routes (extent_of h) else 0) above
    ∙ (ap (λ b. if b then partition_at w.routes (extent_of h) else 0) below
    ∙ ap (λ o. option_map_or (λ (route : Route). route.partition) o 0) x.routed)

routed : (w : WorldState) (n m : ℕ) (key : Key) (h : ℕ) → IsWorld w → HasOneClient n m w → answer w.directory key ≡ Some h → IsRouted w key h
routed w n m key h good one is =
    let u : Database = gathered w in
    let homes : ℕ → Option SubscriberRows = home_in w.sites w.parcels in
    let collects = gathered_is w.routes.subscribers w good.extents in
    let named : home_of_key u.subscribers key ≡ Some h = sym (good.keys key) ∙ is in
    let row = row_named u.subscribers key h (first_of_rows homes u collects) named in
    let own = from_database homes u Subscriber row.row collects row.there in
    let same : own.s ≡ h = sym (first_is own.s row.row own.key) ∙ first_is h row.row row.key in
    let range = good.populated.only h (row_at-some u.subscribers (h ∷ []) row.row row.there row.key) in
    let holder = names_the_holder w (extent_of h) good (omega (arith, range.0)) (omega (arith, range.1)) (record {
      parcel = one.parcels (extent_of h);
      landing = λ landed held. absurd (let none : None ≡ Some landed = ap (λ ts. slice_get ts held.0) (sym one.landings) ∙ held.1 in cc);
    }) in
    let there : homes h ≡ Some own.home = ap homes (sym same) ∙ own.there in
    let here : home_here holder.site h ≡ Some own.home = sym (home_in_here w.routes.subscribers w.sites w.parcels holder.route.partition h holder.site holder.extent good.extents holder.holder (slot_has holder.site.slots (extent_of h) holder.extent holder.stands)) ∙ there in
    let tables : of_subscriber u h ≡ own.home.tables = homes_seen w holder.route.partition holder.site good holder.holder h own.home here in
    record {
      site = holder.site;
      home = own.home;
      at = ap (slice_get w.sites) (route_is w h holder range.0 range.1) ∙ holder.holder;
      here = here;
      named = ap (λ (v : Database). home_of_key v.subscribers key) (sym tables) ∙ named_at_home u h key good.consistent named;
    }

-- so it is neither elsewhere nor another's
in_place : (w : WorldState) (n m p : ℕ) (s : SiteState) (item : Item) (home : Option ℕ) → IsWorld w → HasOneClient n m w → slice_get w.sites p ≡ Some s → answer w.directory (key_asked item.ask) ≡ home → p ≡ route_of w.routes home
    → (is_away s home ≡ false) × (is_at_wrong_home s item home ≡ false)
in_place w n m p s item None good one at names by_route = (ap not (eq-eqb s.partition 0 ((good.sites p s at).partition ∙ by_route)), refl)
in_place w n m p s item (Some h) good one at names by_route =
    let x = routed w n m (key_asked item.ask) h good one names in
    let same : x.site ≡ s = some_inj x.site s (sym x.at ∙ (ap (slice_get w.sites) (sym by_route) ∙ at)) in
    let here : home_here s h ≡ Some x.home = ap (λ (t : SiteState). home_here t h) (sym same) ∙ x.here in
    let named : is_named item x.home ≡ true = ap is_some x.named in (
      ap is_none here,
      ap (λ o. option_map_or (λ home. not (is_named item home)) o false) here ∙ ap not named,
    )

-- ---- a client asks
none_against : (is_busy has full : Bool) (bad : Option Bad) → is_busy ≡ false → has ≡ true → bad ≡ None → full ≡ false
    → or_else (where_holds is_busy ClientBusy) (or_else (where_holds (not has) NoProcedure) (or_else (option_map BadArgument bad) (where_holds full NumbersFull))) ≡ None
none_against is_busy has full bad a b c d = rw (a, b, c, d) refl

submit_free : (w : WorldState) (n : ℕ) (ask : Ask) → n + 1 < 2 ^ 64 → has_procedure w.modul ask ≡ true → bad_argument ask ≡ None → IsAtRest n w → submit_obstacle w 0 ask ≡ None
submit_free w n ask few has fits r =
    let c : Client = r.one.client in
    ap (λ (cs : List Client). client_obstacle w ask (slice_get cs 0)) r.one.alone
    ∙ none_against c.is_busy (has_procedure w.modul ask) (c.accepted == 2 ^ 64 - 1) (bad_argument ask) r.idle has fits
    (false_from_ne_true (c.accepted == 2 ^ 64 - 1) (λ full. omega (arith, few, r.one.accepted, eqb-true c.accepted (2 ^ 64 - 1) full)))

client_is : (w : WorldState) (n m : ℕ) (ask : Ask) (p : ℕ) (w' : WorldState) (one : HasOneClient n m w) (q : QueuesCall w 0 ask p w') → one.client ≡ q.c
client_is w n m ask p w' one q = some_inj one.client q.c (ap (λ (cs : List Client). slice_get cs 0) (sym one.alone) ∙ q.of_client)

submitted : (w : WorldState) (n : ℕ) (ask : Ask) (p : ℕ) (w' : WorldState) → IsAtRest n w → QueuesCall w 0 ask p w' → HasOneClient (n + 1) n w'
submitted w n ask p w' r q =
    let one = r.one in
    let same = client_is w n n ask p w' one q in
    record {
      client = with_call_accepted q.c;
      alone = ap (λ (t : WorldState). t.clients) q.after ∙ ap (λ cs. set cs 0 (with_call_accepted q.c)) one.alone;
      accepted = omega (arith, one.accepted, ap (λ (c : Client). c.accepted) same);
      seen = omega (arith, one.seen, ap (λ (c : Client). c.seen) same);
      sites = λ k s at. one.sites k s (sym (ap (λ (t : WorldState). slice_get t.sites k) q.after) ∙ at);
      parcels = λ e. ap (λ (t : WorldState). slot t.parcels e) q.after ∙ one.parcels e;
      landings = ap (λ (t : WorldState). t.landings) q.after ∙ one.landings;
    }

-- it waits alone
waits_alone : (w : WorldState) (n : ℕ) (ask : Ask) (p : ℕ) (w' : WorldState) → IsWorld w → (r : IsAtRest n w) → (q : QueuesCall w 0 ask p w') → slice_get w'.queues p ≡ Some (item_of w 0 q.c ask ∷ [])
waits_alone w n ask p w' good r q =
    ap (λ (t : WorldState). slice_get t.queues p) q.after
    ∙ (get_set_same w.queues p (q.before ++ item_of w 0 q.c ask ∷ []) q.before q.queue
    ∙ ap (λ before. Some (before ++ item_of w 0 q.c ask ∷ [])) (none_waits w r.one.client p q.before good r.one.alone r.idle q.queue))

-- ---- it begins
site_there : (w : WorldState) (p : ℕ) (before : List Item) → IsWorld w → slice_get w.queues p ≡ Some before → (s : SiteState) × (slice_get w.sites p ≡ Some s)
site_there w p before good at = elim (slice_get_cases w.sites p).1 as (λ _. (s : SiteState) × (slice_get w.sites p ≡ Some s)) [
  | inl k ↦ (k.0, k.2)
  | inr k ↦ absurd (omega (arith, k.0, good.queues, slice_get_within w.queues p before at))
]

begin_free : (w : WorldState) (n : ℕ) (ask : Ask) (p : ℕ) (w' : WorldState) → n + 1 < 2 ^ 64 → IsWorld w → IsAtRest n w → QueuesCall w 0 ask p w' → begin_obstacle_at w' p ≡ None
begin_free w n ask p w' few good r q =
    let item : Item = item_of w 0 q.c ask in
    let x = site_there w p q.before good q.queue in
    let s : SiteState = x.0 in
    let free : IsUndisturbed n s = r.one.sites p s x.1 in
    let home : Option ℕ = answer w.directory (key_asked ask) in
    let place = in_place w n n p s item home good r.one x.1 refl q.by_route in
    let seen : item.seen ≤ n = omega (arith, r.one.seen, ap (λ (c : Client). c.seen) (client_is w n n ask p w' r.one q)) in
    let clear : begin_obstacle s item ≡ None = none_holds (is_some s.running) s.stopped (is_away s home) (is_at_wrong_home s item home) (is_stamp_full s item)
    (none_runs w r.one.client p s s.running good r.one.alone r.idle x.1 refl) free.goes place.0 place.1 (stamp_left n s item few free seen) in
    ap (λ (o : Option (List Item)). option_map_or (λ (t : SiteState). front_obstacle t (option_and_then (λ (queue : List Item). slice_get queue 0) o)) (slice_get w'.sites p) (Some NoPartition)) (waits_alone w n ask p w' good r q)
    ∙ (ap (λ (o : Option SiteState). option_map_or (λ (t : SiteState). front_obstacle t (Some item)) o (Some NoPartition)) (ap (λ (t : WorldState). slice_get t.sites p) q.after ∙ x.1)
    ∙ ap (λ o. option_map Site o) clear)

began : (w : WorldState) (n m p k : ℕ) (w' : WorldState) → HasOneClient n m w → BeginsFront w p k w' → HasOneClient n m w'
began w n m p k w' one b = record {
  client = one.client;
  alone = ap (λ (t : WorldState). t.clients) b.after ∙ one.alone;
  accepted = one.accepted;
  seen = one.seen;
  sites = λ q s at. all_free m w.sites p b.before b.after_it b.site one.sites
      (subst (IsUndisturbed m) (sym b.begins.1) (free_running m b.before _ (one.sites p b.before b.site))) q s (sym (ap (λ (t : WorldState). slice_get t.sites q) b.after) ∙ at);
  parcels = λ e. ap (λ (t : WorldState). slot t.parcels e) b.after ∙ one.parcels e;
  landings = ap (λ (t : WorldState). t.landings) b.after ∙ one.landings;
}

-- the one client
is_the_one : (x c : Client) (k : ℕ) → slice_get (x ∷ []) k ≡ Some c → (k ≡ 0) × (x ≡ c)
is_the_one x c zero h = (refl, cc)
is_the_one x c (suc k) h = absurd cc

the_one : (w : WorldState) (n m k : ℕ) (c : Client) (one : HasOneClient n m w) → slice_get w.clients k ≡ Some c → (k ≡ 0) × (one.client ≡ c)
the_one w n m k c one at = is_the_one one.client c k (ap (λ (cs : List Client). slice_get cs k) (sym one.alone) ∙ at)

alone_again : (w : WorldState) (n m k : ℕ) (c new : Client) (one : HasOneClient n m w) → slice_get w.clients k ≡ Some c → set w.clients k new ≡ new ∷ []
alone_again w n m k c new one at = ap (λ (j : ℕ). set w.clients j new) (the_one w n m k c one at).0 ∙ ap (λ cs. set cs 0 new) one.alone

dropped : (w : WorldState) (n p k : ℕ) (w' : WorldState) → HasOneClient (n + 1) n w → DropsFront w p k w' → IsAtRest (n + 1) w'
dropped w n p k w' one d =
    let same = (the_one w (n + 1) n k d.c one d.of_client).1 in
    record {
      one = record {
        client = with_call_refused d.c;
        alone = ap (λ (t : WorldState). t.clients) d.after ∙ alone_again w (n + 1) n k d.c (with_call_refused d.c) one d.of_client;
        accepted = omega (arith, one.accepted, ap (λ (c : Client). c.accepted) same);
        seen = omega (arith, one.seen, ap (λ (c : Client). c.seen) same);
        sites = λ q s at. free_longer n (n + 1) s (omega arith) (one.sites q s (sym (ap (λ (t : WorldState). slice_get t.sites q) d.after) ∙ at));
        parcels = λ e. ap (λ (t : WorldState). slot t.parcels e) d.after ∙ one.parcels e;
        landings = ap (λ (t : WorldState). t.landings) d.after ∙ one.landings;
      };
      idle = refl;
    }

-- ---- it goes on
step_free : (w : WorldState) (n m p : ℕ) (ask : Ask) → HasOneClient n m w → StillRuns w p 0 ask → step_obstacle_at w p ≡ None
step_free w n m p ask one runs =
    ap (λ (o : Option SiteState). option_map_or (λ (t : SiteState). option_map Site (step_obstacle t)) o (Some NoPartition)) runs.at.at
    ∙ ap (λ o. option_map Site o) (no_step_obstacle m runs.at.s runs.r runs.at.runs (one.sites p runs.at.s runs.at.at))

stepped : (w : WorldState) (n m p : ℕ) (w' : WorldState) → HasOneClient n m w → MovesAt w p w' → HasOneClient n m w'
stepped w n m p w' one h =
    let g = h.moves in
    let free : IsUndisturbed m h.after_it = subst (IsUndisturbed m) (sym g.after) (free_rows m _ g.running.call.frame.home g.rows (free_running m h.before _ (one.sites p h.before h.site))) in
    record {
      client = one.client;
      alone = ap (λ (t : WorldState). t.clients) h.after ∙ one.alone;
      accepted = one.accepted;
      seen = one.seen;
      sites = λ q s at. all_free m w.sites p h.before h.after_it h.site one.sites free q s (sym (ap (λ (t : WorldState). slice_get t.sites q) h.after) ∙ at);
      parcels = λ e. ap (λ (t : WorldState). slot t.parcels e) h.after ∙ one.parcels e;
      landings = ap (λ (t : WorldState). t.landings) h.after ∙ one.landings;
    }

-- ---- it ends
ended : (w : WorldState) (n p : ℕ) (completion : Completion) (w' : WorldState) → IsWorld w → HasOneClient (n + 1) n w → EndsAt w p completion w' → IsAtRest (n + 1) w'
ended w n p completion w' good one e =
    let g = e.ends in
    let before = one.sites p e.before e.site in
    let is = the_one w (n + 1) n completion.entry.client e.c one e.of_client in
    let ours : g.running.client ≡ 0 = sym (ap (λ (t : Entry). t.client) g.entry) ∙ is.0 in
    let last : g.running.seen ≡ one.client.seen = (good.clients.clients 0 one.client (ap (λ (cs : List Client). slice_get cs 0) one.alone)).running_seen g.running (p, record { s = e.before; at = e.site; runs = g.is }) ours in
    let stamp : completion.entry.stamp ≤ n + 1 = omega (arith, ap (λ (t : Entry). t.stamp) g.entry, greater_within n e.before g.running.seen g.running.call.frame.home before (omega (arith, last, one.seen))) in
    let free : IsUndisturbed (n + 1) e.after_it = subst (IsUndisturbed (n + 1)) (sym g.after)
    (free_ended n _ g.running.call.frame.home completion.entry stamp (free_rows n _ g.running.call.frame.home g.rows (free_running n e.before None before))) in
    record {
      one = record {
        client = with_call_ended completion.entry.stamp e.c;
        alone = ap (λ (t : WorldState). t.clients) e.after ∙ alone_again w (n + 1) n completion.entry.client e.c (with_call_ended completion.entry.stamp e.c) one e.of_client;
        accepted = omega (arith, one.accepted, ap (λ (c : Client). c.accepted) is.1);
        seen = stamp;
        sites = λ q s at. all_free (n + 1) w.sites p e.before e.after_it e.site (λ j t there. free_longer n (n + 1) t (omega arith) (one.sites j t there)) free q s (sym (ap (λ (t : WorldState). slice_get t.sites q) e.after) ∙ at);
        parcels = λ k. ap (λ (t : WorldState). slot t.parcels k) e.after ∙ one.parcels k;
        landings = ap (λ (t : WorldState). t.landings) e.after ∙ one.landings;
      };
      idle = refl;
    }

-- ---- by the last answer
-- after its end there is rest; where it doesn't go on, memory was refused, and there is rest too
abbrev IsLeft : ℕ → Answered → WorldState → Type 0
IsLeft n (Ok (Ended client ask reply)) w' = IsAtRest (n + 1) w'
IsLeft n last w' = (refusal : Refusal) → refusal_by 0 last ≡ Some refusal → (refusal ≡ NoMemory) × IsAtRest (n + 1) w'

not_refused : {A : Type 0} {o : Option Refusal} (refusal : Refusal) → o ≡ None → o ≡ Some refusal → A
not_refused refusal none some = absurd (let f : None ≡ Some refusal = sym none ∙ some in cc)

after_step : (w : WorldState) (n p : ℕ) (ask : Ask) (last : Answered) (w' : WorldState) → IsWorld w → HasOneClient (n + 1) n w → StillRuns w p 0 ask → AdvancesAt (step_obstacle_at w p) w p last w' → IsLeft n last w'
after_step w n p ask (Ok Moved) w' good one runs h = λ refusal by. not_refused refusal refl by
after_step w n p ask (Ok (Ended client asked reply)) w' good one runs h = ended w n p h.1.0 w' good one h.1.4
after_step w n p ask (Err refused) w' good one runs h = λ refusal by. not_refused refused (step_free w (n + 1) n p ask one runs) h.0
after_step w n p ask (Ok other) w' good one runs h = absurd h

after_steps : (j steps n p : ℕ) (w : WorldState) (ask : Ask) (last : Answered) (w' : WorldState) → IsWorld w → HasOneClient (n + 1) n w → StillRuns w p 0 ask
    → HappenAll w (take (suc j) (replicate steps (Step p))) (take j (replicate steps (Ok Moved)) ++ last ∷ []) w' → IsLeft n last w'
after_steps zero zero n p w ask last w' good one runs h = absurd h
after_steps (suc j) zero n p w ask last w' good one runs h = absurd h
after_steps zero (suc steps) n p w ask last w' good one runs (mid, happens, whole, same) = subst (IsLeft n last) (sym same) (after_step w n p ask last mid good one runs happens)
after_steps (suc j) (suc steps) n p w ask last w' good one runs (mid, moves, whole, more) =
    after_steps j steps n p mid ask last w' whole (stepped w (n + 1) n p mid one moves.1) (still_runs w mid p 0 ask moves.1 runs) more

-- the front call is the one that was asked for
front_is : (w : WorldState) (p k : ℕ) (item : Item) (w' : WorldState) → slice_get w.queues p ≡ Some (item ∷ []) → BeginsFront w p k w' → k ≡ item.client
front_is w p k item w' waits b = b.of_client ∙ ap (λ (x : Item). x.client) (first_is_it (sym b.queue ∙ waits))
  where
    first_is_it : {x y : Item} {xs ys : List Item} → Some (x ∷ xs) ≡ Some (y ∷ ys) → x ≡ y
    first_is_it h = cc

after_begin : (w : WorldState) (n p : ℕ) (item : Item) (last : Answered) (w' : WorldState) → begin_obstacle_at w p ≡ None → slice_get w.queues p ≡ Some (item ∷ []) → item.client ≡ 0 → HasOneClient (n + 1) n w → BeginsAt w p last w' → IsLeft n last w'
after_begin w n p item (Ok (Began k)) w' free waits ours one h = λ refusal by. not_refused refusal (ap (λ (b : Bool). if b then None else Some (Site Running)) (eq-eqb k 0 (front_is w p k item w' waits h.1 ∙ ours))) by
after_begin w n p item (Ok (Denied k)) w' free waits ours one h = λ refusal by. (sym (refused_so by), dropped w n p k w' one h.1)
  where
    refused_so : {x y : Refusal} → Some x ≡ Some y → x ≡ y
    refused_so h = cc
after_begin w n p item (Ok (Away q)) w' free waits ours one h = λ refusal by. not_refused (Site NotHere) free h.0
after_begin w n p item (Err refused) w' free waits ours one h = λ refusal by. not_refused refused free h.0.0
after_begin w n p item (Ok other) w' free waits ours one h = absurd h

after_submit : (w : WorldState) (n : ℕ) (ask : Ask) (last : Answered) (w' : WorldState) → submit_obstacle w 0 ask ≡ None → Submits w 0 ask last w' → IsLeft n last w'
after_submit w n ask (Ok (Queued p)) w' free h = λ refusal by. not_refused refusal refl by
after_submit w n ask (Err refused) w' free h = λ refusal by. not_refused refused free h.0
after_submit w n ask (Ok other) w' free h = absurd h

-- ---- the whole call
record MayAsk (w : WorldState) (n : ℕ) (ask : Ask) : Type 0 where
  good : IsWorld w
  rest : IsAtRest n w
  few : n + 1 < 2 ^ 64
  procedure : has_procedure w.modul ask ≡ true
  arguments : bad_argument ask ≡ None

after_all : (w : WorldState) (n : ℕ) (ask : Ask) (p steps before : ℕ) (last : Answered) (w' : WorldState) → MayAsk w n ask
    → HappenAll w (take (suc before) (Submit 0 ask ∷ Begin p ∷ replicate steps (Step p))) (take before (Ok (Queued p) ∷ Ok (Began 0) ∷ replicate steps (Ok Moved)) ++ last ∷ []) w' → IsLeft n last w'
after_all w n ask p steps zero last w' may (mid, submits, whole, same) = subst (IsLeft n last) (sym same) (after_submit w n ask last mid (submit_free w n ask may.few may.procedure may.arguments may.rest) submits)
after_all w n ask p steps (suc zero) last w' may (queued, submits, whole, (mid, begins, whole', same)) =
    let q = submits.1 in
    subst (IsLeft n last) (sym same) (after_begin queued n p (item_of w 0 q.c ask) last mid (begin_free w n ask p queued may.few may.good may.rest q) (waits_alone w n ask p queued may.good may.rest q) refl (submitted w n ask p queued may.rest q) begins)
after_all w n ask p steps (suc (suc before)) last w' may (queued, submits, whole, (mid, begins, whole', more)) =
    let q = submits.1 in
    after_steps before steps n p mid ask last w' whole' (began queued (n + 1) n p 0 mid (submitted w n ask p queued may.rest q) begins.1) (begins_ours w queued mid 0 p ask whole q begins.1) more

left_refused : (n : ℕ) (last : Answered) (w' : WorldState) (refusal : Refusal) → IsLeft n last w' → refusal_by 0 last ≡ Some refusal → (refusal ≡ NoMemory) × IsAtRest (n + 1) w'
left_refused n (Ok (Ended client ask reply)) w' refusal left by = not_refused refusal refl by
left_refused n (Err refused) w' refusal left by = left refusal by
left_refused n (Ok other) w' refusal left by = left refusal by

ends_or_lacks_memory : (w : WorldState) (n : ℕ) (ask : Ask) (outcome : Result Reply Refusal) (w' : WorldState) → MayAsk w n ask → MakesCall w 0 ask outcome w' → IsOutcomeAtRest None outcome × IsAtRest (n + 1) w'
ends_or_lacks_memory w n ask (Ok reply) w' may made =
    let (p, steps, up_to) = made.events in
    (tt, after_all w n ask p steps up_to.before (Ok (Ended 0 ask reply)) w' may up_to.happen)
ends_or_lacks_memory w n ask (Err refusal) w' may made =
    let (last, by, (p, steps, up_to)) = made.events in
    left_refused n last w' refusal (after_all w n ask p steps up_to.before last w' may up_to.happen) by

-- ---- with an argument outside its domain
argument_against : (w : WorldState) (n : ℕ) (ask : Ask) (bad : Bad) → has_procedure w.modul ask ≡ true → bad_argument ask ≡ Some bad → IsAtRest n w → submit_obstacle w 0 ask ≡ Some (BadArgument bad)
argument_against w n ask bad has is r =
    ap (λ (cs : List Client). client_obstacle w ask (slice_get cs 0)) r.one.alone
    ∙ against r.one.client.is_busy (has_procedure w.modul ask) (r.one.client.accepted == 2 ^ 64 - 1) (bad_argument ask) r.idle has is
  where
    against : (is_busy has full : Bool) (o : Option Bad) → is_busy ≡ false → has ≡ true → o ≡ Some bad
        → or_else (where_holds is_busy ClientBusy) (or_else (where_holds (not has) NoProcedure) (or_else (option_map BadArgument o) (where_holds full NumbersFull))) ≡ Some (BadArgument bad)
    against is_busy has full o a b c = rw (a, b, c) refl

-- the first event was refused for it
only_refused : (w : WorldState) (ask : Ask) (refusal : Refusal) (p steps before : ℕ) (last : Answered) (w' : WorldState) → submit_obstacle w 0 ask ≡ Some refusal
    → HappenAll w (take (suc before) (Submit 0 ask ∷ Begin p ∷ replicate steps (Step p))) (take before (Ok (Queued p) ∷ Ok (Began 0) ∷ replicate steps (Ok Moved)) ++ last ∷ []) w' → (last ≡ Err refusal) × (w' ≡ w)
only_refused w ask refusal p steps (suc before) last w' against h = absurd (let f : None ≡ Some refusal = sym h.1.0 ∙ against in cc)
only_refused w ask refusal p steps zero (Err other) w' against (mid, submits, whole, same) = (ap Err (some_inj other refusal (sym submits.0 ∙ against)), same ∙ submits.1)
only_refused w ask refusal p steps zero (Ok (Queued q)) w' against (mid, submits, whole, same) = absurd (let f : None ≡ Some refusal = sym submits.0 ∙ against in cc)
only_refused w ask refusal p steps zero (Ok other) w' against (mid, submits, whole, same) = absurd submits

refused_for : (w : WorldState) (n : ℕ) (ask : Ask) (bad : Bad) (outcome : Result Reply Refusal) (w' : WorldState) → has_procedure w.modul ask ≡ true → bad_argument ask ≡ Some bad → IsAtRest n w → MakesCall w 0 ask outcome w' → IsOutcomeAtRest (Some bad) outcome × IsAtRest (n + 1) w'
refused_for w n ask bad (Ok reply) w' has is rest made =
    let (p, steps, up_to) = made.events in
    absurd (let f : Ok (Ended 0 ask reply) ≡ Err (BadArgument bad) = (only_refused w ask (BadArgument bad) p steps up_to.before (Ok (Ended 0 ask reply)) w' (argument_against w n ask bad has is rest) up_to.happen).0 in cc)
refused_for w n ask bad (Err refusal) w' has is rest made =
    let (last, by, (p, steps, up_to)) = made.events in
    let only = only_refused w ask (BadArgument bad) p steps up_to.before last w' (argument_against w n ask bad has is rest) up_to.happen in (
      ap Err (some_inj refusal (BadArgument bad) (sym by ∙ ap (refusal_by 0) only.0)),
      subst (IsAtRest (n + 1)) (sym only.1) (longer_at_rest n (n + 1) w (omega arith) rest),
    )

pub call_from_rest : (w : WorldState) (n : ℕ) (ask : Ask) (outcome : Result Reply Refusal) (w' : WorldState) → IsWorld w → IsAtRest n w → n + 1 < 2 ^ 64 → has_procedure w.modul ask ≡ true → MakesCall w 0 ask outcome w' → IsOutcomeAtRest (bad_argument ask) outcome × IsAtRest (n + 1) w'
call_from_rest w n ask outcome w' good rest few has made = by_argument (bad_argument ask) refl
  where
    by_argument : (o : Option Bad) → bad_argument ask ≡ o → IsOutcomeAtRest o outcome × IsAtRest (n + 1) w'
    by_argument None is = ends_or_lacks_memory w n ask outcome w' (record { good = good; rest = rest; few = few; procedure = has; arguments = is }) made
    by_argument (Some bad) is = refused_for w n ask bad outcome w' has is rest made
