-- The logs that a run left are those of separate extents of its population, merged into one history of it.
use Rattle.std.proofs.Common.{◌≡◌, ℕ, zero, suc, ◌+◌, ◌≤◌, ◌==◌, Bool, true, false, List, [], ◌∷◌, ◌++◌, map, length, filter, find, All, Contains, Option, Some, None, IsSome, is_some, slice_get, zero-add, refl, sym, ◌∙◌, ap, subst, arith}
use Rattle.std.specs.List.{range_with_len}
use Rattle.std.specs.Option.{option_map, option_map_or}
use Rattle.std.proofs.lemmas.Bool.{eqb-true, false≢true, false_from_ne_true}
use Rattle.std.proofs.lemmas.Option.{slice_get-map}
use Rattle.std.proofs.lemmas.List.Elements.{All-nil, All-head, All-tail, All-filter, All-contains}
use Rattle.tatp_tables.specs.Tuples.{Tuple, rows_of, no_rows}
use Rattle.tatp_tables.specs.Keys.{has_key, has_number}
use Rattle.tatp_tables.specs.Database.{Database, database_of, no_tables}
use Rattle.tatp_homes.specs.Home.{SubscriberRows}
use Rattle.tatp_homes.specs.Loading.{homes_in}
use Rattle.tatp_tables.specs.Clean.{IsClean}
use Rattle.tatp_tables.proofs.TupleLaws.{has-no_rows}
use Rattle.tatp_tables.proofs.KeyLaws.{has-found}
use Rattle.tatp_homes.proofs.ChangeLaws.{IsHome-none}
use Rattle.tatp_numbers.specs.declared.key.Key.{Key}
use Rattle.tatp_numbers.specs.declared.key.Key.TheVariants.{Id, Number}
use Rattle.tatp_numbers.specs.Homes.{s_id_of, home_of_key}
use Rattle.tatp_calls.specs.declared.entry.Entry.{Entry}
use Rattle.tatp_calls.specs.Calls.{key_of_call}
use Rattle.tatp_calls.specs.declared.call.Call.{Call}
use Rattle.tatp_calls.specs.declared.reply.Reply.TheVariants.{Failed}
use Rattle.tatp_calls.specs.Transactions.{Answer, transaction}
use Rattle.tatp_procs.proofs.ConsistentLaws.{IsConsistent-home, IsConsistent-clean}
use Rattle.tatp_procs.proofs.LocalityLaws.{fails_without_home}
use Rattle.tatp_extents.specs.Histories.{Leads}
use Rattle.tatp_extents.specs.Extents.{ExtentState, IsExtent}
use Rattle.tatp_extents.specs.HomelessLog.{RecordsHomeless}
use Rattle.tatp_extents.specs.Chapters.{ChapterState, IsChapterOfHomes, IsChapterWithoutHomes, Joins, EachLeads, entries_joined}
use Rattle.tatp_extents.specs.Opening.{homes_of_extent}
use Rattle.tatp_extents.specs.HomeRows.{database_of_homes, AreRowsOf}
use Rattle.tatp_extents.proofs.HomeRowsLaws.{rows_are_the_database}
use Rattle.tatp_extents.proofs.CleanRowsLaws.{rows_of_clean}
use Rattle.tatp_extents.proofs.ChapterLaws.{joined_lead, joined_homeless}
use Rattle.tatp_calls.specs.Asked.{key_asked}
use Rattle.tatp_settle.specs.Closings.{ClosedSiteState, ClosedState, ExtentLog, extents_of, logs_of, log_of_homeless, log_of_extent, log_numbered, extent_numbered, homes_numbered, chapter_numbered, chapter_count, chapters_numbered, entries_since, entries_numbered, IsClosedSite, IsClosed}
use Rattle.tatp_settle.specs.Merging.{PlacedEntry, IsMergeable, IsAnsweredInOrder, OneHistory}
use Rattle.tatp_settle.specs.Runs.{Run, extents_populated, homes_at_first, logs_left, homes_left, rows_left}
use Rattle.tatp_settle.specs.Answering.{HasReceipt}
use Rattle.tatp_settle.specs.Settlements.{IsPopulationOnce, IsReceived}
use Rattle.tatp_settle.specs.Separate.{Parts, AllFindNone, LogAt, LeadsToLast}
use Rattle.tatp_settle.proofs.StandingLaws.{has_number as is_numbered}
use Rattle.tatp_settle.proofs.LogLaws.{log_has, log_found, none_zero}
use Rattle.tatp_settle.proofs.NumberedLaws.{extent_log_numbered}
use Rattle.tatp_settle.proofs.PopulatedLaws.{populated}
use Rattle.tatp_settle.proofs.FoundLaws.{found, are_extents, chapter_found, all_listed}
use Rattle.tatp_settle.specs.Interleaving.{IsOneHistoryInAnyOrder}
use Rattle.tatp_settle.proofs.MergeLaws.{map_get, every_interleaving_is_one_history, merges_interleave}
use Rattle.tatp_settle.proofs.TakingLaws.{logs_can_be_merged}
use Rattle.tatp_settle.proofs.TurnLaws.{Rises, EachRises, StandsIn, clients_are_in_turn}
use Rattle.tatp_settle.proofs.PartLaws.{range_got, range_gives, ids_of_extent, extents_are_separate, extents_joined, rows_stay}

-- ---- the log of a number
abbrev find_log : ℕ → List ClosedSiteState → List ExtentState → Option ExtentLog
find_log e sites extents = find (log_has e) (map log_of_homeless sites ++ map log_of_extent extents)

abbrev entries_in : Option ExtentLog → List Entry
entries_in log = option_map_or (λ (log : ExtentLog). log.entries) log []

-- the log of number 0 is that of the calls without a home
homeless_log : (sites : List ClosedSiteState) (extents : List ExtentState) → All IsClosedSite sites → All IsExtent extents
    → ((log : ExtentLog) → Contains (map log_of_homeless sites ++ map log_of_extent extents) log → log.extent ≡ 0 → log.mixed ≡ true → ⊥)
    → All RecordsHomeless (entries_in (find_log 0 sites extents))
homeless_log [] extents closed are unmixed =
    let none : find_log 0 [] extents ≡ None = log_found extents 0 ∙ ap (option_map log_of_extent) (none_zero extents are) in
    subst (λ (log : Option ExtentLog). All RecordsHomeless (entries_in log)) (sym none) (All-nil RecordsHomeless)
homeless_log (s ∷ sites) extents closed are unmixed =
    ((All-head IsClosedSite s sites closed).homeless (false_from_ne_true s.homeless.mixed (unmixed (log_of_homeless s) (0, omega arith, refl) refl))).entries

-- ---- the extents of a run
abbrev homes_first : Run → ℕ → List SubscriberRows
homes_first run e = homes_of_extent (database_of run.population) (length run.population.subscribers) e

-- an extent that stands in what the run left, where its log leads
record Stood (run : Run) (e : ℕ) : Type 0 where
  pub extent : ExtentState
  pub is : extent_numbered run.closed e ≡ Some extent
  pub log : log_numbered run.closed e ≡ Some (log_of_extent extent)
  pub leads : Leads extent.opening extent.log extent.homes

abbrev of_partition_0 : ClosedSiteState → Bool
of_partition_0 s = s.partition == 0

stood : (run : Run) (e : ℕ) → IsClosed run.closed → IsPopulationOnce run → 1 ≤ e → is_some (log_numbered run.closed e) ≡ true → Stood run e
stood run e closed once l there = by (extent_numbered run.closed e) refl
  where
    of_extent : log_numbered run.closed e ≡ option_map log_of_extent (extent_numbered run.closed e)
    of_extent = extent_log_numbered run.closed e (λ z. omega (arith, l, z))

    by : (v : Option ExtentState) → extent_numbered run.closed e ≡ v → Stood run e
    by None is = absurd (false≢true (sym (ap is_some (of_extent ∙ ap (option_map log_of_extent) is)) ∙ there))
    by (Some x) is =
        let log : log_numbered run.closed e ≡ Some (log_of_extent x) = of_extent ∙ ap (option_map log_of_extent) is in
        let extent : IsExtent x = All-contains IsExtent (extents_of run.closed) x (are_extents run.closed closed) (found (is_numbered e) (extents_of run.closed) x is).0 in
        let placed = found (log_has e) (logs_of run.closed) (log_of_extent x) log in
        let unmixed : x.mixed ≡ false = false_from_ne_true x.mixed (λ mixed. once.unmixed e (log_of_extent x, placed.0, eqb-true x.number e placed.1, mixed)) in
        record { extent = x; is = is; log = log; leads = (extent.history unmixed).leads }

chapters_lead : (c : ClosedState) (e : ℕ) → IsClosed c → EachLeads (chapters_numbered c (suc e))
chapters_lead c e closed =
    all_listed (λ (d : ChapterState). Leads d.before d.entries d.after) (chapter_numbered c (suc e)) 0 (chapter_count c (suc e)) (λ i d is. let h : IsChapterOfHomes d = chapter_found c (suc e) i d closed is in h.history.leads)

-- the whole log of an extent leads from the population's homes to its homes now
whole_log_leads : (run : Run) (e : ℕ) → IsClosed run.closed → IsPopulationOnce run → suc e ≤ extents_populated run.population → Leads (homes_first run (suc e)) (entries_numbered run.closed (suc e)) (homes_numbered run.closed (suc e))
whole_log_leads run e closed once l =
    let c : ClosedState = run.closed in
    let first : homes_at_first run.population (suc e) ≡ Some (homes_first run (suc e)) = populated run.population (suc e) (omega arith) l in
    let s : Stood run (suc e) = stood run (suc e) closed once (omega arith) (once.stands (suc e) ∙ ap is_some first) in
    let x : ExtentState = s.extent in
    let joined : Joins (homes_first run (suc e)) (chapters_numbered c (suc e)) x.opening = once.joined (suc e) (log_of_extent x) (homes_first run (suc e)) s.log first in
    let led : Leads (homes_first run (suc e)) (entries_joined (chapters_numbered c (suc e)) ++ x.log) x.homes =
    joined_lead (homes_first run (suc e)) (chapters_numbered c (suc e)) x.opening x.log x.homes joined (chapters_lead c e closed) s.leads in
    let since : entries_since c (suc e) ≡ x.log = ap entries_in s.log in
    let homes : homes_numbered c (suc e) ≡ x.homes = ap (λ (v : Option ExtentState). option_map_or (λ (y : ExtentState). y.homes) v []) s.is in
    subst (λ (now : List SubscriberRows). Leads (homes_first run (suc e)) (entries_numbered c (suc e)) now) (sym homes)
    (subst (λ (log : List Entry). Leads (homes_first run (suc e)) (entries_joined (chapters_numbered c (suc e)) ++ log) x.homes) (sym since) led)

-- that of the calls without a home is of transactions without rows
whole_log_homeless : (run : Run) → IsClosed run.closed → IsPopulationOnce run → All RecordsHomeless (entries_numbered run.closed 0)
whole_log_homeless run closed once =
    let c : ClosedState = run.closed in
    joined_homeless (chapters_numbered c 0) (entries_since c 0)
    (all_listed (λ (d : ChapterState). All RecordsHomeless d.entries) (chapter_numbered c 0) 0 (chapter_count c 0) (λ i d is. let h : IsChapterWithoutHomes d = chapter_found c 0 i d closed is in h.history.entries))
    (homeless_log (filter of_partition_0 c.sites) (extents_of c) (All-filter of_partition_0 IsClosedSite c.sites closed.sites) (are_extents c closed) (λ log stands number mixed. once.unmixed 0 (log, stands, number, mixed)))

-- ---- calls without a home
nothing_found : (p : Tuple → Bool) → find p (rows_of no_rows) ≡ None
nothing_found p = by (find p (rows_of no_rows)) refl
  where
    by : (o : Option Tuple) → find p (rows_of no_rows) ≡ o → o ≡ None
    by None h = refl
    by (Some row) h = absurd (false≢true (sym (has-no_rows row) ∙ has-found p no_rows row h))

names_none : (key : Key) → home_of_key no_rows key ≡ None
names_none (Id s) = ap (option_map s_id_of) (nothing_found (has_key (s ∷ [])))
names_none (Number n) = ap (option_map s_id_of) (nothing_found (has_number n))

fails_on_nothing : (call : Call) → (transaction call no_tables).reply ≡ Failed 1
fails_on_nothing call = ap (λ (a : Answer). a.reply) (fails_without_home call no_tables (IsConsistent-home (record { s_id = 0; tables = no_tables }) (IsHome-none 0)) (names_none (key_of_call call)))

none_from : (o : Option ℕ) → (IsSome o → ⊥) → o ≡ None
none_from None h = refl
none_from (Some s) h = absurd (h refl)

find_none : (u : Database) (log : List Entry) → All RecordsHomeless log → ((place : ℕ) (entry : Entry) → slice_get log place ≡ Some entry → home_of_key u.subscribers (key_asked entry.ask) ≡ None) → AllFindNone u log
find_none u [] all none = tt
find_none u (entry ∷ more) all none =
    let r : RecordsHomeless entry = All-head RecordsHomeless entry more all in (
      record { call = r.call; asked = r.asked; none = ap (λ a. home_of_key u.subscribers (key_asked a)) (sym r.asked) ∙ none 0 entry refl; reply = r.reply ∙ fails_on_nothing r.call },
      find_none u more (All-tail RecordsHomeless entry more all) (λ place x h. none (suc place) x h),
    )

-- ---- the logs of a run
left_at : (run : Run) (e : ℕ) (log : List Entry) → slice_get (logs_left run) e ≡ Some log → (e ≤ extents_populated run.population) × (entries_numbered run.closed e ≡ log)
left_at run e log g =
    let got = map_get (entries_numbered run.closed) (range_with_len 0 (extents_populated run.population + 1)) e log g in
    let at = range_got 0 (extents_populated run.population + 1) e got.0 got.1 in
    let same : e ≡ got.0 = omega (arith, at.1) in
    (omega (arith, at.0), ap (entries_numbered run.closed) same ∙ got.2)

left_gives : (run : Run) (e : ℕ) → e ≤ extents_populated run.population → slice_get (logs_left run) e ≡ Some (entries_numbered run.closed e)
left_gives run e l =
    slice_get-map (entries_numbered run.closed) (range_with_len 0 (extents_populated run.population + 1)) e
    ∙ ap (option_map (entries_numbered run.closed)) (range_gives 0 (extents_populated run.population + 1) e (omega (arith, l)))
    ∙ ap (λ n. Some (entries_numbered run.closed n)) (zero-add e)

abbrev parts_of : Run → Parts
parts_of run = record { ids = ids_of_extent (length run.population.subscribers); last = homes_numbered run.closed }

module _ (run : Run) (closed : IsClosed run.closed) (once : IsPopulationOnce run) where
  each_rises : EachRises (logs_left run)
  each_rises e log g = subst Rises (left_at run e log g).1 (0, once.rise e)

  at_extent : (e : ℕ) (log : List Entry) → slice_get (logs_left run) e ≡ Some log → LogAt (parts_of run) (database_of run.population) e log
  at_extent zero log g =
      let at = left_at run 0 log g in
      subst (AllFindNone (database_of run.population)) at.1 (find_none (database_of run.population) (entries_numbered run.closed 0) (whole_log_homeless run closed once) (λ place entry here.
      none_from (home_of_key (database_of run.population).subscribers (key_asked entry.ask)) (λ names. once.homeless entry.client entry.number (record {
        found = record { extent = 0; place = place; entry = entry; stands = here; own = record { client = refl; number = refl } };
        homeless = refl;
        names = names;
      }))))
  at_extent (suc e) log g =
      let at = left_at run (suc e) log g in
      subst (λ (l : List Entry). Leads (homes_first run (suc e)) l (homes_numbered run.closed (suc e))) at.1 (whole_log_leads run e closed once at.0)

  known : IsReceived run → (p : PlacedEntry) → StandsIn (logs_left run) p → HasReceipt run.receipts p
  known received p s =
      let at = left_at run p.extent s.log s.at_extent in
      received.known p.extent s.place p.entry (ap (λ log. slice_get log s.place) at.1 ∙ s.at_place)

-- the homes now are those of a database in which each extent has its last
homes_are : (run : Run) (after : Database) → ((e : ℕ) (log : List Entry) → slice_get (logs_left run) (suc e) ≡ Some log → homes_numbered run.closed (suc e) ≡ homes_of_extent after (length run.population.subscribers) (suc e))
    → homes_left run ≡ homes_in after 1 (length run.population.subscribers)
homes_are run after last = extents_joined after (length run.population.subscribers) (homes_numbered run.closed) each
  where
    each : (e : ℕ) → 1 ≤ e → e ≤ extents_populated run.population → homes_numbered run.closed e ≡ homes_of_extent after (length run.population.subscribers) e
    each zero l m = absurd (omega (arith, l))
    each (suc e) l m = last e (entries_numbered run.closed (suc e)) (left_gives run (suc e) m)

-- THE LAW: the logs that a run left are one history in every order that keeps each log's own, from the population to the rows that it left
pub runs_are_one_history_in_any_order : (run : Run) → IsClean run.population → IsClosed run.closed → IsPopulationOnce run → IsOneHistoryInAnyOrder run
runs_are_one_history_in_any_order run clean closed once history interleaves =
    let n : ℕ = length run.population.subscribers in
    let u : Database = database_of run.population in
    let led : LeadsToLast (parts_of run) u (logs_left run) history =
    every_interleaving_is_one_history (parts_of run) (extents_are_separate n) history u (logs_left run) (IsConsistent-clean run.population clean) interleaves (at_extent run closed once) in
    let rows : AreRowsOf (range_with_len 1 n) led.after = rows_stay (range_with_len 1 n) u led.after (rows_of_clean run.population clean) led.consistent led.keys in
    let now : database_of (rows_left run) ≡ led.after = ap database_of_homes (homes_are run led.after led.homes) ∙ rows_are_the_database led.after (range_with_len 1 n) rows in
    subst (IsAnsweredInOrder u history) (sym now) led.answered

-- THE LAW: the logs that a run left are one history, from the population to the rows that it left
pub runs_are_one_history : (run : Run) → IsClean run.population → IsClosed run.closed → IsPopulationOnce run → IsReceived run
    → OneHistory (database_of run.population) (logs_left run) (database_of (rows_left run))
runs_are_one_history run clean closed once received =
    let merged : IsMergeable (logs_left run) = logs_can_be_merged (logs_left run) in
    record {
      history = merged.0;
      merges = merged.1;
      answered = runs_are_one_history_in_any_order run clean closed once merged.0 (merges_interleave merged.0 (logs_left run) merged.1);
      in_turn = clients_are_in_turn run.receipts (logs_left run) merged.0 (each_rises run closed once) received.rising (known run closed once received) merged.1;
    }
