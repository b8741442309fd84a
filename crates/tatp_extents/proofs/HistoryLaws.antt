-- Extents, pinned and set free, and what their logs say.
use Rattle.std.proofs.Common.{◌≡◌, ℕ, zero, suc, ◌+◌, ◌-◌, ◌<◌, ◌≤◌, true, false, List, [], ◌∷◌, ◌++◌, length, Option, Some, None, IsSomeAnd, slice_get, nat_lt, if◌then◌else◌, refl, sym, ◌∙◌, ap, subst, arith}
use Rattle.std.specs.List.{range_with_len}
use Rattle.std.specs.Option.{option_map_or}
use Rattle.std.proofs.Math.ListN.{set, length-set}
use Rattle.std.proofs.lemmas.Bool.Decides.{nat_tests}
use Rattle.std.proofs.lemmas.List.Elements.{All-push}
use Rattle.tatp_limits.specs.declared.limits.TheConstants.{EXTENT_SUBSCRIBERS}
use Rattle.tatp_homes.specs.Home.{SubscriberRows}
use Rattle.tatp_calls.specs.declared.entry.Entry.{Entry}
use Rattle.tatp_calls.specs.Transactions.{transaction}
use Rattle.tatp_extents.specs.Histories.{with_tables, Records, Leads, StampsRise}
use Rattle.tatp_logs.specs.Logs.{last_stamp_from}
use Rattle.tatp_extents.specs.Extents.{ExtentState, AreHomesOfExtent, IsExtent, LiesIn, s_ids, home_among, home_at, first_subscriber, place_in, with_home_at, with_entry, as_mixed}
use Rattle.tatp_extents.specs.Pinning.{PinnedState, IsPinned, Logs, HasItsHome}
use Rattle.tatp_extents.specs.HomelessLog.{IsHomelessHistory, RecordsHomeless}
use Rattle.tatp_extents.proofs.ListLaws.{get_set_same, set_set, set_same, get_within}
use Rattle.tatp_extents.proofs.ExtentLaws.{home_in_place, no_home_before, head_is, tail_is}

-- the home of a subscriber is the one in its place
pub among_is_at : (x : ExtentState) (s : ℕ) → s_ids x.homes ≡ range_with_len (first_subscriber x.number) (length x.homes) → home_among s x.homes ≡ home_at x s
among_is_at x s ids =
    elim (nat_lt s (first_subscriber x.number)) as (λ b. nat_lt s (first_subscriber x.number) ≡ b → home_among s x.homes ≡ (if b then None else slice_get x.homes (place_in x.number s))) [
      | true ↦ λ e. no_home_before x.homes (first_subscriber x.number) s ids (grind (arith, nat_tests, e))
      | false ↦ λ e.
          let there : first_subscriber x.number + place_in x.number s ≡ s = (let h : first_subscriber x.number ≤ s = grind (arith, nat_tests, e) in omega (arith, h)) in
          ap (λ k. home_among k x.homes) (sym there) ∙ home_in_place x.homes (first_subscriber x.number) (place_in x.number s) ids
    ] refl

-- where a subscriber lies in an extent, its home stands in its place
pub at_place : (x : ExtentState) (s : ℕ) → first_subscriber x.number ≤ s → home_at x s ≡ slice_get x.homes (place_in x.number s)
at_place x s h =
    let not_before : nat_lt s (first_subscriber x.number) ≡ false = grind (arith, nat_tests, h) in
    ap (λ b. if b then None else slice_get x.homes (place_in x.number s)) not_before

-- an extent may be pinned
pub pins : (p : PinnedState) → IsExtent p.extent → LiesIn p.s_id p.extent → IsPinned p
pins p h lies =
    let x : ExtentState = p.extent in
    let within : place_in x.number p.s_id < length x.homes = omega (arith, lies.0, lies.1) in
    let found = get_within x.homes (place_in x.number p.s_id) within in
    record {
      home = found.0;
      extent = subst (λ (hs : List SubscriberRows). IsExtent (record x { homes = hs })) (sym (set_same x.homes (place_in x.number p.s_id) found.0 found.1)) h;
      lies = lies;
    }

-- whatever home is put in the place of its subscriber, it stays pinned
pub stays_pinned : (p : PinnedState) (w : SubscriberRows) → IsPinned p → IsPinned (record p { extent = with_home_at p.extent p.s_id w })
stays_pinned p w h =
    let x : ExtentState = p.extent in
    let i : ℕ = place_in x.number p.s_id in
    record {
      home = h.home;
      extent = subst (λ (hs : List SubscriberRows). IsExtent (record x { homes = hs })) (sym (set_set x.homes i w h.home)) h.extent;
      lies = (h.lies.0, subst (λ (n : ℕ). p.s_id < first_subscriber x.number + n) (sym (length-set x.homes i w)) h.lies.1);
    }

-- the s_ids of homes of which one was replaced by another of its subscriber
s_ids_set : (homes : List SubscriberRows) (i : ℕ) (old new : SubscriberRows) → slice_get homes i ≡ Some old → new.s_id ≡ old.s_id → s_ids (set homes i new) ≡ s_ids homes
s_ids_set [] i old new is same = refl
s_ids_set (home ∷ homes) zero old new is same = let first : home ≡ old = cc in ap (λ s. s ∷ s_ids homes) (same ∙ ap (λ h. h.s_id) (sym first))
s_ids_set (home ∷ homes) (suc i) old new is same = ap (λ t. home.s_id ∷ t) (s_ids_set homes i old new is same)

-- homes of an extent, of which one was replaced by another of its subscriber
replaced : (e i : ℕ) (opening homes : List SubscriberRows) (old new : SubscriberRows) → slice_get homes i ≡ Some old → new.s_id ≡ old.s_id → AreHomesOfExtent e opening homes → AreHomesOfExtent e opening (set homes i new)
replaced e i opening homes old new is same h =
    let ids = s_ids_set homes i old new is same in
    let long = length-set homes i new in
    record {
      numbered = h.numbered;
      least = subst (λ (n : ℕ). 1 ≤ n) (sym long) h.least;
      most = subst (λ (n : ℕ). n ≤ EXTENT_SUBSCRIBERS) (sym long) h.most;
      in_order = ids ∙ h.in_order ∙ ap (range_with_len (first_subscriber e)) (sym long);
      same = h.same ∙ sym ids;
    }

-- homes in a row have the s_ids of their places
pub in_order_at : (homes : List SubscriberRows) (first i : ℕ) (home : SubscriberRows) → s_ids homes ≡ range_with_len first (length homes) → slice_get homes i ≡ Some home → home.s_id ≡ first + i
in_order_at [] first i home ids is = absurd cc
in_order_at (h ∷ homes) first zero home ids is = let one : h ≡ home = cc in ap (λ t. t.s_id) (sym one) ∙ head_is h homes first ids ∙ omega arith
in_order_at (h ∷ homes) first (suc i) home ids is = in_order_at homes (first + 1) i home (tail_is h homes first ids) is ∙ omega arith

leads_one_more : (before : List SubscriberRows) (log : List Entry) (between after : List SubscriberRows) (entry : Entry) (place : ℕ) → Leads before log between → Records entry place between after → Leads before (log ++ entry ∷ []) after
leads_one_more before [] between after entry place h r = (place, after, subst (λ (t : List SubscriberRows). Records entry place t after) h r, refl)
leads_one_more before (first ∷ more) between after entry place h r = (h.0, h.1, h.2, leads_one_more h.1 more between after entry place h.3 r)

-- the last stamp after an entry is that of those that follow it, and its own where none does
pub last_of_more : (least : ℕ) (e : Entry) (more : List Entry) → last_stamp_from least (e ∷ more) ≡ last_stamp_from e.stamp more
last_of_more least e [] = refl
last_of_more least e (f ∷ more) =
    let place : length (e ∷ f ∷ more) - 1 ≡ suc (length (f ∷ more) - 1) = omega arith in
    ap (λ (k : ℕ). option_map_or (λ (x : Entry). x.stamp) (slice_get (e ∷ f ∷ more) k) least) place
    ∙ (last_of_more least f more ∙ sym (last_of_more e.stamp f more))

pub rise_one_more : (least : ℕ) (log : List Entry) (entry : Entry) → StampsRise least log → last_stamp_from least log < entry.stamp → StampsRise least (log ++ entry ∷ [])
rise_one_more least [] entry h later = (later, tt)
rise_one_more least (e ∷ more) entry h later = (h.0, rise_one_more e.stamp more entry h.1 (subst (λ (n : ℕ). n < entry.stamp) (last_of_more least e more) later))

-- a call that ended is logged
pub logged : (p : PinnedState) (entry : Entry) → Logs p entry → IsExtent (with_entry p.extent entry)
logged p entry h =
    let x : ExtentState = p.extent in
    let i : ℕ = place_in x.number p.s_id in
    let before : List SubscriberRows = set x.homes i h.home in
    let r : Records entry i before x.homes = h.records in
    let before_is = h.extent.of_extent in
    let past = h.extent.history h.unmixed in
    record {
      of_extent = subst (λ (t : List SubscriberRows). AreHomesOfExtent x.number x.opening t) (sym r.homes) (replaced x.number i x.opening before r.home (with_tables r.home (transaction r.call r.home.tables).database) r.stands refl before_is);
      history = λ _. record {
        leads = leads_one_more x.opening x.log before x.homes entry i past.leads r;
        rise = rise_one_more x.kept_stamp x.log entry past.rise h.later;
      };
    }

-- the call that ended is no standard transaction
pub mixes : (p : PinnedState) → IsPinned p → HasItsHome p → IsExtent (as_mixed p.extent)
mixes p h own =
    let x : ExtentState = p.extent in
    let i : ℕ = place_in x.number p.s_id in
    let within : i < length x.homes = omega (arith, h.lies.0, h.lies.1) in
    let now = get_within x.homes i within in
    let its : now.0.s_id ≡ p.s_id = subst (λ (t : Option SubscriberRows). IsSomeAnd t (λ home. home.s_id ≡ p.s_id)) (at_place x p.s_id h.lies.0 ∙ now.1) own in
    let made : slice_get (set x.homes i h.home) i ≡ Some h.home = get_set_same x.homes i h.home now.0 now.1 in
    let theirs : h.home.s_id ≡ first_subscriber x.number + i = in_order_at (set x.homes i h.home) (first_subscriber x.number) i h.home h.extent.of_extent.in_order made in
    let same : now.0.s_id ≡ h.home.s_id = its ∙ (let le : first_subscriber x.number ≤ p.s_id = h.lies.0 in omega (arith, le)) ∙ sym theirs in
    let back : set (set x.homes i h.home) i now.0 ≡ x.homes = set_set x.homes i h.home now.0 ∙ set_same x.homes i now.0 now.1 in
    record {
      of_extent = subst (λ (t : List SubscriberRows). AreHomesOfExtent x.number x.opening t) back (replaced x.number i x.opening (set x.homes i h.home) h.home now.0 made same h.extent.of_extent);
      history = λ e. absurd cc;
    }

-- a call without a home that ended is logged
pub homeless_logged : (least : ℕ) (log : List Entry) (entry : Entry) → IsHomelessHistory least log → RecordsHomeless entry → last_stamp_from least log < entry.stamp → IsHomelessHistory least (log ++ entry ∷ [])
homeless_logged least log entry h records later = record { entries = All-push RecordsHomeless log entry h.entries records; rise = rise_one_more least log entry h.rise later }
