-- An extent is taken or given, and a landing is told to the routes: no row changes, and what holds of the whole still holds.
use Rattle.std.proofs.Common.{◌≡◌, ◌≢◌, inl, inr, ℕ, ◌<◌, true, false, List, [], ◌∷◌, ◌++◌, length, Option, Some, None, Ok, slice_get, refl, sym, ◌∙◌, ap, subst, arith}
use Rattle.std.specs.Prelude.{remove}
use Rattle.std.specs.Option.{option_flatten, option_and_then, option_map}
use Rattle.std.proofs.Math.ListN.{set, length-set}
use Rattle.tatp_extents.specs.Extents.{ExtentState, extent_of, home_at}
use Rattle.std.proofs.lemmas.Option.{slice_get_within}
use Rattle.tatp_partition.specs.Moving.{LandedState, moved, with_extent, Gives}
use Rattle.tatp_partition.specs.Sites.{SiteState, slot}
use Rattle.tatp_partition.specs.Sound.{IsSite}
use Rattle.tatp_move.specs.declared.route.Route.{Route}
use Rattle.tatp_move.specs.declared.route.RouteUpdate.{RouteUpdate}
use Rattle.tatp_move.specs.declared.route.RouteUpdate.TheVariants.{Set as Is_set, Superseded as Is_superseded}
use Rattle.tatp_move.specs.Routing.{RoutesState, UpdatesRoute}
use Rattle.tatp_dispatch.specs.Counts.{one}
use Rattle.tatp_dispatch.specs.Worlds.{WorldState}
use Rattle.tatp_dispatch.specs.Placed.{IsWhole}
use Rattle.tatp_dispatch.specs.Routed.{extent_in, moves_of, stands_at, AreRoutesRight, NamePartitions}
use Rattle.tatp_dispatch.specs.Serving.{IsWorld}
use Rattle.tatp_dispatch.proofs.CountLaws.{same_or_not, get_set_same, get_set_other, at_set}
use Rattle.tatp_dispatch.proofs.PlaceLaws.{slot_has, extent_at_site, extent_in_hand}
use Rattle.tatp_dispatch.proofs.RouteLaws.{routes_taken, routes_given, routes_settled, get_push, remove_old}
use Rattle.tatp_dispatch.proofs.SlotLaws.{Changes, placed_changed, extent_other, stands_other, extent_here, extent_held, stands_in_hand, stands_here, hand_free}
use Rattle.tatp_dispatch.proofs.WorldLaws.{Kept, Carries}

some_inj : {A : Type 0} (x y : A) → Some x ≡ Some y → x ≡ y
some_inj x y h = cc

-- ---- the extent that is taken
pub taken_extent : (slots : List (Option ExtentState)) (e : ℕ) (parcel : ExtentState) (o : Option ExtentState) → slot slots e ≡ o → option_map moved o ≡ Some parcel → (x : ExtentState) × (slice_get slots e ≡ Some (Some x)) × (moved x ≡ parcel)
taken_extent slots e parcel None is h = absurd cc
taken_extent slots e parcel (Some x) is h = (x, slot_has slots e x is, some_inj (moved x) parcel h)

whole_moved : (n e : ℕ) (x parcel : ExtentState) → moved x ≡ parcel → IsWhole n e x → IsWhole n e parcel
whole_moved n e x parcel is w = subst (IsWhole n e) is (record { least = w.least; number = w.number; count = w.count; homes = w.homes })

-- an extent with the same homes stands where the other stood
pub homes_same : (k : ℕ) (old new : ℕ → Option ExtentState) (e : ℕ) (x y : ExtentState) → old e ≡ Some x → new e ≡ Some y → home_at y k ≡ home_at x k → ((j : ℕ) → j ≢ e → new j ≡ old j) → option_and_then (λ (z : ExtentState). home_at z k) (new (extent_of k)) ≡ option_and_then (λ (z : ExtentState). home_at z k) (old (extent_of k))
homes_same k old new e x y was is same others = elim (same_or_not (extent_of k) e) as (λ _. option_and_then (λ (z : ExtentState). home_at z k) (new (extent_of k)) ≡ option_and_then (λ (z : ExtentState). home_at z k) (old (extent_of k))) [
  | inl near ↦ ap (λ (j : ℕ). option_and_then (λ (z : ExtentState). home_at z k) (new j)) near ∙ (ap (option_and_then (λ (z : ExtentState). home_at z k)) is ∙ (same ∙ (sym (ap (option_and_then (λ (z : ExtentState). home_at z k)) was) ∙ sym (ap (λ (j : ℕ). option_and_then (λ (z : ExtentState). home_at z k) (old j)) near))))
  | inr far ↦ ap (option_and_then (λ (z : ExtentState). home_at z k)) (others (extent_of k) far)
]

pub take_carries : (w : WorldState) (p e : ℕ) (s s' : SiteState) (parcel : ExtentState) → IsWorld w → slice_get w.sites p ≡ Some s → IsSite s' → option_map moved (slot s.slots e) ≡ Some parcel → s' ≡ with_extent s e None → Carries w p s s' (set w.parcels e (Some parcel)) w.landings
take_carries w p e s s' parcel good here site takes is =
    let n : ℕ = w.routes.subscribers in
    let t = taken_extent s.slots e parcel (slot s.slots e) refl takes in
    let x : ExtentState = t.0 in
    let free = hand_free n w.sites w.parcels p e s t.0 good.extents here t.1 in
    let put : slice_get (set w.parcels e (Some parcel)) e ≡ Some (Some parcel) = get_set_same w.parcels e (Some parcel) None free in
    let whole = whole_moved n e t.0 parcel t.2 (good.extents.at_sites p e s t.0 here t.1) in
    let held : one (slot (set w.parcels e (Some parcel)) e) ≡ 1 = ap (λ k. one (option_flatten k)) put in
    let unheld : one (slot w.parcels e) ≡ 0 = ap (λ k. one (option_flatten k)) free in
    let c : Changes n p e s s' None w.parcels (set w.parcels e (Some parcel)) = record {
      before = Some t.0;
      had = t.1;
      slots = ap (λ k. k.slots) is;
      partition = ap (λ k. k.partition) is;
      length_same = length-set w.parcels e (Some parcel);
      others = λ k other. get_set_other w.parcels e k (Some parcel) other;
      moved = omega (arith, held, unheld);
      now_whole = λ y z. absurd cc;
      hand_whole = λ y z. subst (IsWhole n e) (some_inj parcel y (some_inj (Some parcel) (Some y) (sym put ∙ z))) whole;
    } in
    let placed = placed_changed n w.sites w.parcels (set w.parcels e (Some parcel)) p e s s' None good.extents here c in
    let was : extent_in w.sites w.parcels e ≡ Some t.0 = extent_at_site n w.sites w.parcels p e s t.0 good.extents here t.1 in
    let now : extent_in (set w.sites p s') (set w.parcels e (Some parcel)) e ≡ Some parcel = extent_held n w.sites w.parcels (set w.parcels e (Some parcel)) p e s s' parcel good.extents here c put in
    let others : (k : ℕ) → k ≢ e → extent_in (set w.sites p s') (set w.parcels e (Some parcel)) k ≡ extent_in w.sites w.parcels k = λ k other. extent_other n w.sites w.parcels (set w.parcels e (Some parcel)) p e k s s' None here c other in
    record {
      here = here;
      site = site;
      partition = ap (λ k. k.partition) is;
      modul = ap (λ k. k.modul) is;
      running = ap (λ k. k.running) is;
      placed = placed;
      homes = λ k. homes_same k (extent_in w.sites w.parcels) (extent_in (set w.sites p s') (set w.parcels e (Some parcel))) e t.0 parcel was now (ap (λ (y : ExtentState). home_at y k) (sym t.2)) others;
      partitions = λ u i at. good.partitions.of_landings i u at;
      routes = routes_taken w.routes.routes w.landings (λ k. moves_of (extent_in w.sites w.parcels k)) (stands_at w.sites) (λ k. moves_of (extent_in (set w.sites p s') (set w.parcels e (Some parcel)) k)) (stands_at (set w.sites p s')) e t.0.moves
          (ap moves_of was) (ap moves_of now ∙ ap (λ (y : ExtentState). Some y.moves) (sym t.2)) (stands_in_hand n (set w.sites p s') (set w.parcels e (Some parcel)) e parcel placed put)
          (λ k other. (ap moves_of (others k other), stands_other n w.sites w.parcels (set w.parcels e (Some parcel)) p e k s s' None here c other)) good.routes;
    }

pub give_carries : (w : WorldState) (p e : ℕ) (s s' : SiteState) (x : ExtentState) (t : LandedState) → IsWorld w → slice_get w.sites p ≡ Some s → IsSite s' → slice_get w.parcels e ≡ Some (Some x) → Gives s x (Ok t) s' → Carries w p s s' (set w.parcels e None) (w.landings ++ t ∷ [])
give_carries w p e s s' x t good here site hand gives =
    let n : ℕ = w.routes.subscribers in
    let whole = good.extents.in_hand e x hand in
    let num : x.number ≡ e = whole.number in
    let place : slice_get s.slots e ≡ Some None = ap (slice_get s.slots) (sym num) ∙ gives.0 in
    let is : s' ≡ with_extent s e (Some x) = gives.2 ∙ ap (λ (k : ℕ). with_extent s k (Some x)) num in
    let put : slice_get (set w.parcels e None) e ≡ Some None = get_set_same w.parcels e None (Some x) hand in
    let held : one (slot w.parcels e) ≡ 1 = ap (λ k. one (option_flatten k)) hand in
    let unheld : one (slot (set w.parcels e None) e) ≡ 0 = ap (λ k. one (option_flatten k)) put in
    let c : Changes n p e s s' (Some x) w.parcels (set w.parcels e None) = record {
      before = None;
      had = place;
      slots = ap (λ k. k.slots) is;
      partition = ap (λ k. k.partition) is;
      length_same = length-set w.parcels e None;
      others = λ k other. get_set_other w.parcels e k None other;
      moved = omega (arith, held, unheld);
      now_whole = λ y z. subst (IsWhole n e) (some_inj x y z) whole;
      hand_whole = λ y z. absurd (let f : Some None ≡ Some (Some y) = sym put ∙ z in cc);
    } in
    let placed = placed_changed n w.sites w.parcels (set w.parcels e None) p e s s' (Some x) good.extents here c in
    let was : extent_in w.sites w.parcels e ≡ Some x = extent_in_hand n w.sites w.parcels e x good.extents hand in
    let now : extent_in (set w.sites p s') (set w.parcels e None) e ≡ Some x = extent_here n w.sites w.parcels (set w.parcels e None) p e s s' x good.extents here c in
    let others : (k : ℕ) → k ≢ e → extent_in (set w.sites p s') (set w.parcels e None) k ≡ extent_in w.sites w.parcels k = λ k other. extent_other n w.sites w.parcels (set w.parcels e None) p e k s s' (Some x) here c other in
    let part : s.partition ≡ p = (good.sites p s here).partition in
    let lt : p < length w.sites = slice_get_within w.sites p s here in
    let has : slice_get s'.slots e ≡ Some (Some x) = ap (λ k. slice_get k.slots e) is ∙ get_set_same s.slots e (Some x) None place in
    record {
      here = here;
      site = site;
      partition = ap (λ k. k.partition) is;
      modul = ap (λ k. k.modul) is;
      running = ap (λ k. k.running) is;
      placed = placed;
      homes = λ k. homes_same k (extent_in w.sites w.parcels) (extent_in (set w.sites p s') (set w.parcels e None)) e x x was now refl others;
      partitions = λ u i at. elim (get_push w.landings t u i at) as (λ _. u.site < length w.sites) [
        | inl old ↦ good.partitions.of_landings i u old
        | inr new ↦ let same : u.site ≡ p = ap (λ k. k.site) (sym new) ∙ (ap (λ k. k.site) gives.1 ∙ part) in omega (arith, lt)
      ];
      routes = routes_given w.routes.routes w.landings (λ k. moves_of (extent_in w.sites w.parcels k)) (stands_at w.sites) (λ k. moves_of (extent_in (set w.sites p s') (set w.parcels e None) k)) (stands_at (set w.sites p s')) e x.moves s.partition t
          (ap (λ k. k.number) gives.1 ∙ num) (ap (λ k. k.moves) gives.1) (ap (λ k. k.site) gives.1) (ap moves_of was) (stands_in_hand n w.sites w.parcels e x good.extents hand)
          (stands_here n (set w.sites p s') (set w.parcels e None) p e s' x placed (get_set_same w.sites p s' s here) has ∙ ap (λ k. Some k.partition) is)
          (λ k. elim (same_or_not k e) as (λ _. moves_of (extent_in (set w.sites p s') (set w.parcels e None) k) ≡ moves_of (extent_in w.sites w.parcels k)) [
            | inl same ↦ ap (λ (j : ℕ). moves_of (extent_in (set w.sites p s') (set w.parcels e None) j)) same ∙ (ap moves_of now ∙ (sym (ap moves_of was) ∙ sym (ap (λ (j : ℕ). moves_of (extent_in w.sites w.parcels j)) same)))
            | inr other ↦ ap moves_of (others k other)
          ])
          (λ k other. stands_other n w.sites w.parcels (set w.parcels e None) p e k s s' (Some x) here c other) good.routes;
    }

-- ---- a landing is told to the routes
abbrev pub routed_world : WorldState → List Route → List LandedState → WorldState
routed_world w routes landings = record w { routes = record w.routes { routes = routes }; landings = landings }

keeps_routed : (w : WorldState) (routes : List Route) (landings : List LandedState) → IsWorld w → length routes ≡ length w.routes.routes → NamePartitions (length w.sites) routes landings → AreRoutesRight routes landings (λ e. moves_of (extent_in w.sites w.parcels e)) (stands_at w.sites) → Kept w (routed_world w routes landings)
keeps_routed w routes landings good long name right = record {
  world = record {
    lawful = good.lawful;
    few = good.few;
    queues = good.queues;
    extents = good.extents;
    sites = good.sites;
    one_call_a_home = good.one_call_a_home;
    clients = good.clients;
    items = good.items;
    calls = good.calls;
    routed = long ∙ good.routed;
    route_partitions = good.route_partitions;
    partitions = name;
    routes = right;
    keys = good.keys;
    keys_back = good.keys_back;
    consistent = good.consistent;
    consistent_back = good.consistent_back;
    populated = good.populated;
    populated_back = good.populated_back;
  };
  stays = record { database = refl; calls = λ c. refl; completions = refl };
  back = refl;
  completions = refl;
}

pub route_keeps : (w : WorldState) (i : ℕ) (t : LandedState) (settled : RouteUpdate) (routes : RoutesState) → IsWorld w → slice_get w.landings i ≡ Some t → UpdatesRoute w.routes t settled routes → Kept w (record w { routes = routes; landings = remove w.landings i })
route_keeps w i t Is_set routes good at st =
    let new : List Route = set w.routes.routes t.number (record { partition = t.site; moves = t.moves }) in
    let name : NamePartitions (length w.sites) new (remove w.landings i) = record {
      some = good.partitions.some;
      of_routes = λ e route is. at_set (λ (j : ℕ) (z : Route). z.partition < length w.sites) w.routes.routes t.number st.0 (record { partition = t.site; moves = t.moves }) st.1 (good.partitions.of_landings i t at) (λ j z other was. good.partitions.of_routes j z was) e route is;
      of_landings = λ j u is. let r = remove_old w.landings i j u is in good.partitions.of_landings r.0 u r.1;
    } in
    let k = keeps_routed w new (remove w.landings i) good (length-set w.routes.routes t.number (record { partition = t.site; moves = t.moves })) name (routes_settled w.routes.routes new w.landings (λ e. moves_of (extent_in w.sites w.parcels e)) (stands_at w.sites) i t true at (st.0, st.1, st.2, refl) good.routes) in
    subst (λ (r : RoutesState). Kept w (record w { routes = r; landings = remove w.landings i })) (sym st.3) k
route_keeps w i t Is_superseded routes good at st =
    let name : NamePartitions (length w.sites) w.routes.routes (remove w.landings i) = record {
      some = good.partitions.some;
      of_routes = good.partitions.of_routes;
      of_landings = λ j u is. let r = remove_old w.landings i j u is in good.partitions.of_landings r.0 u r.1;
    } in
    let k = keeps_routed w w.routes.routes (remove w.landings i) good refl name (routes_settled w.routes.routes w.routes.routes w.landings (λ e. moves_of (extent_in w.sites w.parcels e)) (stands_at w.sites) i t false at (refl, st.0) good.routes) in
    subst (λ (r : RoutesState). Kept w (record w { routes = r; landings = remove w.landings i })) (sym st.1) k
