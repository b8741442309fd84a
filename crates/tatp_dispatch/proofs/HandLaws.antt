-- What is in hand stays there, and where nothing is in hand routes name the holders.
use Rattle.std.proofs.Common.{◌≡◌, ◌≢◌, ◌⊎◌, inl, inr, ℕ, ◌≤◌, Bool, List, Option, Some, None, Result, Ok, Err, slice_get, refl, sym, ◌∙◌, ap, arith}
use Rattle.std.specs.Prelude.{remove}
use Rattle.std.specs.Option.{option_flatten}
use Rattle.std.proofs.lemmas.Bool.{cases_lt}
use Rattle.std.proofs.lemmas.Option.{slice_get_cases}
use Rattle.tatp_calls.specs.declared.ask.Ask.{Ask}
use Rattle.tatp_extents.specs.Extents.{ExtentState}
use Rattle.tatp_extents.specs.Opening.{extent_count}
use Rattle.tatp_partition.specs.Moving.{LandedState}
use Rattle.tatp_partition.specs.Sites.{SiteState, slot}
use Rattle.tatp_partition.specs.Stopping.{Stops, Resumes, SetsBreak, ClearsBreak}
use Rattle.tatp_move.specs.declared.route.Route.{Route}
use Rattle.tatp_events.specs.declared.event.Event.{Event}
use Rattle.tatp_events.specs.declared.event.Event.TheVariants.{Submit, Begin, Deny, Step, Take, Give, Route as Tell, Checkpoint, Stop, Resume, One, Break, Clear}
use Rattle.tatp_events.specs.declared.event.Answer.{Answer}
use Rattle.tatp_events.specs.declared.event.Answer.TheVariants.{Queued, Began, Away, Denied, Moved, Ended, Parcel, Landed, Set, Superseded, Chapter, Done}
use Rattle.tatp_events.specs.declared.refusal.Refusal.{Refusal}
use Rattle.tatp_events.specs.declared.refusal.Refusal.TheVariants.{NoMemory}
use Rattle.tatp_dispatch.specs.Counts.{one, first_of}
use Rattle.tatp_dispatch.specs.Events.{Happens, Submits, BeginsAt, DeniesAt, AdvancesAt, TakesExtent, TakesAt, GivesExtent, GivesAt, RoutesExtent, CheckpointsAt, DoesAt}
use Rattle.tatp_dispatch.specs.InHand.{HoldsParcel, HoldsLanding, HasLanded, WasTold, NoneInHand, NamesTheHolder}
use Rattle.tatp_dispatch.specs.Obstacles.{step_obstacle_at, one_obstacle_at, stop_obstacle_at, resume_obstacle_at, break_obstacle_at, clear_obstacle_at}
use Rattle.tatp_dispatch.specs.Placed.{extent_at}
use Rattle.tatp_dispatch.specs.Routed.{extent_in, moves_of, stands_at}
use Rattle.tatp_dispatch.specs.Serving.{IsWorld}
use Rattle.tatp_dispatch.specs.Worlds.{WorldState}
use Rattle.tatp_dispatch.proofs.CountLaws.{same_or_not, total_none, first_from, first_none_at, IsAt}
use Rattle.tatp_dispatch.proofs.MoveLaws.{taken_extent}
use Rattle.tatp_dispatch.proofs.PlaceLaws.{slot_has, extent_at_site}
use Rattle.tatp_dispatch.proofs.RouteLaws.{push_get, remove_other}
use Rattle.tatp_dispatch.proofs.SlotLaws.{slot_set_other, hand_free, stands_here}

some_inj : {A : Type 0} (x y : A) → Some x ≡ Some y → x ≡ y
some_inj x y h = cc

-- ---- events that leave it all
abbrev hand_of : WorldState → List (Option ExtentState) × List LandedState
hand_of w = (w.parcels, w.landings)

submit_leaves : (w w' : WorldState) (client : ℕ) (ask : Ask) (answered : Result Answer Refusal) → Submits w client ask answered w' → hand_of w' ≡ hand_of w
submit_leaves w w' client ask (Ok (Queued p)) h = ap hand_of h.1.after
submit_leaves w w' client ask (Err refusal) h = ap hand_of h.1
submit_leaves w w' client ask (Ok other) h = absurd h

begin_leaves : (w w' : WorldState) (p : ℕ) (answered : Result Answer Refusal) → BeginsAt w p answered w' → hand_of w' ≡ hand_of w
begin_leaves w w' p (Ok (Began client)) h = ap hand_of h.1.after
begin_leaves w w' p (Ok (Denied client)) h = ap hand_of h.1.after
begin_leaves w w' p (Ok (Away q)) h = ap hand_of h.1.after
begin_leaves w w' p (Err refusal) h = ap hand_of h.0.1
begin_leaves w w' p (Ok other) h = absurd h

deny_leaves : (w w' : WorldState) (p : ℕ) (answered : Result Answer Refusal) → DeniesAt w p answered w' → hand_of w' ≡ hand_of w
deny_leaves w w' p (Ok (Denied client)) h = ap hand_of h.1.after
deny_leaves w w' p (Err refusal) h = ap hand_of h.1
deny_leaves w w' p (Ok other) h = absurd h

advance_leaves : (obstacle : Option Refusal) (w w' : WorldState) (p : ℕ) (answered : Result Answer Refusal) → AdvancesAt obstacle w p answered w' → hand_of w' ≡ hand_of w
advance_leaves obstacle w w' p (Ok Moved) h = ap hand_of h.1.after
advance_leaves obstacle w w' p (Ok (Ended client ask reply)) h = ap hand_of h.1.4.after
advance_leaves obstacle w w' p (Err refusal) h = ap hand_of h.1
advance_leaves obstacle w w' p (Ok other) h = absurd h

checkpoint_leaves : (w w' : WorldState) (p e : ℕ) (answered : Result Answer Refusal) → CheckpointsAt w p e answered w' → hand_of w' ≡ hand_of w
checkpoint_leaves w w' p e (Ok (Chapter extent index entries)) h = ap hand_of h.1.after
checkpoint_leaves w w' p e (Err NoMemory) h = ap hand_of h.1
checkpoint_leaves w w' p e (Err refusal) h = ap hand_of h.1
checkpoint_leaves w w' p e (Ok other) h = absurd h

does_leaves : (obstacle : Option Refusal) (w w' : WorldState) (p : ℕ) (Change : SiteState → SiteState → Type 0) (answered : Result Answer Refusal) → DoesAt obstacle w p Change answered w' → hand_of w' ≡ hand_of w
does_leaves obstacle w w' p Change (Ok Done) h = ap hand_of h.1.4
does_leaves obstacle w w' p Change (Err refusal) h = ap hand_of h.1
does_leaves obstacle w w' p Change (Ok other) h = absurd h

-- ---- parcels
parcel_left : (w w' : WorldState) (e : ℕ) (x : ExtentState) → hand_of w' ≡ hand_of w → HoldsParcel w e x → HoldsParcel w' e x
parcel_left w w' e x same held = ap (λ (hand : List (Option ExtentState) × List LandedState). slot hand.0 e) same ∙ held

-- an extent that is taken isn't in hand, so the parcel in hand is another's
parcel_taken : (w w' : WorldState) (p k number moves e : ℕ) (x : ExtentState) → IsWorld w → TakesAt w p k number moves w' → HoldsParcel w e x → HoldsParcel w' e x
parcel_taken w w' p k number moves e x good t held =
    let y = taken_extent t.before.slots k t.parcel (slot t.before.slots k) refl t.takes.1 in
    let free : slot w.parcels k ≡ None = ap option_flatten (hand_free w.routes.subscribers w.sites w.parcels p k t.before y.0 good.extents t.site y.1) in
    let other : e ≢ k = λ same. let f : None ≡ Some x = sym free ∙ (ap (slot w.parcels) (sym same) ∙ held) in absurd cc in
    ap (λ (u : WorldState). slot u.parcels e) t.after ∙ (slot_set_other w.parcels k e (Some t.parcel) other ∙ held)

parcel_given : (w w' : WorldState) (p k number moves e : ℕ) (x : ExtentState) → GivesAt w p k number moves w' → HoldsParcel w e x → HoldsParcel w' e x ⊎ HasLanded (Give p k) (Ok (Landed number moves)) e x
parcel_given w w' p k number moves e x g held = elim (same_or_not e k) as (λ _. HoldsParcel w' e x ⊎ HasLanded (Give p k) (Ok (Landed number moves)) e x) [
  | inl same ↦
      let is : g.parcel ≡ x = some_inj g.parcel x (sym g.in_hand ∙ (ap (slot w.parcels) (sym same) ∙ held)) in
      let of : number ≡ e = g.of_number ∙ sym same in
      let many : moves ≡ x.moves = g.of_moves ∙ ap (λ (y : ExtentState). y.moves) is in
      inr (p, ap (Give p) (sym same), ap (λ (n : ℕ). Ok (Landed n moves)) of ∙ ap (λ (m : ℕ). Ok (Landed e m)) many)
  | inr other ↦ inl (ap (λ (u : WorldState). slot u.parcels e) g.after ∙ (slot_set_other w.parcels k e None other ∙ held))
]

take_parcels : (w w' : WorldState) (p k e : ℕ) (x : ExtentState) (answered : Result Answer Refusal) → IsWorld w → TakesExtent w p k answered w' → HoldsParcel w e x → HoldsParcel w' e x
take_parcels w w' p k e x (Ok (Parcel number moves)) good h held = parcel_taken w w' p k number moves e x good h.1 held
take_parcels w w' p k e x (Err NoMemory) good h held = parcel_left w w' e x (ap hand_of h.1) held
take_parcels w w' p k e x (Err refusal) good h held = parcel_left w w' e x (ap hand_of h.1) held
take_parcels w w' p k e x (Ok other) good h held = absurd h

give_parcels : (w w' : WorldState) (p k e : ℕ) (x : ExtentState) (answered : Result Answer Refusal) → GivesExtent w p k answered w' → HoldsParcel w e x → HoldsParcel w' e x ⊎ HasLanded (Give p k) answered e x
give_parcels w w' p k e x (Ok (Landed number moves)) h held = parcel_given w w' p k number moves e x h.1 held
give_parcels w w' p k e x (Err refusal) h held = inl (parcel_left w w' e x (ap hand_of h.1) held)
give_parcels w w' p k e x (Ok other) h held = absurd h

route_parcels : (w w' : WorldState) (k moves e : ℕ) (x : ExtentState) (answered : Result Answer Refusal) → RoutesExtent w k moves answered w' → HoldsParcel w e x → HoldsParcel w' e x
route_parcels w w' k moves e x (Ok (Set number p)) h held = ap (λ (u : WorldState). slot u.parcels e) h.1.2.after ∙ held
route_parcels w w' k moves e x (Ok (Superseded number)) h held = ap (λ (u : WorldState). slot u.parcels e) h.1.1.after ∙ held
route_parcels w w' k moves e x (Err refusal) h held = parcel_left w w' e x (ap hand_of h.2) held
route_parcels w w' k moves e x (Ok other) h held = absurd h

pub parcels_stay : (w w' : WorldState) (event : Event) (answered : Result Answer Refusal) (e : ℕ) (x : ExtentState) → IsWorld w → Happens w event answered w' → HoldsParcel w e x → HoldsParcel w' e x ⊎ HasLanded event answered e x
parcels_stay w w' (Submit client ask) answered e x good h held = inl (parcel_left w w' e x (submit_leaves w w' client ask answered h) held)
parcels_stay w w' (Begin p) answered e x good h held = inl (parcel_left w w' e x (begin_leaves w w' p answered h) held)
parcels_stay w w' (Deny p) answered e x good h held = inl (parcel_left w w' e x (deny_leaves w w' p answered h) held)
parcels_stay w w' (Step p) answered e x good h held = inl (parcel_left w w' e x (advance_leaves (step_obstacle_at w p) w w' p answered h) held)
parcels_stay w w' (One p) answered e x good h held = inl (parcel_left w w' e x (advance_leaves (one_obstacle_at w p) w w' p answered h) held)
parcels_stay w w' (Take p k) answered e x good h held = inl (take_parcels w w' p k e x answered good h held)
parcels_stay w w' (Give p k) answered e x good h held = give_parcels w w' p k e x answered h held
parcels_stay w w' (Tell k moves) answered e x good h held = inl (route_parcels w w' k moves e x answered h held)
parcels_stay w w' (Checkpoint p k) answered e x good h held = inl (parcel_left w w' e x (checkpoint_leaves w w' p k answered h) held)
parcels_stay w w' (Stop p) answered e x good h held = inl (parcel_left w w' e x (does_leaves (stop_obstacle_at w p) w w' p (λ s s'. Stops s (Ok tt) s') answered h) held)
parcels_stay w w' (Resume p) answered e x good h held = inl (parcel_left w w' e x (does_leaves (resume_obstacle_at w p) w w' p (λ s s'. Resumes s (Ok tt) s') answered h) held)
parcels_stay w w' (Break p procedure pc) answered e x good h held = inl (parcel_left w w' e x (does_leaves (break_obstacle_at w p procedure pc) w w' p (λ s s'. SetsBreak s procedure pc (Ok tt) s') answered h) held)
parcels_stay w w' (Clear p procedure pc) answered e x good h held = inl (parcel_left w w' e x (does_leaves (clear_obstacle_at w p) w w' p (λ s s'. (was_set : Bool) × ClearsBreak s procedure pc was_set s') answered h) held)

-- ---- landings
landing_left : (w w' : WorldState) (t : LandedState) → hand_of w' ≡ hand_of w → HoldsLanding w t → HoldsLanding w' t
landing_left w w' t same held = (held.0, ap (λ (hand : List (Option ExtentState) × List LandedState). slice_get hand.1 held.0) same ∙ held.1)

take_landings : (w w' : WorldState) (p k : ℕ) (t : LandedState) (answered : Result Answer Refusal) → TakesExtent w p k answered w' → HoldsLanding w t → HoldsLanding w' t
take_landings w w' p k t (Ok (Parcel number moves)) h held = (held.0, ap (λ (u : WorldState). slice_get u.landings held.0) h.1.after ∙ held.1)
take_landings w w' p k t (Err NoMemory) h held = landing_left w w' t (ap hand_of h.1) held
take_landings w w' p k t (Err refusal) h held = landing_left w w' t (ap hand_of h.1) held
take_landings w w' p k t (Ok other) h held = absurd h

give_landings : (w w' : WorldState) (p k : ℕ) (t : LandedState) (answered : Result Answer Refusal) → GivesExtent w p k answered w' → HoldsLanding w t → HoldsLanding w' t
give_landings w w' p k t (Ok (Landed number moves)) h held = (held.0, ap (λ (u : WorldState). slice_get u.landings held.0) h.1.after ∙ push_get w.landings h.1.landed t held.0 held.1)
give_landings w w' p k t (Err refusal) h held = landing_left w w' t (ap hand_of h.1) held
give_landings w w' p k t (Ok other) h held = absurd h

-- it is the one that was told, or another, which stays
abbrev IsOrStays : WorldState → LandedState → LandedState → Type 0
IsOrStays w' landed t = HoldsLanding w' t ⊎ (landed ≡ t)

spent_or_stays : (w w' : WorldState) (i : ℕ) (landed t : LandedState) → slice_get w.landings i ≡ Some landed → w'.landings ≡ remove w.landings i → HoldsLanding w t → IsOrStays w' landed t
spent_or_stays w w' i landed t there after held = elim (same_or_not held.0 i) as (λ _. HoldsLanding w' t ⊎ (landed ≡ t)) [
  | inl same ↦ inr (some_inj landed t (sym there ∙ (ap (slice_get w.landings) (sym same) ∙ held.1)))
  | inr other ↦ let r = remove_other w.landings i held.0 landed t there held.1 other in inl (r.0, ap (λ xs. slice_get xs r.0) after ∙ r.1)
]

told_now : (k moves : ℕ) (landed t : LandedState) → landed.number ≡ k → landed.moves ≡ moves → landed ≡ t → Tell k moves ≡ Tell t.number t.moves
told_now k moves landed t of many is = ap (λ (n : ℕ). Tell n moves) (sym of ∙ ap (λ (l : LandedState). l.number) is) ∙ ap (λ (m : ℕ). Tell t.number m) (sym many ∙ ap (λ (l : LandedState). l.moves) is)

route_landings : (w w' : WorldState) (k moves : ℕ) (t : LandedState) (answered : Result Answer Refusal) → RoutesExtent w k moves answered w' → HoldsLanding w t → HoldsLanding w' t ⊎ WasTold (Tell k moves) answered t
route_landings w w' k moves t (Ok (Set number p)) h held =
    let landed : LandedState = h.1.0 in
    let r = h.1.2 in
    elim (spent_or_stays w w' r.i landed t r.in_hand (ap (λ (u : WorldState). u.landings) r.after) held) as (λ _. HoldsLanding w' t ⊎ WasTold (Tell k moves) (Ok (Set number p)) t) [
      | inl stays ↦ inl stays
      | inr is ↦ inr (
        told_now k moves landed t r.of_number r.of_moves is,
        inl (ap (λ (n : ℕ). Ok (Set n p)) (h.0 ∙ (sym r.of_number ∙ ap (λ (l : LandedState). l.number) is)) ∙ ap (λ (q : ℕ). Ok (Set t.number q)) (h.1.1 ∙ ap (λ (l : LandedState). l.site) is)),
      )
    ]
route_landings w w' k moves t (Ok (Superseded number)) h held =
    let landed : LandedState = h.1.0 in
    let r = h.1.1 in
    elim (spent_or_stays w w' r.i landed t r.in_hand (ap (λ (u : WorldState). u.landings) r.after) held) as (λ _. HoldsLanding w' t ⊎ WasTold (Tell k moves) (Ok (Superseded number)) t) [
      | inl stays ↦ inl stays
      | inr is ↦ inr (
        told_now k moves landed t r.of_number r.of_moves is,
        inr (ap (λ (n : ℕ). Ok (Superseded n)) (h.0 ∙ (sym r.of_number ∙ ap (λ (l : LandedState). l.number) is))),
      )
    ]
route_landings w w' k moves t (Err refusal) h held = inl (landing_left w w' t (ap hand_of h.2) held)
route_landings w w' k moves t (Ok other) h held = absurd h

pub landings_stay : (w w' : WorldState) (event : Event) (answered : Result Answer Refusal) (t : LandedState) → Happens w event answered w' → HoldsLanding w t → HoldsLanding w' t ⊎ WasTold event answered t
landings_stay w w' (Submit client ask) answered t h held = inl (landing_left w w' t (submit_leaves w w' client ask answered h) held)
landings_stay w w' (Begin p) answered t h held = inl (landing_left w w' t (begin_leaves w w' p answered h) held)
landings_stay w w' (Deny p) answered t h held = inl (landing_left w w' t (deny_leaves w w' p answered h) held)
landings_stay w w' (Step p) answered t h held = inl (landing_left w w' t (advance_leaves (step_obstacle_at w p) w w' p answered h) held)
landings_stay w w' (One p) answered t h held = inl (landing_left w w' t (advance_leaves (one_obstacle_at w p) w w' p answered h) held)
landings_stay w w' (Take p k) answered t h held = inl (take_landings w w' p k t answered h held)
landings_stay w w' (Give p k) answered t h held = inl (give_landings w w' p k t answered h held)
landings_stay w w' (Tell k moves) answered t h held = route_landings w w' k moves t answered h held
landings_stay w w' (Checkpoint p k) answered t h held = inl (landing_left w w' t (checkpoint_leaves w w' p k answered h) held)
landings_stay w w' (Stop p) answered t h held = inl (landing_left w w' t (does_leaves (stop_obstacle_at w p) w w' p (λ s s'. Stops s (Ok tt) s') answered h) held)
landings_stay w w' (Resume p) answered t h held = inl (landing_left w w' t (does_leaves (resume_obstacle_at w p) w w' p (λ s s'. Resumes s (Ok tt) s') answered h) held)
landings_stay w w' (Break p procedure pc) answered t h held = inl (landing_left w w' t (does_leaves (break_obstacle_at w p procedure pc) w w' p (λ s s'. SetsBreak s procedure pc (Ok tt) s') answered h) held)
landings_stay w w' (Clear p procedure pc) answered t h held = inl (landing_left w w' t (does_leaves (clear_obstacle_at w p) w w' p (λ s s'. (was_set : Bool) × ClearsBreak s procedure pc was_set s') answered h) held)

-- ---- routes
-- an extent that isn't in hand stands at a site
stands_somewhere : (w : WorldState) (e : ℕ) (o : Option ExtentState) → first_of (extent_at e) w.sites ≡ o → IsWorld w → 1 ≤ e → e ≤ extent_count w.routes.subscribers → slot w.parcels e ≡ None → (x : ExtentState) × IsAt (extent_at e) w.sites x
stands_somewhere w e (Some x) is good least most free = (x, first_from (extent_at e) w.sites x is)
stands_somewhere w e None is good least most free =
    absurd (omega (arith, good.extents.once e least most, ap one free, total_none (λ s. one (extent_at e s)) w.sites (λ i s at. ap one (first_none_at (extent_at e) w.sites i s at is))))

pub names_the_holder : (w : WorldState) (e : ℕ) → IsWorld w → 1 ≤ e → e ≤ extent_count w.routes.subscribers → NoneInHand w e → NamesTheHolder w e
names_the_holder w e good least most settled =
    let n : ℕ = w.routes.subscribers in
    let found = stands_somewhere w e (first_of (extent_at e) w.sites) refl good least most settled.parcel in
    let x : ExtentState = found.0 in
    let p : ℕ = found.1.i in
    let s : SiteState = found.1.x in
    let here : slice_get w.sites p ≡ Some s = found.1.there in
    let has : slice_get s.slots e ≡ Some (Some x) = slot_has s.slots e x found.1.has in
    let stands : stands_at w.sites e ≡ Some p = stands_here n w.sites w.parcels p e s x good.extents here has ∙ ap (λ (q : ℕ). Some q) (good.sites p s here).partition in
    let moves : moves_of (extent_in w.sites w.parcels e) ≡ Some x.moves = ap moves_of (extent_at_site n w.sites w.parcels p e s x good.extents here has) in
    elim (slice_get_cases w.routes.routes e).1 as (λ _. NamesTheHolder w e) [
      | inl k ↦
          let route : Route = k.0 in
          let above : x.moves ≤ route.moves = elim (cases_lt route.moves x.moves) as (λ _. x.moves ≤ route.moves) [
            | inl lt ↦ absurd (elim (good.routes.under_way e x.moves route k.2 moves lt) as (λ _. ⊥) [
              | inl none ↦ let f : None ≡ Some p = sym none ∙ stands in absurd cc
              | inr l ↦ settled.landing l.1.0 (l.0, l.1.1) l.1.2
            ])
            | inr le ↦ le
          ] in
          let below : route.moves ≤ x.moves = good.routes.below e x.moves route k.2 moves in
          let same : x.moves ≡ route.moves = omega arith in
          let there : stands_at w.sites e ≡ Some route.partition = good.routes.there e route k.2 (moves ∙ ap (λ (m : ℕ). Some m) same) in
          let place : p ≡ route.partition = some_inj p route.partition (sym stands ∙ there) in
          record { route = route; site = s; extent = x; routed = k.2; holder = ap (slice_get w.sites) (sym place) ∙ here; stands = found.1.has }
      | inr k ↦ absurd (omega (arith, k.0, good.routed, most))
    ]
