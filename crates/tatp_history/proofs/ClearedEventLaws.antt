-- Events with data_a cleared have the same times and ends, and their arguments are in their domains.
use Rattle.std.proofs.Common.{◌≡◌, ℕ, ◌<◌, Bool, not, true, false, cond, is_some, List, [], ◌∷◌, Option, Some, None, Ok, find, refl, ◌∙◌, ap, subst, arith, inl, inr}
use Rattle.std.specs.List.{AllByRecursion, position_from}
use Rattle.std.proofs.lemmas.Option.{none-some, same_Some}
use Rattle.tatp_tables.specs.Tuples.{Tuples}
use Rattle.tatp_tables.specs.Keys.{row_at}
use Rattle.tatp_tables.specs.Domains.{is_in_domain}
use Rattle.tatp_calls.specs.declared.call.Call.{Call}
use Rattle.tatp_calls.specs.declared.call.Call.TheVariants.{GetSubscriberData, GetNewDestination, GetAccessData, UpdateSubscriberData, UpdateLocation, InsertCallForwarding, DeleteCallForwarding}
use Rattle.tatp_calls.specs.Arguments.{accepted, arguments_accepted, fits_of}
use Rattle.tatp_procs.proofs.TransactionLaws.{all_fit}
use Rattle.tatp_history.specs.declared.event.Event.{Event}
use Rattle.tatp_history.specs.declared.event.Event.TheVariants.{Asks, Ends}
use Rattle.tatp_history.specs.declared.observed.Observed.{Observed}
use Rattle.tatp_history.specs.Histories.{AreAskedApart}
use Rattle.tatp_history.specs.Events.{asked_in, AreAfter, TimesRise, EndsIn, EndsFit, HaveEnds}
use Rattle.tatp_history.specs.Changes.{only_reads, has_failed, changes_nothing}
use Rattle.tatp_history.specs.Cleared.{first_type, bit_alone, cleared_call, cleared, cleared_calls, cleared_events}
use Rattle.tatp_history.proofs.OrderLaws.{all_in}
use Rattle.tatp_history.proofs.EventLaws.{asked_after}
use Rattle.tatp_history.proofs.ClearedLaws.{type_passes}

-- ---- events
-- calls that are asked in the order of time are asked apart
pub rise_apart : (events : List Event) → TimesRise events → AreAskedApart (asked_in events)
rise_apart [] h = tt
rise_apart (Asks x ∷ more) h = (
  all_in (λ (y : Observed). x.asked ≡ y.asked → ⊥) (asked_in more) (λ y there same. let lt : x.asked < y.asked = asked_after x.asked more y h.0 there in omega (arith, lt, same)),
  rise_apart more h.1,
)
rise_apart (Ends asked at ∷ more) h = rise_apart more h.1

module _ (others : Tuples) where
  pub asked_cleared : (events : List Event) → asked_in (cleared_events others events) ≡ cleared_calls others (asked_in events)
  asked_cleared [] = refl
  asked_cleared (Asks x ∷ more) = ap (λ zs. cleared others x ∷ zs) (asked_cleared more)
  asked_cleared (Ends asked at ∷ more) = asked_cleared more

  after_cleared : (time : ℕ) (events : List Event) → AreAfter time events → AreAfter time (cleared_events others events)
  after_cleared time [] h = tt
  after_cleared time (Asks x ∷ more) h = (h.0, after_cleared time more h.1)
  after_cleared time (Ends asked at ∷ more) h = (h.0, after_cleared time more h.1)

  pub rise_cleared : (events : List Event) → TimesRise events → TimesRise (cleared_events others events)
  rise_cleared [] h = tt
  rise_cleared (Asks x ∷ more) h = (after_cleared x.asked more h.0, rise_cleared more h.1)
  rise_cleared (Ends asked at ∷ more) h = (after_cleared at more h.0, rise_cleared more h.1)

  ends_cleared : (x : Observed) (events : List Event) → EndsIn x events → EndsIn (cleared others x) (cleared_events others events)
  ends_cleared x [] h = h
  ends_cleared x (Asks y ∷ more) h = ends_cleared x more h
  ends_cleared x (Ends asked at ∷ more) h = elim h [ inl k ↦ inl k | inr k ↦ inr (ends_cleared x more k) ]

  fit_cleared : (x : Observed) (events : List Event) → EndsFit x events → EndsFit (cleared others x) (cleared_events others events)
  fit_cleared x [] h = tt
  fit_cleared x (Asks y ∷ more) h = fit_cleared x more h
  fit_cleared x (Ends asked at ∷ more) h = (h.0, fit_cleared x more h.1)

  pub have_cleared : (events : List Event) → HaveEnds events → HaveEnds (cleared_events others events)
  have_cleared [] h = tt
  have_cleared (Asks x ∷ more) h = ((λ answered. ends_cleared x more (h.0 answered)), fit_cleared x more h.1, have_cleared more h.2)
  have_cleared (Ends asked at ∷ more) h = have_cleared more h

  -- ---- calls
  pub reads_cleared : (call : Call) → only_reads (cleared_call others call) ≡ only_reads call
  reads_cleared (GetSubscriberData s) = refl
  reads_cleared (GetNewDestination s t b e) = refl
  reads_cleared (GetAccessData s t) = refl
  reads_cleared (UpdateSubscriberData s x t y) = elim (is_some (row_at others (s ∷ t ∷ []))) as (λ b. only_reads (cond b (bit_alone (UpdateSubscriberData s x t y) s x (first_type others s)) (UpdateSubscriberData s x t y)) ≡ false) [
    | true ↦ elim (first_type others s) as (λ o. only_reads (bit_alone (UpdateSubscriberData s x t y) s x o) ≡ false) [ None ↦ refl | Some first ↦ refl ]
    | false ↦ refl
  ]
  reads_cleared (UpdateLocation n v) = refl
  reads_cleared (InsertCallForwarding n t b e x) = refl
  reads_cleared (DeleteCallForwarding n t b) = refl

  pub nothing_cleared : (x : Observed) → changes_nothing (cleared others x) ≡ changes_nothing x
  nothing_cleared x = ap (λ b. cond b true (has_failed x.outcome)) (reads_cleared x.call)

  -- a call that was cleared stays as it is
  bit_stays : (s x first : ℕ) → first_type others s ≡ Some first → cleared_call others (UpdateSubscriberData s x first 0) ≡ UpdateSubscriberData s x first 0
  bit_stays s x first e =
      ap (λ b. cond b (bit_alone (UpdateSubscriberData s x first 0) s x (first_type others s)) (UpdateSubscriberData s x first 0)) (type_passes (λ t. is_some (row_at others (s ∷ t ∷ []))) (1 ∷ 2 ∷ 3 ∷ 4 ∷ []) first e)
      ∙ ap (bit_alone (UpdateSubscriberData s x first 0) s x) e

  one_stays : (s x t y : ℕ) (b : Bool) (o : Option ℕ) → is_some (row_at others (s ∷ t ∷ [])) ≡ b → first_type others s ≡ o
      → cleared_call others (cond b (bit_alone (UpdateSubscriberData s x t y) s x o) (UpdateSubscriberData s x t y)) ≡ cond b (bit_alone (UpdateSubscriberData s x t y) s x o) (UpdateSubscriberData s x t y)
  one_stays s x t y true (Some first) there e = bit_stays s x first e
  one_stays s x t y true None there e =
      ap (λ b. cond b (bit_alone (UpdateSubscriberData s x t y) s x (first_type others s)) (UpdateSubscriberData s x t y)) there
      ∙ ap (bit_alone (UpdateSubscriberData s x t y) s x) e
  one_stays s x t y false o there e = ap (λ b. cond b (bit_alone (UpdateSubscriberData s x t y) s x (first_type others s)) (UpdateSubscriberData s x t y)) there

  pub cleared_stays : (call : Call) → cleared_call others (cleared_call others call) ≡ cleared_call others call
  cleared_stays (GetSubscriberData s) = refl
  cleared_stays (GetNewDestination s t b e) = refl
  cleared_stays (GetAccessData s t) = refl
  cleared_stays (UpdateSubscriberData s x t y) = one_stays s x t y (is_some (row_at others (s ∷ t ∷ []))) (first_type others s) refl refl
  cleared_stays (UpdateLocation n v) = refl
  cleared_stays (InsertCallForwarding n t b e x) = refl
  cleared_stays (DeleteCallForwarding n t b) = refl

-- ---- arguments
found_of : (P : ℕ → Type 0) (p : ℕ → Bool) (types : List ℕ) (t : ℕ) → AllByRecursion P types → find p types ≡ Some t → P t
found_of P p [] t all e = absurd (none-some t e)
found_of P p (x ∷ xs) t all e = elim (p x) as (λ b. cond b (Some x) (find p xs) ≡ Some t → P t) [
  | true ↦ λ f. subst P (same_Some x t f) all.0
  | false ↦ λ f. found_of P p xs t all.1 f
] e

types_fit : AllByRecursion (λ t. is_in_domain 41 t ≡ true) (1 ∷ 2 ∷ 3 ∷ 4 ∷ [])
unfolding is_in_domain
types_fit = (refl, (refl, (refl, (refl, tt))))

zero_fits : is_in_domain 44 0 ≡ true
unfolding is_in_domain
zero_fits = refl

bit_accepted : (s x first : ℕ) → is_in_domain 2 x ≡ true → is_in_domain 41 first ≡ true → arguments_accepted (UpdateSubscriberData s x first 0) ≡ Ok tt
bit_accepted s x first bit kind i = accepted (position_from not 0 (true ∷ bit i ∷ kind i ∷ zero_fits i ∷ []))

pub accepted_cleared : (others : Tuples) (call : Call) → arguments_accepted call ≡ Ok tt → arguments_accepted (cleared_call others call) ≡ Ok tt
accepted_cleared others (GetSubscriberData s) h = h
accepted_cleared others (GetNewDestination s t b e) h = h
accepted_cleared others (GetAccessData s t) h = h
accepted_cleared others (UpdateSubscriberData s x t y) h =
    let bit : is_in_domain 2 x ≡ true = (all_fit 0 (fits_of (UpdateSubscriberData s x t y)) h).1.0 in
    elim (is_some (row_at others (s ∷ t ∷ []))) as (λ b. arguments_accepted (cond b (bit_alone (UpdateSubscriberData s x t y) s x (first_type others s)) (UpdateSubscriberData s x t y)) ≡ Ok tt) [
      | true ↦ elim (first_type others s) as (λ o. first_type others s ≡ o → arguments_accepted (bit_alone (UpdateSubscriberData s x t y) s x o) ≡ Ok tt) [
        | None ↦ λ e. h
        | Some first ↦ λ e. bit_accepted s x first bit (found_of (λ k. is_in_domain 41 k ≡ true) (λ k. is_some (row_at others (s ∷ k ∷ []))) (1 ∷ 2 ∷ 3 ∷ 4 ∷ []) first types_fit e)
      ] refl
      | false ↦ h
    ]
accepted_cleared others (UpdateLocation n v) h = h
accepted_cleared others (InsertCallForwarding n t b e x) h = h
accepted_cleared others (DeleteCallForwarding n t b) h = h
