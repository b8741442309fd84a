-- What a window's events tell ahead of the search.
use Rattle.std.proofs.Common.{◌≡◌, ℕ, suc, ◌+◌, drop, ◌<◌, ◌≤◌, ◌⊎◌, ◌==◌, true, false, List, [], ◌∷◌, ◌++◌, Option, Some, None, take, nat_eq, slice_get, slice_index, refl, sym, ◌∙◌, ap, subst, arith, eqb-true, eq-eqb, true≢false, inl, inr}
use Rattle.std.specs.List.{AllByRecursion}
use Rattle.std.proofs.lemmas.Option.{get_or_from_slice_get}
use Rattle.std.proofs.lemmas.List.{take-append-drop}
use Rattle.indexmap.specs.IndexMap.{get}
use Rattle.tatp_calls.specs.declared.call.Call.{Call}
use Rattle.tatp_calls.specs.declared.call.Call.TheVariants.{GetSubscriberData, GetNewDestination, GetAccessData, UpdateSubscriberData, UpdateLocation, InsertCallForwarding, DeleteCallForwarding}
use Rattle.tatp_calls.specs.declared.reply.Reply.TheVariants.{Values, Failed, Trapped, Refused}
use Rattle.tatp_history.specs.declared.event.Event.{Event}
use Rattle.tatp_history.specs.declared.event.Event.TheVariants.{Asks, Ends}
use Rattle.tatp_history.specs.declared.observed.Recorded.TheVariants.{Exactly, Success, Failure}
use Rattle.tatp_history.specs.declared.observed.Outcome.{Outcome}
use Rattle.tatp_history.specs.declared.observed.Outcome.TheVariants.{Answered, Aborted, Unknown}
use Rattle.tatp_history.specs.declared.observed.Observed.{Observed}
use Rattle.tatp_history.specs.Histories.{IsIn, IsAnsweredBefore, Precedes}
use Rattle.tatp_history.specs.Events.{asked_in, time_of, AreAfter, TimesRise}
use Rattle.tatp_history.proofs.OrderLaws.{all_in, all_map}
use Rattle.tatp_history.proofs.EventLaws.{asked_after}
use Rattle.tatp_linearization.specs.declared.ahead.Ahead.{Ahead}
use Rattle.tatp_linearization.specs.declared.ahead.Times.{Times}
use Rattle.tatp_linearization.specs.Doomed.{sets_location, SawLocation}
use Rattle.tatp_linearization.specs.Unseen.{location_answered, location_read, location_in, location_named, location_of, HasSetLocation, IsReplacedBy}
use Rattle.tatp_linearization.proofs.PlaceLaws.{drop_at}
use Rattle.tatp_linearization.specs.declared.ahead.LastRead.{LastRead}
use Rattle.tatp_linearization.specs.Ahead.{times_in, times_or_none, RaisesTimes, IsAnsweredBy, SawOtherAfter, NotesRead, IsEndedRead, IsNoted, Tells, IsLastTime, IsAheadOf, IsReplaced, LooksAhead, IsSeenAhead}

-- ---- lists
in_either : (z : Observed) (xs ys : List Observed) → IsIn z (xs ++ ys) → IsIn z xs ⊎ IsIn z ys
in_either z [] ys h = inr h
in_either z (x ∷ xs) ys h = elim h [
  | inl e ↦ inl (inl e)
  | inr k ↦ elim (in_either z xs ys k) [ inl q ↦ inl (inr q) | inr q ↦ inr q ]
]

asked_either : (z : Observed) (first second : List Event) → IsIn z (asked_in (first ++ second)) → IsIn z (asked_in first) ⊎ IsIn z (asked_in second)
asked_either z [] second h = inr h
asked_either z (Asks x ∷ first) second h = elim h [
  | inl e ↦ inl (inl e)
  | inr k ↦ elim (asked_either z first second k) [ inl q ↦ inl (inr q) | inr q ↦ inr q ]
]
asked_either z (Ends asked at ∷ first) second h = asked_either z first second h

asked_first : (z : Observed) (first second : List Event) → IsIn z (asked_in first) → IsIn z (asked_in (first ++ second))
asked_first z [] second h = absurd h
asked_first z (Asks x ∷ first) second h = elim h [ inl e ↦ inl e | inr k ↦ inr (asked_first z first second k) ]
asked_first z (Ends asked at ∷ first) second h = asked_first z first second h

asked_second : (z : Observed) (first second : List Event) → IsIn z (asked_in second) → IsIn z (asked_in (first ++ second))
asked_second z [] second h = h
asked_second z (Asks x ∷ first) second h = inr (asked_second z first second h)
asked_second z (Ends asked at ∷ first) second h = asked_second z first second h

-- ---- locations
-- a call that saw or sets one
read_named : (call : Call) (outcome : Outcome) (v : ℕ) → location_read call outcome ≡ Some v → location_named call outcome ≡ Some v
read_named (GetSubscriberData s) outcome v e = e
read_named (GetNewDestination s t b n) outcome v e = e
read_named (GetAccessData s t) outcome v e = e
read_named (UpdateSubscriberData s x t y) outcome v e = e
read_named (UpdateLocation n w) outcome v e = absurd cc
read_named (InsertCallForwarding n t b d x) outcome v e = e
read_named (DeleteCallForwarding n t b) outcome v e = e

set_named : (call : Call) (outcome : Outcome) (v : ℕ) → sets_location v call ≡ true → location_named call outcome ≡ Some v
set_named (GetSubscriberData s) outcome v e = absurd (true≢false (sym e))
set_named (GetNewDestination s t b n) outcome v e = absurd (true≢false (sym e))
set_named (GetAccessData s t) outcome v e = absurd (true≢false (sym e))
set_named (UpdateSubscriberData s x t y) outcome v e = absurd (true≢false (sym e))
set_named (UpdateLocation n w) outcome v e = ap Some (eqb-true w v e)
set_named (InsertCallForwarding n t b d x) outcome v e = absurd (true≢false (sym e))
set_named (DeleteCallForwarding n t b) outcome v e = absurd (true≢false (sym e))

-- a read that saw one
answered_saw : (outcome : Outcome) (v : ℕ) → location_answered outcome ≡ Some v → (at : ℕ) × (values : List ℕ) × (outcome ≡ Answered at (Exactly (Values values))) × (slice_index values 33 ≡ v)
answered_saw (Answered at (Exactly (Values values))) v e = (at, values, refl, get_or_from_slice_get values 33 v 0 e)
answered_saw (Answered at (Exactly (Failed n))) v e = absurd cc
answered_saw (Answered at (Exactly (Trapped t))) v e = absurd cc
answered_saw (Answered at (Exactly Refused)) v e = absurd cc
answered_saw (Answered at Success) v e = absurd cc
answered_saw (Answered at Failure) v e = absurd cc
answered_saw (Aborted at) v e = absurd cc
answered_saw Unknown v e = absurd cc

call_saw : (call : Call) (outcome : Outcome) (v : ℕ) → location_read call outcome ≡ Some v → (s : ℕ) × (call ≡ GetSubscriberData s) × (location_answered outcome ≡ Some v)
call_saw (GetSubscriberData s) outcome v e = (s, refl, e)
call_saw (GetNewDestination s t b n) outcome v e = absurd cc
call_saw (GetAccessData s t) outcome v e = absurd cc
call_saw (UpdateSubscriberData s x t y) outcome v e = absurd cc
call_saw (UpdateLocation n w) outcome v e = absurd cc
call_saw (InsertCallForwarding n t b d x) outcome v e = absurd cc
call_saw (DeleteCallForwarding n t b) outcome v e = absurd cc

pub saw_location : (v : ℕ) (x : Observed) → location_in x ≡ Some v → SawLocation v x
saw_location v x e =
    let read = call_saw x.call x.outcome v e in
    let end = answered_saw x.outcome v read.2 in
    record { s_id = read.0; at = end.0; values = end.1; reads = read.1; answered = end.2; column = end.3 }

-- ---- a call more
same_or_other : (o : Option ℕ) (v : ℕ) → (o ≡ Some v) ⊎ (o ≡ Some v → ⊥)
same_or_other None v = inr (λ e. cc)
same_or_other (Some w) v = elim (w == v) as (λ b. (w == v) ≡ b → (Some w ≡ Some v) ⊎ (Some w ≡ Some v → ⊥)) [
  | true ↦ λ e. inl (ap Some (eqb-true w v e))
  | false ↦ λ e. inr (λ k. let is : w ≡ v = cc in true≢false (sym (eq-eqb w v is) ∙ e))
] refl

module _ (x : Observed) (old mid new : Ahead)
    (own : (v : ℕ) → location_of x ≡ Some v → RaisesTimes old.last x (times_in old v) (times_in mid v))
    (others : (v : ℕ) → (location_of x ≡ Some v → ⊥) → times_in mid v ≡ times_in old v)
    (same : mid ≡ record old { locations = mid.locations }) (kept : new.locations ≡ mid.locations) (until : new.last ≡ mid.last)
    (update : (new.last_update ≡ mid.last_update) ⊎ ((new.last_update ≡ x.asked) × HasSetLocation x × IsAnsweredBy mid.last x.outcome))
    (noted : NotesRead x mid new)
    (past : List Event) (tells : Tells past old) where
  same_end : new.last ≡ old.last
  same_end = until ∙ ap (λ (a : Ahead). a.last) same

  times : (v : ℕ) → times_in new v ≡ times_in mid v
  times v = ap (λ m. times_or_none (get nat_eq m v)) kept

  at_least : (v : ℕ) → ((times_in old v).read ≤ (times_in new v).read) × ((times_in old v).set ≤ (times_in new v).set)
  at_least v = subst (λ (t : Times). ((times_in old v).read ≤ t.read) × ((times_in old v).set ≤ t.set)) (sym (times v)) (elim (same_or_other (location_of x) v) [
    | inl e ↦ ((own v e).keeps_read, (own v e).keeps_set)
    | inr n ↦ subst (λ (t : Times). ((times_in old v).read ≤ t.read) × ((times_in old v).set ≤ t.set)) (sym (others v n)) (omega arith, omega arith)
  ])

  abbrev more : List Event
  more = past ++ Asks x ∷ []

  which : (z : Observed) → IsIn z (asked_in more) → IsIn z (asked_in past) ⊎ (z ≡ x)
  which z h = elim (asked_either z past (Asks x ∷ []) h) [ inl k ↦ inl k | inr k ↦ elim k [ inl e ↦ inr e | inr q ↦ absurd q ] ]

  -- a read that was noted is noted still
  still : (read last : LastRead) → read ≡ last → IsNoted past old.last last → IsNoted more new.last read
  still read last e h some =
      let found = h (subst (λ (r : LastRead). 0 < r.asked) e some) in (
        found.0,
        record {
          there = asked_first found.0 past (Asks x ∷ []) found.1.there;
          saw = found.1.saw ∙ sym (ap (λ (r : LastRead). Some r.location) e);
          ended = subst (λ t. IsAnsweredBy t found.0.outcome) (sym same_end) found.1.ended;
          asked = found.1.asked ∙ sym (ap (λ (r : LastRead). r.asked) e);
        },
      )

  pub tells_asked : Tells more new
  tells_asked = record {
    reads = λ z v there saw. elim (which z there) [
      | inl k ↦ let first = tells.reads z v k saw in let second = (at_least v).0 in omega (arith, first, second)
      | inr e ↦
          let own_saw : location_in x ≡ Some v = subst (λ (w : Observed). location_in w ≡ Some v) e saw in
          let raised = own v (read_named x.call x.outcome v own_saw) in
          subst (λ (w : Observed). w.asked ≤ (times_in new v).read) (sym e) (subst (λ (t : Times). x.asked ≤ t.read) (sym (times v)) (raised.read v own_saw))
    ];
    sets = λ z v there sets. elim (which z there) [
      | inl k ↦ let first = tells.sets z v k sets in let second = (at_least v).1 in omega (arith, first, second)
      | inr e ↦
          let own_sets : sets_location v x.call ≡ true = subst (λ (w : Observed). sets_location v w.call ≡ true) e sets in
          let raised = own v (set_named x.call x.outcome v own_sets) in
          subst (λ (w : Observed). w.asked ≤ (times_in new v).set) (sym e) (subst (λ (t : Times). x.asked ≤ t.set) (sym (times v)) (raised.set v own_sets))
    ];
    ended = λ v some.
        let before : (times_in new v).ended ≡ (times_in old v).ended → (z : Observed) × IsEndedRead more new.last v (times_in new v).ended z
        = λ e. let found = tells.ended v (subst (λ n. 0 < n) e some) in (
          found.0,
          record { there = asked_first found.0 past (Asks x ∷ []) found.1.there; saw = found.1.saw; ended = subst (λ t. IsAnsweredBy t found.0.outcome) (sym same_end) found.1.ended; asked = found.1.asked ∙ sym e },
        ) in
        elim (same_or_other (location_of x) v) [
          | inl named ↦ elim (own v named).ended [
            | inl e ↦ before (ap (λ (t : Times). t.ended) (times v) ∙ e)
            | inr k ↦
                let one : k.2.0 ≡ v = inject k.2.0 v (sym (read_named x.call x.outcome k.2.0 k.2.1) ∙ named) in (
                  x,
                  record {
                    there = asked_second x past (Asks x ∷ []) (inl refl);
                    saw = k.2.1 ∙ ap Some one;
                    ended = subst (λ t. IsAnsweredBy t x.outcome) (sym same_end) k.1;
                    asked = sym (ap (λ (t : Times). t.ended) (times v) ∙ k.0);
                  },
                )
          ]
          | inr n ↦ before (ap (λ (t : Times). t.ended) (times v) ∙ ap (λ (t : Times). t.ended) (others v n))
        ];
    updated = λ some. elim update [
      | inl e ↦
          let is : new.last_update ≡ old.last_update = e ∙ ap (λ (a : Ahead). a.last_update) same in
          let found = tells.updated (subst (λ n. 0 < n) is some) in
          (found.0, record { there = asked_first found.0 past (Asks x ∷ []) found.1.there; sets = found.1.sets; ended = subst (λ t. IsAnsweredBy t found.0.outcome) (sym same_end) found.1.ended; asked = found.1.asked ∙ sym is })
      | inr k ↦ (x, record { there = asked_second x past (Asks x ∷ []) (inl refl); sets = k.1; ended = subst (λ t. IsAnsweredBy t x.outcome) (sym until) k.2; asked = sym k.0 })
    ];
    last_read = elim noted.last_read [
      | inl e ↦ still new.last_read old.last_read (e ∙ ap (λ (a : Ahead). a.last_read) same) tells.last_read
      | inr r ↦ λ some. (x, record { there = asked_second x past (Asks x ∷ []) (inl refl); saw = r.saw; ended = subst (λ t. IsAnsweredBy t x.outcome) (sym until) r.ended; asked = sym r.asked })
    ];
    other_read = elim noted.other_read [
      | inl e ↦ still new.other_read old.other_read (e ∙ ap (λ (a : Ahead). a.other_read) same) tells.other_read
      | inr e ↦ still new.other_read old.last_read (e ∙ ap (λ (a : Ahead). a.last_read) same) tells.last_read
    ];
  }
    where
      inject : (a b : ℕ) → Some a ≡ Some b → a ≡ b
      inject a b e = cc

-- an end tells nothing
pub tells_ended : (asked at : ℕ) (ahead : Ahead) (past : List Event) → Tells past ahead → Tells (past ++ Ends asked at ∷ []) ahead
tells_ended asked at ahead past tells =
    let which : (z : Observed) → IsIn z (asked_in (past ++ Ends asked at ∷ [])) → IsIn z (asked_in past)
    = λ z h. elim (asked_either z past (Ends asked at ∷ []) h) [ inl k ↦ k | inr k ↦ absurd k ] in
    record {
      reads = λ z v there saw. tells.reads z v (which z there) saw;
      sets = λ z v there sets. tells.sets z v (which z there) sets;
      ended = λ v some. let found = tells.ended v some in (found.0, record { there = asked_first found.0 past (Ends asked at ∷ []) found.1.there; saw = found.1.saw; ended = found.1.ended; asked = found.1.asked });
      updated = λ some. let found = tells.updated some in (found.0, record { there = asked_first found.0 past (Ends asked at ∷ []) found.1.there; sets = found.1.sets; ended = found.1.ended; asked = found.1.asked });
      last_read = λ some. on ahead.last_read.location ahead.last_read.asked (tells.last_read some);
      other_read = λ some. on ahead.other_read.location ahead.other_read.asked (tells.other_read some);
    }
  where
    on : (v t : ℕ) → (z : Observed) × IsEndedRead past ahead.last v t z → (z : Observed) × IsEndedRead (past ++ Ends asked at ∷ []) ahead.last v t z
    on v t found = (found.0, record { there = asked_first found.0 past (Ends asked at ∷ []) found.1.there; saw = found.1.saw; ended = found.1.ended; asked = found.1.asked })

-- ---- the events that are left
later_than : (first : List Event) (event : Event) (rest : List Event) → TimesRise (first ++ event ∷ rest) → (z : Observed) → IsIn z (asked_in first) → z.asked < time_of event
later_than [] event rest rise z h = absurd h
later_than (Asks x ∷ first) event rest rise z h = elim h [
  | inl e ↦ subst (λ (w : Observed). w.asked < time_of event) (sym e) (among first rise.0)
  | inr k ↦ later_than first event rest rise.1 z k
]
  where
    among : (mid : List Event) → AreAfter x.asked (mid ++ event ∷ rest) → x.asked < time_of event
    among [] h = h.0
    among (e ∷ mid) h = among mid h.1
later_than (Ends asked at ∷ first) event rest rise z h = later_than first event rest rise.1 z h

pub rises_on : (first rest : List Event) → TimesRise (first ++ rest) → TimesRise rest
rises_on [] rest h = h
rises_on (event ∷ first) rest h = rises_on first rest h.1

assoc : (first : List Event) (event : Event) (second more : List Event) → (first ++ event ∷ second) ++ more ≡ first ++ event ∷ (second ++ more)
assoc [] event second later = refl
assoc (e ∷ first) event second more = ap (λ zs. e ∷ zs) (assoc first event second more)

after_all : (all : List Event) (last : ℕ) (more : List Event) → IsLastTime last all → TimesRise (all ++ more) → AreAfter last more
after_all all last more is rise =
    let whole : TimesRise ((is.0 ++ is.1 ∷ []) ++ more) = subst (λ es. TimesRise (es ++ more)) is.2 rise in
    let end = rises_on is.0 (is.1 ∷ ([] ++ more)) (subst TimesRise (assoc is.0 is.1 [] more) whole) in
    subst (λ t. AreAfter t more) (sym is.3) end.0

answered_then : (outcome : Outcome) (last time : ℕ) → IsAnsweredBy last outcome → last < time → IsAnsweredBefore time outcome
answered_then (Answered at recorded) last time by lt = omega (arith, by, lt)
answered_then (Aborted at) last time by lt = absurd by
answered_then Unknown last time by lt = absurd by

from_weak : (time : ℕ) (events : List Event) → AreAfter time events → AllByRecursion (λ (event : Event). time ≤ time_of event) events
from_weak time events h = all_map (λ (event : Event). time < time_of event) (λ (event : Event). time ≤ time_of event) (λ event lt. omega (arith, lt)) events h

-- what is told of a window holds of what is left of it, and of what comes after it
module _ (ahead : Ahead) (first second more : List Event) (asked at : ℕ) (all : IsAheadOf (first ++ Ends asked at ∷ second) ahead) (rise : TimesRise ((first ++ Ends asked at ∷ second) ++ more)) where
  abbrev rest : List Event
  rest = Ends asked at ∷ (second ++ more)

  whole : TimesRise (first ++ rest)
  whole = subst TimesRise (assoc first (Ends asked at) second more) rise

  own : TimesRise rest
  own = rises_on first rest whole

  from : AllByRecursion (λ (event : Event). at ≤ time_of event) rest
  from = (omega arith, from_weak at (second ++ more) own.0)

  -- a call that is asked in the rest is asked in the window after this, or later than the window
  asked_then : (last : ℕ) → IsLastTime last (first ++ Ends asked at ∷ second) → (z : Observed) → IsIn z (asked_in rest) → (IsIn z (asked_in (first ++ Ends asked at ∷ second)) × (at < z.asked)) ⊎ (last < z.asked)
  asked_then last is z h = elim (asked_either z second more h) [
    | inl k ↦ inl (asked_second z first (Ends asked at ∷ second) k, asked_after at (second ++ more) z own.0 h)
    | inr k ↦ inr (asked_after last more z (after_all (first ++ Ends asked at ∷ second) last more is rise) k)
  ]

  -- one that is asked in the window after this is asked in the rest
  asked_later : (z : Observed) → IsIn z (asked_in (first ++ Ends asked at ∷ second)) → at < z.asked → IsIn z (asked_in rest)
  asked_later z h lt = elim (asked_either z first (Ends asked at ∷ second) h) [
    | inl k ↦ let before = later_than first (Ends asked at) (second ++ more) whole z k in absurd (omega (arith, before, lt))
    | inr k ↦ asked_first z second more k
  ]

  is_replaced : (last : ℕ) → IsLastTime last (first ++ Ends asked at ∷ second) → Tells (first ++ Ends asked at ∷ second) ahead → (v time : ℕ) (y : Observed) → IsIn y (asked_in (first ++ Ends asked at ∷ second)) → IsReplacedBy v y → IsAnsweredBy last y.outcome
      → at ≤ time → time < y.asked → IsReplaced ahead at rest v time y
  is_replaced last is tells v time y there by ended le lt = record {
    there = asked_later y there (omega (arith, le, lt));
    by = by;
    later = lt;
    reads = λ few. all_in (λ (z : Observed). location_in z ≡ Some v → Precedes y z) (asked_in rest) (λ z stands saw. elim (asked_then last is z stands) [
      | inl q ↦ let most = tells.reads z v q.0 saw in let after = q.1 in absurd (omega (arith, most, after, few))
      | inr after ↦ answered_then y.outcome last z.asked ended after
    ]);
  }

  by_read : (last : ℕ) → IsLastTime last (first ++ Ends asked at ∷ second) → Tells (first ++ Ends asked at ∷ second) ahead → (v time : ℕ) (read : LastRead) → at ≤ time → SawOtherAfter v time read → IsNoted (first ++ Ends asked at ∷ second) last read
      → (y : Observed) × IsReplaced ahead at rest v time y
  by_read last is tells v time read le one noted =
      let lt = one.1 in
      let y = noted (omega (arith, lt)) in
      let same = y.1.asked in
      (y.0, is_replaced last is tells v time y.0 y.1.there (inr (read.location, y.1.saw, one.0)) y.1.ended le (omega (arith, same, lt)))

  pub looks_ahead : LooksAhead ahead at rest
  looks_ahead = elim all [
    | inl none ↦ record {
      from = from;
      replaced = λ v time le after. elim after [
        | inl lt ↦ let zero_is = none.updated in absurd (omega (arith, lt, zero_is))
        | inr seen ↦ elim seen [
          | inl one ↦ let lt = one.1 in let zero_is = none.last_read in absurd (omega (arith, lt, zero_is))
          | inr one ↦ let lt = one.1 in let zero_is = none.other_read in absurd (omega (arith, lt, zero_is))
        ]
      ];
      read = λ v lt. let zero_is = none.ended v in absurd (omega (arith, lt, zero_is));
      sets = λ v x lt few by. let zero_is = none.last in absurd (omega (arith, lt, zero_is));
    }
    | inr k ↦
        let tells = k.1 in
        record {
          from = from;
          replaced = λ v time le after. elim after [
            | inl lt ↦
                let y = tells.updated (omega (arith, lt)) in
                let is = y.1.asked in
                (y.0, is_replaced ahead.last k.0 tells v time y.0 y.1.there (inl y.1.sets) y.1.ended le (omega (arith, is, lt)))
            | inr seen ↦ elim seen [
              | inl one ↦ by_read ahead.last k.0 tells v time ahead.last_read le one tells.last_read
              | inr one ↦ by_read ahead.last k.0 tells v time ahead.other_read le one tells.other_read
            ]
          ];
          read = λ v lt.
              let y = tells.ended v (omega (arith, lt)) in
              let is = y.1.asked in
              (y.0, record { there = asked_later y.0 y.1.there (omega (arith, is, lt)); saw = saw_location v y.0 y.1.saw; ended = y.1.ended });
          sets = λ v x lt few by. all_in (λ (z : Observed). (sets_location v z.call ≡ false) ⊎ Precedes x z) (asked_in rest) (λ z there. elim (sets_location v z.call) as (λ b. sets_location v z.call ≡ b → (b ≡ false) ⊎ Precedes x z) [
            | true ↦ λ sets. elim (asked_then ahead.last k.0 z there) [
              | inl q ↦ let most = tells.sets z v q.0 sets in let after = q.1 in absurd (omega (arith, most, after, few))
              | inr after ↦ inr (answered_then x.outcome ahead.last z.asked by after)
            ]
            | false ↦ λ other. inl refl
          ] refl);
        }
  ]

-- so it does at each event of the window
pub seen_ahead : (ahead : Ahead) (events : List Event) (i : ℕ) (event : Event) → IsAheadOf events ahead → slice_get events i ≡ Some event → (more : List Event) → TimesRise (events ++ more) → IsSeenAhead ahead (event ∷ (drop (i + 1) events ++ more))
seen_ahead ahead events i (Asks x) all at more rise = tt
seen_ahead ahead events i (Ends asked time) all at more rise =
    let whole : events ≡ take i events ++ Ends asked time ∷ drop (i + 1) events
    = sym (take-append-drop i events) ∙ ap (λ zs. take i events ++ zs) (drop_at events i (Ends asked time) at ∙ ap (λ n. Ends asked time ∷ drop n events) (next i)) in
    looks_ahead ahead (take i events) (drop (i + 1) events) more asked time (subst (λ es. IsAheadOf es ahead) whole all) (subst (λ es. TimesRise (es ++ more)) whole rise)
  where
    next : (n : ℕ) → suc n ≡ n + 1
    next n = omega arith
