-- Events up to a time are those of the calls up to then.
use Rattle.std.proofs.Common.{◌≡◌, ℕ, ◌<◌, ◌≤◌, nat_le, true, false, cond, List, [], ◌∷◌, ◌++◌, map, filter, refl, sym, ◌∙◌, ap, arith, leb-true, le-leb, true≢false, inl, inr}
use Rattle.std.specs.List.{AllByRecursion}
use Rattle.tatp_history.specs.declared.event.Event.{Event}
use Rattle.tatp_history.specs.declared.event.Event.TheVariants.{Asks, Ends}
use Rattle.tatp_history.specs.declared.observed.Outcome.{Outcome}
use Rattle.tatp_history.specs.declared.observed.Outcome.TheVariants.{Answered, Aborted, Unknown}
use Rattle.tatp_history.specs.declared.observed.Observed.{Observed}
use Rattle.tatp_history.specs.Histories.{IsAnswered}
use Rattle.tatp_history.specs.Prefixes.{outcome_by, call_by, calls_by}
use Rattle.tatp_history.specs.Events.{asked_in, time_of, AreAfter, TimesRise, IsAnsweredAt, EndsIn, EndsFit, HaveEnds}
use Rattle.tatp_linearization.specs.Cut.{events_by}
use Rattle.tatp_linearization.specs.Held.{IsAcceptedEvent}

pub asked_by : (time : ℕ) (events : List Event) → asked_in (events_by time events) ≡ calls_by time (asked_in events)
asked_by time [] = refl
asked_by time (Asks x ∷ more) = elim (nat_le x.asked time) as (λ b. asked_in (cond b (Asks (call_by time x) ∷ events_by time more) (events_by time more)) ≡ map (call_by time) (cond b (x ∷ filter (λ (z : Observed). nat_le z.asked time) (asked_in more)) (filter (λ (z : Observed). nat_le z.asked time) (asked_in more)))) [
  | true ↦ ap (λ zs. call_by time x ∷ zs) (asked_by time more)
  | false ↦ asked_by time more
]
asked_by time (Ends asked at ∷ more) = elim (nat_le at time) as (λ b. asked_in (cond b (Ends asked at ∷ events_by time more) (events_by time more)) ≡ calls_by time (asked_in more)) [
  | true ↦ asked_by time more
  | false ↦ asked_by time more
]

pub asked_both : (first second : List Event) → asked_in (first ++ second) ≡ asked_in first ++ asked_in second
asked_both [] second = refl
asked_both (Asks x ∷ first) second = ap (λ zs. x ∷ zs) (asked_both first second)
asked_both (Ends asked at ∷ first) second = asked_both first second

-- ---- times
after_by : (time t : ℕ) (events : List Event) → AreAfter t events → AreAfter t (events_by time events)
after_by time t [] h = tt
after_by time t (Asks x ∷ more) h = elim (nat_le x.asked time) as (λ b. AreAfter t (cond b (Asks (call_by time x) ∷ events_by time more) (events_by time more))) [
  | true ↦ (h.0, after_by time t more h.1)
  | false ↦ after_by time t more h.1
]
after_by time t (Ends asked at ∷ more) h = elim (nat_le at time) as (λ b. AreAfter t (cond b (Ends asked at ∷ events_by time more) (events_by time more))) [
  | true ↦ (h.0, after_by time t more h.1)
  | false ↦ after_by time t more h.1
]

window_rises : (time : ℕ) (events : List Event) → TimesRise events → TimesRise (events_by time events)
window_rises time [] h = tt
window_rises time (Asks x ∷ more) h = elim (nat_le x.asked time) as (λ b. TimesRise (cond b (Asks (call_by time x) ∷ events_by time more) (events_by time more))) [
  | true ↦ (after_by time x.asked more h.0, window_rises time more h.1)
  | false ↦ window_rises time more h.1
]
window_rises time (Ends asked at ∷ more) h = elim (nat_le at time) as (λ b. TimesRise (cond b (Ends asked at ∷ events_by time more) (events_by time more))) [
  | true ↦ (after_by time at more h.0, window_rises time more h.1)
  | false ↦ window_rises time more h.1
]

after_both : (time t : ℕ) (past events : List Event) → AreAfter t (past ++ events) → AreAfter t (past ++ events_by time events)
after_both time t [] events h = after_by time t events h
after_both time t (event ∷ past) events h = (h.0, after_both time t past events h.1)

pub rises_by : (time : ℕ) (past events : List Event) → TimesRise (past ++ events) → TimesRise (past ++ events_by time events)
rises_by time [] events h = window_rises time events h
rises_by time (event ∷ past) events h = (after_both time (time_of event) past events h.0, rises_by time past events h.1)

-- ---- ends
-- the outcome up to a time, of a call that was answered by then
pub answered_then : (time at : ℕ) (o : Outcome) → IsAnsweredAt at o → at ≤ time → IsAnsweredAt at (outcome_by time o)
answered_then time at (Answered when recorded) h le = elim (nat_le when time) as (λ b. nat_le when time ≡ b → IsAnsweredAt at (cond b (Answered when recorded) Unknown)) [
  | true ↦ λ e. h
  | false ↦ λ e. absurd (true≢false (sym (le-leb when time (omega (arith, h, le))) ∙ e))
] refl
answered_then time at (Aborted when) h le = absurd h
answered_then time at Unknown h le = absurd h

was_answered : (time : ℕ) (o : Outcome) → IsAnswered (outcome_by time o) → IsAnswered o × ((at : ℕ) → IsAnsweredAt at o → at ≤ time)
was_answered time (Answered when recorded) h = elim (nat_le when time) as (λ b. nat_le when time ≡ b → IsAnswered (cond b (Answered when recorded) Unknown) → Unit {0} × ((at : ℕ) → at ≡ when → at ≤ time)) [
  | true ↦ λ e _. (tt, λ at same. let le : when ≤ time = leb-true when time e in omega (arith, same, le))
  | false ↦ λ e k. absurd k
] refl h
was_answered time (Aborted when) h = elim (nat_le when time) as (λ b. IsAnswered (cond b (Aborted when) Unknown) → ⊥ × ((at : ℕ) → ⊥ → at ≤ time)) [ true ↦ λ k. absurd k | false ↦ λ k. absurd k ] h
was_answered time Unknown h = absurd h

ends_by : (time : ℕ) (x : Observed) (events : List Event) → ((at : ℕ) → IsAnsweredAt at x.outcome → at ≤ time) → EndsIn x events → EndsIn (call_by time x) (events_by time events)
ends_by time x [] early h = h
ends_by time x (Asks y ∷ more) early h = elim (nat_le y.asked time) as (λ b. EndsIn (call_by time x) (cond b (Asks (call_by time y) ∷ events_by time more) (events_by time more))) [
  | true ↦ ends_by time x more early h
  | false ↦ ends_by time x more early h
]
ends_by time x (Ends asked at ∷ more) early h = elim (nat_le at time) as (λ b. nat_le at time ≡ b → EndsIn (call_by time x) (cond b (Ends asked at ∷ events_by time more) (events_by time more))) [
  | true ↦ λ e. elim h [
    | inl k ↦ inl (k.0, answered_then time at x.outcome k.1 (leb-true at time e))
    | inr k ↦ inr (ends_by time x more early k)
  ]
  | false ↦ λ e. elim h [
    | inl k ↦ absurd (true≢false (sym (le-leb at time (early at k.1)) ∙ e))
    | inr k ↦ ends_by time x more early k
  ]
] refl

fit_by : (time : ℕ) (x : Observed) (events : List Event) → EndsFit x events → EndsFit (call_by time x) (events_by time events)
fit_by time x [] h = tt
fit_by time x (Asks y ∷ more) h = elim (nat_le y.asked time) as (λ b. EndsFit (call_by time x) (cond b (Asks (call_by time y) ∷ events_by time more) (events_by time more))) [
  | true ↦ fit_by time x more h
  | false ↦ fit_by time x more h
]
fit_by time x (Ends asked at ∷ more) h = elim (nat_le at time) as (λ b. nat_le at time ≡ b → EndsFit (call_by time x) (cond b (Ends asked at ∷ events_by time more) (events_by time more))) [
  | true ↦ λ e. ((λ same. answered_then time at x.outcome (h.0 same) (leb-true at time e)), fit_by time x more h.1)
  | false ↦ λ e. fit_by time x more h.1
] refl

window_ends : (time : ℕ) (events : List Event) → HaveEnds events → HaveEnds (events_by time events)
window_ends time [] h = tt
window_ends time (Asks x ∷ more) h = elim (nat_le x.asked time) as (λ b. HaveEnds (cond b (Asks (call_by time x) ∷ events_by time more) (events_by time more))) [
  | true ↦ (
    λ answered. let was = was_answered time x.outcome answered in ends_by time x more was.1 (h.0 was.0),
    fit_by time x more h.1,
    window_ends time more h.2,
  )
  | false ↦ window_ends time more h.2
]
window_ends time (Ends asked at ∷ more) h = elim (nat_le at time) as (λ b. HaveEnds (cond b (Ends asked at ∷ events_by time more) (events_by time more))) [
  | true ↦ window_ends time more h
  | false ↦ window_ends time more h
]

-- of a call before the window
own_ends : (x : Observed) (past events : List Event) → EndsIn x past → EndsIn x (past ++ events)
own_ends x [] events h = absurd h
own_ends x (Asks y ∷ past) events h = own_ends x past events h
own_ends x (Ends asked at ∷ past) events h = elim h [ inl k ↦ inl k | inr k ↦ inr (own_ends x past events k) ]

own_fit : (time : ℕ) (x : Observed) (events : List Event) → EndsFit x events → EndsFit x (events_by time events)
own_fit time x [] h = tt
own_fit time x (Asks y ∷ more) h = elim (nat_le y.asked time) as (λ b. EndsFit x (cond b (Asks (call_by time y) ∷ events_by time more) (events_by time more))) [
  | true ↦ own_fit time x more h
  | false ↦ own_fit time x more h
]
own_fit time x (Ends asked at ∷ more) h = elim (nat_le at time) as (λ b. EndsFit x (cond b (Ends asked at ∷ events_by time more) (events_by time more))) [
  | true ↦ (h.0, own_fit time x more h.1)
  | false ↦ own_fit time x more h.1
]

fit_both : (time : ℕ) (x : Observed) (past events : List Event) → EndsFit x (past ++ events) → EndsFit x (past ++ events_by time events)
fit_both time x [] events h = own_fit time x events h
fit_both time x (Asks y ∷ past) events h = fit_both time x past events h
fit_both time x (Ends asked at ∷ past) events h = (h.0, fit_both time x past events h.1)

pub have_by : (time : ℕ) (past events : List Event) → HaveEnds past → HaveEnds (past ++ events) → HaveEnds (past ++ events_by time events)
have_by time [] events own h = window_ends time events h
have_by time (Asks x ∷ past) events own h = (
  λ answered. own_ends x past (events_by time events) (own.0 answered),
  fit_both time x past events h.1,
  have_by time past events own.2 h.2,
)
have_by time (Ends asked at ∷ past) events own h = have_by time past events own h

-- ---- the calls of both, and what is accepted
pub both_by : (time : ℕ) (past events : List Event) → asked_in (past ++ events_by time events) ≡ asked_in past ++ calls_by time (asked_in events)
both_by time past events = asked_both past (events_by time events) ∙ ap (λ zs. asked_in past ++ zs) (asked_by time events)

pub accepted_by : (time : ℕ) (events : List Event) → AllByRecursion IsAcceptedEvent events → AllByRecursion IsAcceptedEvent (events_by time events)
accepted_by time [] h = tt
accepted_by time (Asks x ∷ more) h = elim (nat_le x.asked time) as (λ b. AllByRecursion IsAcceptedEvent (cond b (Asks (call_by time x) ∷ events_by time more) (events_by time more))) [
  | true ↦ (h.0, accepted_by time more h.1)
  | false ↦ accepted_by time more h.1
]
accepted_by time (Ends asked at ∷ more) h = elim (nat_le at time) as (λ b. AllByRecursion IsAcceptedEvent (cond b (Ends asked at ∷ events_by time more) (events_by time more))) [
  | true ↦ (tt, accepted_by time more h.1)
  | false ↦ accepted_by time more h.1
]

-- where all of a window is later than the time, nothing of it had happened
pub none_by : (time : ℕ) (events : List Event) → AreAfter time events → events_by time events ≡ []
none_by time [] h = refl
none_by time (Asks x ∷ more) h = elim (nat_le x.asked time) as (λ b. nat_le x.asked time ≡ b → cond b (Asks (call_by time x) ∷ events_by time more) (events_by time more) ≡ []) [
  | true ↦ λ e. let le : x.asked ≤ time = leb-true x.asked time e in let lt : time < x.asked = h.0 in absurd (omega (arith, le, lt))
  | false ↦ λ e. none_by time more h.1
] refl
none_by time (Ends asked at ∷ more) h = elim (nat_le at time) as (λ b. nat_le at time ≡ b → cond b (Ends asked at ∷ events_by time more) (events_by time more) ≡ []) [
  | true ↦ λ e. let le : at ≤ time = leb-true at time e in let lt : time < at = h.0 in absurd (omega (arith, le, lt))
  | false ↦ λ e. none_by time more h.1
] refl

-- ---- events in two parts
pub by_append : (time : ℕ) (first second : List Event) → events_by time (first ++ second) ≡ events_by time first ++ events_by time second
by_append time [] second = refl
by_append time (Asks x ∷ first) second = elim (nat_le x.asked time) as (λ b. cond b (Asks (call_by time x) ∷ events_by time (first ++ second)) (events_by time (first ++ second)) ≡ cond b (Asks (call_by time x) ∷ events_by time first) (events_by time first) ++ events_by time second) [
  | true ↦ ap (λ es. Asks (call_by time x) ∷ es) (by_append time first second)
  | false ↦ by_append time first second
]
by_append time (Ends asked at ∷ first) second = elim (nat_le at time) as (λ b. cond b (Ends asked at ∷ events_by time (first ++ second)) (events_by time (first ++ second)) ≡ cond b (Ends asked at ∷ events_by time first) (events_by time first) ++ events_by time second) [
  | true ↦ ap (λ es. Ends asked at ∷ es) (by_append time first second)
  | false ↦ by_append time first second
]

pub first_rises : (first second : List Event) → TimesRise (first ++ second) → TimesRise first
first_rises [] second h = tt
first_rises (event ∷ first) second h = (before first h.0, first_rises first second h.1)
  where
    before : (es : List Event) → AreAfter (time_of event) (es ++ second) → AreAfter (time_of event) es
    before [] k = tt
    before (e ∷ es) k = (k.0, before es k.1)
