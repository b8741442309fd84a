-- Another call in the place of one of a window.
use Rattle.std.proofs.Common.{◌≡◌, ℕ, ◌<◌, ◌⊎◌, ◌==◌, nat_le, true, false, cond, List, [], ◌∷◌, ◌++◌, refl, sym, ◌∙◌, ap, subst, arith, eqb-true, eq-eqb, true≢false, le-leb, Ok, inl, inr}
use Rattle.std.specs.List.{AllByRecursion}
use Rattle.tatp_calls.specs.declared.reply.Reply.{Reply}
use Rattle.tatp_calls.specs.Arguments.{arguments_accepted}
use Rattle.tatp_history.specs.declared.event.Event.{Event}
use Rattle.tatp_history.specs.declared.event.Event.TheVariants.{Asks, Ends}
use Rattle.tatp_history.specs.declared.observed.Outcome.{Outcome}
use Rattle.tatp_history.specs.declared.observed.Outcome.TheVariants.{Answered, Aborted, Unknown}
use Rattle.tatp_history.specs.declared.observed.Observed.{Observed}
use Rattle.tatp_history.specs.Histories.{IsIn, IsAnswered}
use Rattle.tatp_history.specs.Prefixes.{call_by, calls_by}
use Rattle.tatp_history.specs.Events.{asked_in, time_of, AreAfter, TimesRise, IsAnsweredAt, EndsIn, EndsFit, HaveEnds}
use Rattle.tatp_history.proofs.EventLaws.{asked_after}
use Rattle.tatp_linearization.specs.Held.{IsAcceptedEvent}
use Rattle.tatp_linearization.specs.Single.{answered_with}
use Rattle.tatp_linearization.specs.Cut.{events_by, AreWindow}
use Rattle.tatp_linearization.specs.Legal.{placed, with_call, events_with, calls_in, IsAmong}
use Rattle.tatp_linearization.proofs.CutLaws.{asked_by, asked_both, rises_by, have_by, answered_then}

-- ---- another call in the place of the one that was asked then
placed_asked : (y x : Observed) → (placed y x).asked ≡ x.asked
placed_asked y x = elim (x.asked == y.asked) as (λ b. (x.asked == y.asked) ≡ b → (cond b y x).asked ≡ x.asked) [
  | true ↦ λ e. sym (eqb-true x.asked y.asked e)
  | false ↦ λ e. refl
] refl

pub with_asked : (y : Observed) (events : List Event) → asked_in (events_with y events) ≡ with_call y (asked_in events)
with_asked y [] = refl
with_asked y (Asks x ∷ more) = ap (λ zs. placed y x ∷ zs) (with_asked y more)
with_asked y (Ends asked at ∷ more) = with_asked y more

after_with : (y : Observed) (time : ℕ) (events : List Event) → AreAfter time events → AreAfter time (events_with y events)
after_with y time [] h = tt
after_with y time (Asks x ∷ more) h = (subst (λ t. time < t) (sym (placed_asked y x)) h.0, after_with y time more h.1)
after_with y time (Ends asked at ∷ more) h = (h.0, after_with y time more h.1)

window_with : (y : Observed) (events : List Event) → TimesRise events → TimesRise (events_with y events)
window_with y [] h = tt
window_with y (Asks x ∷ more) h = (subst (λ t. AreAfter t (events_with y more)) (sym (placed_asked y x)) (after_with y x.asked more h.0), window_with y more h.1)
window_with y (Ends asked at ∷ more) h = (after_with y at more h.0, window_with y more h.1)

pub rises_with : (y : Observed) (past events : List Event) → TimesRise (past ++ events) → TimesRise (past ++ events_with y events)
rises_with y [] events h = window_with y events h
rises_with y (event ∷ past) events h = (both past h.0, rises_with y past events h.1)
  where
    both : (es : List Event) → AreAfter (time_of event) (es ++ events) → AreAfter (time_of event) (es ++ events_with y events)
    both [] k = after_with y (time_of event) events k
    both (e ∷ es) k = (k.0, both es k.1)

one_time : (outcome : Outcome) (s t : ℕ) → IsAnsweredAt s outcome → IsAnsweredAt t outcome → s ≡ t
one_time (Answered at recorded) s t h k = h ∙ sym k
one_time (Aborted at) s t h k = absurd h
one_time Unknown s t h k = absurd h

-- the ends of another call
own_with : (y z : Observed) (events : List Event) → EndsIn z events → EndsIn z (events_with y events)
own_with y z [] h = h
own_with y z (Asks x ∷ more) h = own_with y z more h
own_with y z (Ends asked at ∷ more) h = elim h [ inl k ↦ inl k | inr k ↦ inr (own_with y z more k) ]

own_fit : (y z : Observed) (events : List Event) → EndsFit z events → EndsFit z (events_with y events)
own_fit y z [] h = tt
own_fit y z (Asks x ∷ more) h = own_fit y z more h
own_fit y z (Ends asked at ∷ more) h = (h.0, own_fit y z more h.1)

-- those of the one in its place
module _ (y x : Observed) (when : ℕ) (same : x.asked ≡ y.asked) (was : IsAnsweredAt when x.outcome) (is : IsAnsweredAt when y.outcome) where
  other_ends : (events : List Event) → EndsIn x events → EndsIn y (events_with y events)
  other_ends [] h = h
  other_ends (Asks z ∷ more) h = other_ends more h
  other_ends (Ends asked at ∷ more) h = elim h [
    | inl k ↦ inl (sym same ∙ k.0, subst (λ t. IsAnsweredAt t y.outcome) (one_time x.outcome when at was k.1) is)
    | inr k ↦ inr (other_ends more k)
  ]

  other_fit : (events : List Event) → EndsFit x events → EndsFit y (events_with y events)
  other_fit [] h = tt
  other_fit (Asks z ∷ more) h = other_fit more h
  other_fit (Ends asked at ∷ more) h = (λ e. subst (λ t. IsAnsweredAt t y.outcome) (one_time x.outcome when at was (h.0 (same ∙ e))) is, other_fit more h.1)

-- of the calls that were asked then, each was answered then
abbrev AnsweredThen : Observed → ℕ → List Observed → Type 0
AnsweredThen y when calls = AllByRecursion (λ (z : Observed). z.asked ≡ y.asked → IsAnsweredAt when z.outcome) calls

window_have : (y : Observed) (when : ℕ) → IsAnsweredAt when y.outcome → (events : List Event) → AnsweredThen y when (asked_in events) → HaveEnds events → HaveEnds (events_with y events)
window_have y when is [] all h = tt
window_have y when is (Asks x ∷ more) all h = elim (x.asked == y.asked) as (λ b. (x.asked == y.asked) ≡ b → HaveEnds (Asks (cond b y x) ∷ events_with y more)) [
  | true ↦ λ e.
      let same : x.asked ≡ y.asked = eqb-true x.asked y.asked e in
      let was = all.0 same in
      (λ _. other_ends y x when same was is more (h.0 (answered x.outcome was)), other_fit y x when same was is more h.1, window_have y when is more all.1 h.2)
  | false ↦ λ e. (λ k. own_with y x more (h.0 k), own_fit y x more h.1, window_have y when is more all.1 h.2)
] refl
  where
    answered : (outcome : Outcome) → IsAnsweredAt when outcome → IsAnswered outcome
    answered (Answered at recorded) k = tt
    answered (Aborted at) k = k
    answered Unknown k = k
window_have y when is (Ends asked at ∷ more) all h = window_have y when is more all h

have_with : (y : Observed) (when : ℕ) → IsAnsweredAt when y.outcome → (past events : List Event) → AnsweredThen y when (asked_in events) → HaveEnds past → HaveEnds (past ++ events) → HaveEnds (past ++ events_with y events)
have_with y when is [] events all own h = window_have y when is events all h
have_with y when is (Asks x ∷ past) events all own h = (
  λ k. first past (own.0 k),
  fits past h.1,
  have_with y when is past events all own.2 h.2,
)
  where
    first : (es : List Event) → EndsIn x es → EndsIn x (es ++ events_with y events)
    first [] k = absurd k
    first (Asks z ∷ es) k = first es k
    first (Ends asked at ∷ es) k = elim k [ inl q ↦ inl q | inr q ↦ inr (first es q) ]

    fits : (es : List Event) → EndsFit x (es ++ events) → EndsFit x (es ++ events_with y events)
    fits [] k = own_fit y x events k
    fits (Asks z ∷ es) k = fits es k
    fits (Ends asked at ∷ es) k = (k.0, fits es k.1)
have_with y when is (Ends asked at ∷ past) events all own h = have_with y when is past events all own h

-- ---- a call of a window, up to a time
apart_asked : (events : List Event) → TimesRise events → (x z : Observed) → IsIn x (asked_in events) → IsIn z (asked_in events) → x.asked ≡ z.asked → x ≡ z
apart_asked [] rise x z h k same = absurd h
apart_asked (Asks w ∷ more) rise x z h k same = elim h [
  | inl p ↦ elim k [
    | inl q ↦ p ∙ sym q
    | inr q ↦ let lt : w.asked < z.asked = asked_after w.asked more z rise.0 q in let is : x.asked ≡ w.asked = ap (λ (v : Observed). v.asked) p in absurd (omega (arith, lt, is, same))
  ]
  | inr p ↦ elim k [
    | inl q ↦ let lt : w.asked < x.asked = asked_after w.asked more x rise.0 p in let is : z.asked ≡ w.asked = ap (λ (v : Observed). v.asked) q in absurd (omega (arith, lt, is, same))
    | inr q ↦ apart_asked more rise.1 x z p q same
  ]
]
apart_asked (Ends asked at ∷ more) rise x z h k same = apart_asked more rise.1 x z h k same

then_by : (y : Observed) (at : ℕ) (events : List Event) → ((z : Observed) → IsIn z (asked_in events) → z.asked ≡ y.asked → IsAnsweredAt at z.outcome) → AnsweredThen y at (asked_in (events_by at events))
then_by y at [] f = tt
then_by y at (Asks z ∷ more) f = elim (nat_le z.asked at) as (λ b. AnsweredThen y at (asked_in (cond b (Asks (call_by at z) ∷ events_by at more) (events_by at more)))) [
  | true ↦ ((λ same. answered_then at at z.outcome (f z (inl refl) same) (omega arith)), then_by y at more (λ w h. f w (inr h)))
  | false ↦ then_by y at more (λ w h. f w (inr h))
]
then_by y at (Ends asked when ∷ more) f = elim (nat_le when at) as (λ b. AnsweredThen y at (asked_in (cond b (Ends asked when ∷ events_by at more) (events_by at more)))) [
  | true ↦ then_by y at more f
  | false ↦ then_by y at more f
]

drop_rises : (past events : List Event) → TimesRise (past ++ events) → TimesRise events
drop_rises [] events h = h
drop_rises (event ∷ past) events h = drop_rises past events h.1

drop_ends : (past events : List Event) → HaveEnds (past ++ events) → HaveEnds events
drop_ends [] events h = h
drop_ends (Asks x ∷ past) events h = drop_ends past events h.2
drop_ends (Ends asked at ∷ past) events h = drop_ends past events h

-- an end is later than what is before the events
ends_later : (time at : ℕ) (x : Observed) (events : List Event) → AreAfter time events → EndsIn x events → IsAnsweredAt at x.outcome → time < at
ends_later time at x [] h k was = absurd k
ends_later time at x (Asks z ∷ more) h k was = ends_later time at x more h.1 k was
ends_later time at x (Ends asked when ∷ more) h k was = elim k [
  | inl q ↦ subst (λ t. time < t) (one_time x.outcome when at q.1 was) h.0
  | inr q ↦ ends_later time at x more h.1 q was
]

asked_before : (at : ℕ) (x : Observed) (events : List Event) → TimesRise events → HaveEnds events → IsIn x (asked_in events) → IsAnsweredAt at x.outcome → x.asked < at
asked_before at x [] rise have h was = absurd h
asked_before at x (Asks z ∷ more) rise have h was = elim h [
  | inl e ↦
      let ends : EndsIn x more = subst (λ (w : Observed). EndsIn w more) (sym e) (have.0 (subst (λ (w : Observed). IsAnswered w.outcome) e (answered x.outcome was))) in
      ends_later x.asked at x more (subst (λ (w : Observed). AreAfter w.asked more) (sym e) rise.0) ends was
  | inr k ↦ asked_before at x more rise.1 have.2 k was
]
  where
    answered : (outcome : Outcome) → IsAnsweredAt at outcome → IsAnswered outcome
    answered (Answered when recorded) k = tt
    answered (Aborted when) k = k
    answered Unknown k = k
asked_before at x (Ends asked when ∷ more) rise have h was = asked_before at x more rise.1 have h was

-- ---- the window with the call answered otherwise
module _ (past events : List Event) (x : Observed) (at : ℕ) (reply : Reply) (window : AreWindow past events) (there : IsIn x (asked_in events)) (was : IsAnsweredAt at x.outcome) where
  abbrev pub other : Observed
  other = answered_with x at reply

  abbrev pub told : List Event
  told = events_with other (events_by at events)

  pub told_rises : TimesRise (past ++ told)
  told_rises = rises_with other past (events_by at events) (rises_by at past events window.rise)

  pub told_have : HaveEnds (past ++ told)
  told_have =
      let rise = drop_rises past events window.rise in
      have_with other at refl past (events_by at events)
      (then_by other at events (λ z h same. subst (λ (w : Observed). IsAnsweredAt at w.outcome) (apart_asked events rise x z there h (sym same)) was))
      window.own (have_by at past events window.own window.ends)

  pub told_asked : asked_in (past ++ told) ≡ asked_in past ++ with_call other (calls_by at (asked_in events))
  told_asked = asked_both past told ∙ ap (λ zs. asked_in past ++ zs) (with_asked other (events_by at events) ∙ ap (with_call other) (asked_by at events))

  pub other_in : (es : List Event) → IsIn x (asked_in es) → IsIn other (asked_in (events_with other (events_by at es)))
  other_in [] h = h
  other_in (Asks z ∷ more) h = elim (nat_le z.asked at) as (λ b. nat_le z.asked at ≡ b → IsIn other (asked_in (events_with other (cond b (Asks (call_by at z) ∷ events_by at more) (events_by at more))))) [
    | true ↦ λ e. elim h [
      | inl same ↦ inl (sym (ap (λ b. cond b other (call_by at z)) (eq-eqb z.asked x.asked (ap (λ (w : Observed). w.asked) (sym same)))))
      | inr k ↦ inr (other_in more k)
    ]
    | false ↦ λ e. elim h [
      | inl same ↦
          let early : x.asked < at = asked_before at x events (drop_rises past events window.rise) (drop_ends past events window.ends) there was in
          let is : x.asked ≡ z.asked = ap (λ (w : Observed). w.asked) same in
          absurd (true≢false (sym (le-leb z.asked at (omega (arith, early, is))) ∙ e))
      | inr k ↦ other_in more k
    ]
  ] refl
  other_in (Ends asked when ∷ more) h = elim (nat_le when at) as (λ b. IsIn other (asked_in (events_with other (cond b (Ends asked when ∷ events_by at more) (events_by at more))))) [
    | true ↦ other_in more h
    | false ↦ other_in more h
  ]

  pub among_window : (es : List Event) (z : Observed) → IsIn z (asked_in (events_with other (events_by at es))) → (z.call ≡ x.call) ⊎ IsAmong z.call (calls_in (asked_in es))
  among_window [] z h = absurd h
  among_window (Asks w ∷ more) z h = elim (nat_le w.asked at) as (λ b. IsIn z (asked_in (events_with other (cond b (Asks (call_by at w) ∷ events_by at more) (events_by at more)))) → (z.call ≡ x.call) ⊎ IsAmong z.call (w.call ∷ calls_in (asked_in more))) [
    | true ↦ λ k. elim k [
      | inl e ↦ elim (w.asked == x.asked) as (λ b. z ≡ cond b other (call_by at w) → (z.call ≡ x.call) ⊎ IsAmong z.call (w.call ∷ calls_in (asked_in more))) [
        | true ↦ λ same. inl (ap (λ (v : Observed). v.call) same)
        | false ↦ λ same. inr (inl (ap (λ (v : Observed). v.call) same))
      ] e
      | inr q ↦ elim (among_window more z q) [ inl e ↦ inl e | inr r ↦ inr (inr r) ]
    ]
    | false ↦ λ k. elim (among_window more z k) [ inl e ↦ inl e | inr r ↦ inr (inr r) ]
  ] h
  among_window (Ends asked when ∷ more) z h = elim (nat_le when at) as (λ b. IsIn z (asked_in (events_with other (cond b (Ends asked when ∷ events_by at more) (events_by at more)))) → (z.call ≡ x.call) ⊎ IsAmong z.call (calls_in (asked_in more))) [
    | true ↦ λ k. among_window more z k
    | false ↦ λ k. among_window more z k
  ] h

-- ---- events
pub accepted_with : (y : Observed) (events : List Event) → arguments_accepted y.call ≡ Ok tt → AllByRecursion IsAcceptedEvent events → AllByRecursion IsAcceptedEvent (events_with y events)
accepted_with y [] own h = tt
accepted_with y (Asks x ∷ more) own h = (
  elim (x.asked == y.asked) as (λ b. arguments_accepted (cond b y x).call ≡ Ok tt) [ true ↦ own | false ↦ h.0 ],
  accepted_with y more own h.1,
)
accepted_with y (Ends asked at ∷ more) own h = (tt, accepted_with y more own h.1)

pub with_append : (y : Observed) (first second : List Event) → events_with y (first ++ second) ≡ events_with y first ++ events_with y second
with_append y [] second = refl
with_append y (Asks x ∷ first) second = ap (λ es. Asks (placed y x) ∷ es) (with_append y first second)
with_append y (Ends asked at ∷ first) second = ap (λ es. Ends asked at ∷ es) (with_append y first second)
