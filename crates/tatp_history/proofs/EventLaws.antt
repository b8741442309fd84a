-- When calls are asked and answered along events.
use Rattle.std.proofs.Common.{ℕ, ◌<◌, ◌≤◌, List, [], ◌∷◌, subst, sym, arith, inl, inr}
use Rattle.tatp_history.specs.declared.event.Event.{Event}
use Rattle.tatp_history.specs.declared.event.Event.TheVariants.{Asks, Ends}
use Rattle.tatp_history.specs.declared.observed.Outcome.{Outcome}
use Rattle.tatp_history.specs.declared.observed.Outcome.TheVariants.{Answered, Aborted, Unknown}
use Rattle.tatp_history.specs.declared.observed.Observed.{Observed}
use Rattle.tatp_history.specs.Histories.{IsIn, IsAnswered, IsAnsweredBefore}
use Rattle.tatp_history.specs.Events.{asked_in, AreAfter, IsAnsweredAt, EndsIn, HaveEnds}

pub answered_at : (o : Outcome) (t : ℕ) → IsAnsweredAt t o → IsAnswered o
answered_at (Answered at recorded) t h = tt
answered_at (Aborted at) t h = h
answered_at Unknown t h = h

-- it was answered at a time, so not before an earlier one, and before any later one
pub not_before : (o : Outcome) (t s : ℕ) → IsAnsweredAt t o → s ≤ t → IsAnsweredBefore s o → ⊥
not_before (Answered at recorded) t s h le k = omega (arith, h, le, k)
not_before (Aborted at) t s h le k = h
not_before Unknown t s h le k = h

pub is_before : (o : Outcome) (t s : ℕ) → IsAnsweredAt t o → t < s → IsAnsweredBefore s o
is_before (Answered at recorded) t s h lt = omega (arith, h, lt)
is_before (Aborted at) t s h lt = h
is_before Unknown t s h lt = h

pub before_answered : (o : Outcome) (t : ℕ) → IsAnsweredBefore t o → IsAnswered o
before_answered (Answered at recorded) t h = tt
before_answered (Aborted at) t h = h
before_answered Unknown t h = h

-- what is asked later is asked after the time
pub asked_after : (time : ℕ) (events : List Event) (z : Observed) → AreAfter time events → IsIn z (asked_in events) → time < z.asked
asked_after time [] z h k = absurd k
asked_after time (Asks x ∷ more) z h k = elim k [
  | inl e ↦ subst (λ (w : Observed). time < w.asked) (sym e) h.0
  | inr q ↦ asked_after time more z h.1 q
]
asked_after time (Ends asked at ∷ more) z h k = asked_after time more z h.1 k

-- a call that ends later wasn't answered before the time
pub ends_after : (time : ℕ) (events : List Event) (z : Observed) → AreAfter time events → EndsIn z events → IsAnsweredBefore time z.outcome → ⊥
ends_after time [] z h k before = k
ends_after time (Asks x ∷ more) z h k before = ends_after time more z h.1 k before
ends_after time (Ends asked at ∷ more) z h k before = elim k [
  | inl e ↦ let lt : time < at = h.0 in not_before z.outcome at time e.1 (omega (arith, lt)) before
  | inr q ↦ ends_after time more z h.1 q before
]

-- a later call that is answered has its end later
pub later_ends : (events : List Event) (z : Observed) → HaveEnds events → IsIn z (asked_in events) → IsAnswered z.outcome → EndsIn z events
later_ends [] z h k answered = absurd k
later_ends (Asks x ∷ more) z h k answered = elim k [
  | inl e ↦ subst (λ (w : Observed). EndsIn w more) (sym e) (h.0 (subst (λ (w : Observed). IsAnswered w.outcome) e answered))
  | inr q ↦ later_ends more z h.2 q answered
]
later_ends (Ends asked at ∷ more) z h k answered = inr (later_ends more z h k answered)
