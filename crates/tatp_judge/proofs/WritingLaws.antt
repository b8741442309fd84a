-- An outcome is written into events at one place.
use Rattle.std.proofs.Common.{◌≡◌, ◌≢◌, ℕ, zero, suc, ◌<◌, ◌≤◌, ◌∙◌, ap, sym, cond, ltb, List, [], ◌∷◌, ◌++◌, length, set, get_or, true, false, ne_eqb, ltb-true, ltb-false, refl, arith}
use Rattle.std.specs.List.{AllByRecursion}
use Rattle.std.specs.List.Sorted.{IsNonDecreasingBy, IsPartitionPoint}
use Rattle.tatp_history.specs.declared.event.Event.{Event}
use Rattle.tatp_history.specs.declared.event.Event.TheVariants.{Asks, Ends}
use Rattle.tatp_history.specs.declared.observed.Outcome.{Outcome}
use Rattle.tatp_history.specs.Events.{AreAfter, TimesRise, time_of}
use Rattle.tatp_judge.specs.NextLine.{with_outcome}

-- ---- times
all_at : (P : Event → Type 0) (events : List Event) (k : ℕ) (d : Event) → AllByRecursion P events → k < length events → P (get_or events k d)
all_at P [] k d h lt = absurd (omega (arith, lt))
all_at P (event ∷ more) zero d h lt = h.0
all_at P (event ∷ more) (suc k) d h lt = all_at P more k d h.1 (omega (arith, lt))

-- times that rise are sorted
pub sorted : (events : List Event) → TimesRise events → IsNonDecreasingBy time_of events
sorted [] rise i j d le lt = absurd (omega (arith, lt))
sorted (event ∷ more) rise zero zero d le lt = omega arith
sorted (event ∷ more) rise zero (suc j) d le lt =
    let after : time_of event < time_of (get_or more j d) = all_at (λ e. time_of event < time_of e) more j d rise.0 (omega (arith, lt)) in omega (arith, after)
sorted (event ∷ more) rise (suc i) zero d le lt = absurd (omega (arith, le))
sorted (event ∷ more) rise (suc i) (suc j) d le lt = sorted more rise.1 i j d (omega (arith, le)) (omega (arith, lt))

pub later_rise : (first second : List Event) → TimesRise (first ++ second) → TimesRise second
later_rise [] second h = h
later_rise (event ∷ first) second h = later_rise first second h.1

-- ---- events of other times stay as they are
same_first : (asked : ℕ) (o : Outcome) (event : Event) (more : List Event) → time_of event ≢ asked → with_outcome asked o (event ∷ more) ≡ event ∷ with_outcome asked o more
same_first asked o (Asks x) more n = λ i. Asks (record { asked = x.asked; call = x.call; outcome = ap (λ b. cond b o x.outcome) (ne_eqb x.asked asked n) i }) ∷ with_outcome asked o more
same_first asked o (Ends other at) more n = refl

one_first : (asked : ℕ) (o : Outcome) (event after : Event) (more : List Event) → after ∷ [] ≡ with_outcome asked o (event ∷ []) → with_outcome asked o (event ∷ more) ≡ after ∷ with_outcome asked o more
one_first asked o (Asks x) after more e = ap (λ es. es ++ with_outcome asked o more) (sym e)
one_first asked o (Ends other at) after more e = ap (λ es. es ++ with_outcome asked o more) (sym e)

unwritten : (asked : ℕ) (o : Outcome) (events : List Event) → AllByRecursion (λ event. time_of event ≢ asked) events → with_outcome asked o events ≡ events
unwritten asked o [] h = refl
unwritten asked o (event ∷ more) h = same_first asked o event more h.0 ∙ ap (λ es. event ∷ es) (unwritten asked o more h.1)

later_than : (time asked : ℕ) (events : List Event) → asked ≤ time → AreAfter time events → AllByRecursion (λ event. time_of event ≢ asked) events
later_than time asked [] le h = tt
later_than time asked (event ∷ more) le h = ((λ e. let lt : time < time_of event = h.0 in omega (arith, e, lt, le)), later_than time asked more le h.1)

-- ---- the place
-- the events up to this place are those before the time
abbrev pub IsPlaceOf : ℕ → List Event → ℕ → Type 0
IsPlaceOf asked events place = IsPartitionPoint (λ event. ltb (time_of event) asked ≡ true) (λ event. ltb (time_of event) asked ≡ false) events place

is_before : (asked place : ℕ) (event : Event) (more : List Event) → IsPlaceOf asked (event ∷ more) (suc place) → time_of event < asked
is_before asked place event more h = ltb-true (time_of event) asked (h.0 0 event (omega arith) (omega arith))

next_place : (asked place : ℕ) (event : Event) (more : List Event) → IsPlaceOf asked (event ∷ more) (suc place) → IsPlaceOf asked more place
next_place asked place event more h = ((λ k d le lt. h.0 (suc k) d (omega arith) (omega (arith, lt))), λ k d le lt. h.1 (suc k) d (omega (arith, le)) (omega (arith, lt)))

pub written_at : (asked : ℕ) (o : Outcome) (events : List Event) (place : ℕ) (x after : Event) → TimesRise events → IsPlaceOf asked events place → place < length events → x ≡ get_or events place x → after ∷ [] ≡ with_outcome asked o (x ∷ [])
    → set events place after ≡ with_outcome asked o events
written_at asked o [] place x after rise here lt at is = absurd (omega (arith, lt))
written_at asked o (event ∷ more) zero x after rise here lt at is =
    let later : asked ≤ time_of event = ltb-false (time_of event) asked (here.1 0 event (omega arith) (omega arith)) in
    sym (one_first asked o event after more (is ∙ ap (λ e. with_outcome asked o (e ∷ [])) at) ∙ ap (λ es. after ∷ es) (unwritten asked o more (later_than (time_of event) asked more later rise.0)))
written_at asked o (event ∷ more) (suc place) x after rise here lt at is =
    let before = is_before asked place event more here in
    sym (same_first asked o event more (λ e. omega (arith, e, before)) ∙ ap (λ es. event ∷ es) (sym (written_at asked o more place x after rise.1 (next_place asked place event more here) (omega (arith, lt)) at is)))

-- where all events are before, nothing is written
pub written_nowhere : (asked : ℕ) (o : Outcome) (events : List Event) (place : ℕ) → IsPlaceOf asked events place → length events ≤ place → events ≡ with_outcome asked o events
written_nowhere asked o [] place here le = refl
written_nowhere asked o (event ∷ more) zero here le = absurd (omega (arith, le))
written_nowhere asked o (event ∷ more) (suc place) here le =
    let before = is_before asked place event more here in
    sym (same_first asked o event more (λ e. omega (arith, e, before)) ∙ ap (λ es. event ∷ es) (sym (written_nowhere asked o more place (next_place asked place event more here) (omega (arith, le)))))
