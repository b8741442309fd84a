-- Events of calls, in the order of time.
use Rattle.std.specs.Prelude.{◌≡◌, ℕ, ◌<◌, ◌⊎◌, List, [], ◌∷◌}
use Rattle.std.specs.List.{AllByRecursion}
use Rattle.tatp_history.specs.declared.event.Event.{Event}
use Rattle.tatp_history.specs.declared.event.Event.TheVariants.{Asks, Ends}
use Rattle.tatp_history.specs.declared.observed.Outcome.{Outcome}
use Rattle.tatp_history.specs.declared.observed.Outcome.TheVariants.{Answered, Aborted, Unknown}
use Rattle.tatp_history.specs.declared.observed.Observed.{Observed}
use Rattle.tatp_history.specs.Histories.{IsAnswered}

-- the calls that are asked in the events
abbrev pub asked_in : List Event → List Observed
asked_in [] = []
asked_in (Asks x ∷ more) = x ∷ asked_in more
asked_in (Ends asked at ∷ more) = asked_in more

-- ---- times
abbrev pub time_of : Event → ℕ
time_of (Asks x) = x.asked
time_of (Ends asked at) = at

abbrev pub AreAfter : ℕ → List Event → Type 0
AreAfter time events = AllByRecursion (λ event. time < time_of event) events

-- the times of the events rise
abbrev pub TimesRise : List Event → Type 0
TimesRise [] = Unit {0}
TimesRise (event ∷ more) = AreAfter (time_of event) more × TimesRise more

-- ---- ends
abbrev pub IsAnsweredAt : ℕ → Outcome → Type 0
IsAnsweredAt time (Answered at recorded) = time ≡ at
IsAnsweredAt time (Aborted at) = ⊥
IsAnsweredAt time Unknown = ⊥

-- the call's end is one of the events
abbrev pub EndsIn : Observed → List Event → Type 0
EndsIn x [] = ⊥
EndsIn x (Asks y ∷ more) = EndsIn x more
EndsIn x (Ends asked at ∷ more) = ((x.asked ≡ asked) × IsAnsweredAt at x.outcome) ⊎ EndsIn x more

-- each end of the call is at the time at which the call was answered
abbrev pub EndsFit : Observed → List Event → Type 0
EndsFit x [] = Unit {0}
EndsFit x (Asks y ∷ more) = EndsFit x more
EndsFit x (Ends asked at ∷ more) = (x.asked ≡ asked → IsAnsweredAt at x.outcome) × EndsFit x more

-- each call that is answered has its end among the later events, and no other call has one
abbrev pub HaveEnds : List Event → Type 0
HaveEnds [] = Unit {0}
HaveEnds (Asks x ∷ more) = (IsAnswered x.outcome → EndsIn x more) × EndsFit x more × HaveEnds more
HaveEnds (Ends asked at ∷ more) = HaveEnds more
