-- Which calls may have taken effect, and which have.
use Rattle.std.specs.Prelude.{Bool, true, false, List, filter}
use Rattle.tatp_history.specs.declared.observed.Outcome.{Outcome}
use Rattle.tatp_history.specs.declared.observed.Outcome.TheVariants.{Answered, Aborted, Unknown}
use Rattle.tatp_history.specs.declared.observed.Observed.{Observed}

-- whether a call with this outcome may have taken effect: it wasn't aborted
abbrev pub may_take_effect : Outcome → Bool
may_take_effect (Answered at recorded) = true
may_take_effect (Aborted at) = false
may_take_effect Unknown = true

-- whether a call with this outcome has taken effect: it was answered
abbrev pub takes_effect : Outcome → Bool
takes_effect (Answered at recorded) = true
takes_effect (Aborted at) = false
takes_effect Unknown = false

abbrev pub without_aborted : List Observed → List Observed
without_aborted calls = filter (λ (x : Observed). may_take_effect x.outcome) calls

abbrev pub answered_alone : List Observed → List Observed
answered_alone calls = filter (λ (x : Observed). takes_effect x.outcome) calls
