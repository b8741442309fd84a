-- What clients had seen by a time.
use Rattle.std.specs.Prelude.{ℕ, nat_le, if◌then◌else◌, List, map, filter}
use Rattle.tatp_history.specs.declared.observed.Outcome.{Outcome}
use Rattle.tatp_history.specs.declared.observed.Outcome.TheVariants.{Answered, Aborted, Unknown}
use Rattle.tatp_history.specs.declared.observed.Observed.{Observed}

-- the outcome as it was known at this time: an end that came later wasn't
abbrev pub outcome_by : ℕ → Outcome → Outcome
outcome_by time (Answered at recorded) = if nat_le at time then Answered at recorded else Unknown
outcome_by time (Aborted at) = if nat_le at time then Aborted at else Unknown
outcome_by time Unknown = Unknown

abbrev pub call_by : ℕ → Observed → Observed
call_by time x = record {
  asked = x.asked;
  call = x.call;
  outcome = outcome_by time x.outcome;
}

-- the calls that had been asked by this time
abbrev pub calls_by : ℕ → List Observed → List Observed
calls_by time calls = map (call_by time) (filter (λ (x : Observed). nat_le x.asked time) calls)
