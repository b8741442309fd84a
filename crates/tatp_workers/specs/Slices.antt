-- Steps of a call under one hold of its site's lock.
use Rattle.std.specs.Prelude.{◌≡◌, ℕ, zero, suc, ◌<◌, List, [], ◌∷◌, ◌++◌, Option, Some, None, Result, Ok, Err, IfOk}
use Rattle.std.specs.Option.{option_map}
use Rattle.std.specs.Result.{result_and}
use Rattle.tatp_partition.specs.declared.item.Completion.{Completion}
use Rattle.tatp_partition.specs.declared.item.Stepped.{Stepped}
use Rattle.tatp_partition.specs.declared.refusal.SiteRefusal.{SiteRefusal}
use Rattle.tatp_partition.specs.Obstacles.{step_obstacle}
use Rattle.tatp_partition.specs.Running.{GoesOn, AdvancesUnless, stepped_of}
use Rattle.tatp_partition.specs.Sites.{SiteState, RunningCall}
use Rattle.tatp_workers.specs.declared.observer.StepAhead.{StepAhead}
use Rattle.tatp_workers.specs.FullLogs.{log_length}

-- the running call's next step: whose call it is, and at which position
abbrev pub next_step : ℕ → RunningCall → StepAhead
next_step partition r =
    record { partition = partition; client = r.client; pc = r.call.frame.pc }

abbrev pub step_ahead : SiteState → Option StepAhead
step_ahead s = option_map (next_step s.partition) s.running

-- a list of it, if there is one
abbrev pub alone : Option StepAhead → List StepAhead
alone None = []
alone (Some step) = step ∷ []

-- the steps that are seen before a step is made or refused: the running call's next one, none where
-- a step is refused
abbrev pub steps_ahead_unless : Option SiteRefusal → SiteState → List StepAhead
steps_ahead_unless (Some refusal) s = []
steps_ahead_unless None s = alone (step_ahead s)

abbrev pub steps_ahead : SiteState → List StepAhead
steps_ahead s = steps_ahead_unless (step_obstacle s) s

-- this many steps, each seen before it was made and none ending the call, lead from one site to
-- another
abbrev pub GoesOnObserved : ℕ → SiteState → SiteState → List StepAhead → Type 0
GoesOnObserved zero s s' steps = (s' ≡ s) × (steps ≡ [])
GoesOnObserved (suc n) s s' steps =
    (mid : SiteState) × (before : List StepAhead)
    × GoesOnObserved n s mid before
    × (step_obstacle mid ≡ None) × GoesOn mid s'
    × (steps ≡ before ++ steps_ahead mid)

-- the most steps of one call under one hold of the lock
abbrev pub most_steps : ℕ
most_steps = 16

-- fewer than the most steps were made without ending the call, and one more step gave this answer;
-- each was seen before it was made
pub record IsSlice (s : SiteState) (answer : Result Stepped SiteRefusal) (s' : SiteState)
    (steps : List StepAhead) : Type 0 where
  pub count : ℕ
  pub mid : SiteState
  pub before : List StepAhead
  pub few : count < most_steps
  pub went_on : GoesOnObserved count s mid before
  pub last : AdvancesUnless (step_obstacle mid) mid answer s'
  pub seen : steps ≡ before ++ steps_ahead mid

-- ---- the log of the call's extent
-- how many entries it has where the call ended; 0 where the call continues
abbrev pub logged_at : SiteState → Option Completion → ℕ
logged_at s None = 0
logged_at s (Some completion) = log_length s completion.extent

-- steps of the running call are made; `ended` is its completion, if it ends, and the answer is how
-- many entries the log of its extent has then
abbrev pub MakesSlice : SiteState → Result ℕ SiteRefusal → Option Completion → SiteState → Type 0
MakesSlice s answer ended s' =
    (steps : List StepAhead)
    × IsSlice s (result_and answer (Ok (stepped_of ended))) s' steps
    × IfOk answer (λ logged. logged ≡ logged_at s' ended)

-- how many entries the log has by the answer of a slice; 0 where a step was refused
abbrev pub logged_by : Result ℕ SiteRefusal → ℕ
logged_by (Ok logged) = logged
logged_by (Err refusal) = 0
