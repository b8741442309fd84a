-- trusted: read it
-- What a run over event lines writes.
use Rattle.std.specs.Prelude.{◌≡◌, ℕ, ◌≤◌, Bool, List, [], ◌++◌, length, Result}
use Rattle.tatp_limits.specs.declared.limits.TheConstants.{MAX_SUBSCRIBERS}
use Rattle.tatp_tables.specs.Clean.{IsClean}
use Rattle.tatp_tables.specs.declared.row.Rows.{Rows}
use Rattle.tatp_encoding.specs.Modules.{ModuleState}
use Rattle.tatp_events.specs.declared.event.Answer.{Answer}
use Rattle.tatp_events.specs.declared.refusal.Refusal.{Refusal}
use Rattle.tatp_dispatch.specs.Benchmark.{IsTheBenchmark}
use Rattle.tatp_dispatch.specs.Opened.{IsOpened}
use Rattle.tatp_dispatch.specs.Runs.{Runs}
use Rattle.tatp_dispatch.specs.Worlds.{WorldState}
use Rattle.tatp_console.specs.EventLines.{TellsOf, TellsLines, events_in}
use Rattle.tatp_tasks.specs.declared.setup.Setup.{Setup}
use Rattle.tatp_inputs.specs.Work.{Work}
use Rattle.tatp_console.specs.Answers.{Answering, Ending}

-- the text is what is written for the line, where lines are echoed or not
abbrev pub answers_events : Bool → Answering
answers_events echoed w line text w' =
    (answers : List (Result Answer Refusal)) × TellsOf echoed w line answers text w'

-- nothing follows the answers to all lines
abbrev pub no_ending : Ending
no_ending n w = []

-- `told` is what is written for the lines, from a system just opened with the rows under the
-- module m; the answers are those of the lines' events, one after another, and are the benchmark's
pub record TellsFrom (m : ModuleState) (rows : Rows) (setup : Setup) (echoed : Bool)
    (lines : List (List ℕ)) (told : List ℕ) : Type 0 where
  pub opened : WorldState
  pub after : WorldState
  pub answers : List (Result Answer Refusal)
  pub is_opened : IsOpened m rows setup.partitions setup.clients opened
  pub tells : TellsLines echoed opened lines answers told after
  pub runs : Runs opened (events_in echoed lines) answers after
  pub benchmark : IsTheBenchmark m rows answers after

-- `told` is what is written for all lines of the work, whose rows may be opened
pub record TellsWork (setup : Setup) (echoed : Bool) (m : ModuleState) (work : Work)
    (told : List ℕ) : Type 0 where
  pub few : length work.rows.subscribers ≤ MAX_SUBSCRIBERS
  pub clean : IsClean work.rows
  pub tells : TellsFrom m work.rows setup echoed work.lines told

-- a front of what is written for the lines up to some line
pub record TellsFront (setup : Setup) (echoed : Bool) (m : ModuleState) (work : Work)
    (front : List ℕ) : Type 0 where
  pub lines : List (List ℕ)
  pub later : List (List ℕ)
  pub rest : List ℕ
  pub first : work.lines ≡ lines ++ later
  pub tells : TellsWork setup echoed m (record work { lines = lines }) (front ++ rest)
