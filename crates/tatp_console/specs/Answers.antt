-- What is answered to lines, one after another.
use Rattle.std.specs.Prelude.{◌≡◌, ◌⊎◌, ℕ, ◌+◌, ◌<◌, ◌≤◌, List, [], ◌∷◌, ◌++◌, length, Option}
use Rattle.std.specs.Io.KnownBytes.{Appends}
use Rattle.tatp_limits.specs.declared.limits.TheConstants.{MAX_INPUT_LIMIT, MAX_SUBSCRIBERS}
use Rattle.tatp_tables.specs.Clean.{IsClean}
use Rattle.tatp_tables.specs.declared.row.Rows.{Rows}
use Rattle.tatp_encoding.specs.Modules.{ModuleState}
use Rattle.tatp_dispatch.specs.Opened.{IsOpened}
use Rattle.tatp_dispatch.specs.Serving.{IsWorld}
use Rattle.tatp_dispatch.specs.Worlds.{WorldState}
use Rattle.tatp_tasks.specs.declared.setup.Setup.{Setup}
use Rattle.tatp_inputs.specs.Work.{Work}
use Rattle.tatp_console.specs.Brought.{IsModuleFor}

-- what is answered to a line: it relates the system before, the line, the text that is answered,
-- and the system after
abbrev pub Answering : Type 1
Answering = WorldState → List ℕ → List ℕ → WorldState → Type 0

-- what is written after the answers to all lines, by the number of subscribers and the system as it
-- is then
abbrev pub Ending : Type 0
Ending = ℕ → WorldState → List ℕ

-- ---- what has to hold of the system before a line
-- it may depend on how many lines were taken
abbrev pub Readiness : Type 1
Readiness = ℕ → WorldState → Type 0

-- it holds after some number of lines, which isn't the most
abbrev pub IsReady : Readiness → WorldState → Type 0
IsReady ready w = (lines : ℕ) × (lines < MAX_INPUT_LIMIT) × ready lines w

-- where it holds before a line, it holds after it
abbrev pub StaysReady : Readiness → WorldState → WorldState → Type 0
StaysReady ready w w' =
    (lines : ℕ) → lines < MAX_INPUT_LIMIT → ready lines w → ready (lines + 1) w'

-- it holds of a system that was just opened so, whatever was read before
abbrev pub IsReadyFirst : Readiness → Setup → Type 0
IsReadyFirst ready setup = (m : ModuleState) (rows : Rows) (lines : ℕ) (w : WorldState)
    → IsModuleFor setup.procedures m → IsOpened m rows setup.partitions setup.clients w → IsWorld w
    → ready lines w

-- ---- what is answered

-- new is what old is and after it what is answered to the line
pub record AppendsAnswer (answers : Answering) (w : WorldState) (line : List ℕ)
    (old new : List ℕ) (w' : WorldState) : Type 0 where
  pub text : List ℕ
  pub answered : answers w line text w'
  pub appended : new ≡ old ++ text

-- the text is what is answered to the lines
abbrev pub AnswersLines : Answering → WorldState → List (List ℕ) → List ℕ → WorldState → Type 0
AnswersLines answers w [] text w' = (text ≡ []) × (w' ≡ w)
AnswersLines answers w (line ∷ lines) text w' =
    (between : WorldState) × (first : List ℕ) × (rest : List ℕ) × answers w line first between
    × (text ≡ first ++ rest) × AnswersLines answers between lines rest w'

-- ---- bytes that a writer holds
-- new has besides what is answered to all lines, from the system w to that after
pub record AnswersAll (answers : Answering) (w : WorldState) (lines : List (List ℕ))
    (old new : Option (List ℕ)) (after : WorldState) : Type 0 where
  pub text : List ℕ
  pub answered : AnswersLines answers w lines text after
  pub written : Appends old new text

-- new has besides what is written to the end: what is answered to all lines, and the ending
pub record AnswersToEnd (answers : Answering) (ending : WorldState → List ℕ) (w : WorldState)
    (lines : List (List ℕ)) (old new : Option (List ℕ)) : Type 0 where
  pub after : WorldState
  pub told : List ℕ
  pub answered : AnswersLines answers w lines told after
  pub written : Appends old new (told ++ ending after)

-- new has besides a front of it
pub record AnswersInEnding (answers : Answering) (ending : WorldState → List ℕ) (w : WorldState)
    (lines : List (List ℕ)) (old new : Option (List ℕ)) : Type 0 where
  pub after : WorldState
  pub told : List ℕ
  pub front : List ℕ
  pub rest : List ℕ
  pub answered : AnswersLines answers w lines told after
  pub split : front ++ rest ≡ told ++ ending after
  pub written : Appends old new front

-- new has besides a front of what is answered to the lines up to some line
pub record AnswersUpTo (answers : Answering) (w : WorldState) (lines : List (List ℕ))
    (old new : Option (List ℕ)) : Type 0 where
  pub first : List (List ℕ)
  pub later : List (List ℕ)
  pub after : WorldState
  pub front : List ℕ
  pub rest : List ℕ
  pub split : lines ≡ first ++ later
  pub answered : AnswersLines answers w first (front ++ rest) after
  pub written : Appends old new front

-- ---- the lines of an input
-- the text is what is answered to all lines of the work, from a system just opened with its
-- rows under the module m; they may be opened
pub record AnswersLinesOf (answers : Answering) (setup : Setup) (m : ModuleState) (work : Work)
    (text : List ℕ) (after : WorldState) : Type 0 where
  pub few : length work.rows.subscribers ≤ MAX_SUBSCRIBERS
  pub clean : IsClean work.rows
  pub opened : WorldState
  pub is_opened : IsOpened m work.rows setup.partitions setup.clients opened
  pub world : IsWorld opened
  pub answered : AnswersLines answers opened work.lines text after

-- the text is what is answered to all lines of the work, and after it the ending
pub record AnswersWork (answers : Answering) (ending : Ending) (setup : Setup) (m : ModuleState)
    (work : Work) (text : List ℕ) : Type 0 where
  pub after : WorldState
  pub told : List ℕ
  pub answered : AnswersLinesOf answers setup m work told after
  pub ended : text ≡ told ++ ending (length work.rows.subscribers) after

-- a front of what is answered to the lines up to some line
pub record AnswersSome (answers : Answering) (setup : Setup) (m : ModuleState) (work : Work)
    (front : List ℕ) : Type 0 where
  pub lines : List (List ℕ)
  pub later : List (List ℕ)
  pub after : WorldState
  pub rest : List ℕ
  pub split : work.lines ≡ lines ++ later
  pub answered
      : AnswersLinesOf answers setup m (record work { lines = lines }) (front ++ rest) after

-- a front of what is written for all lines
abbrev pub AnswersMost : Answering → Ending → Setup → ModuleState → Work → List ℕ → Type 0
AnswersMost answers ending setup m work front =
    (rest : List ℕ) × AnswersWork answers ending setup m work (front ++ rest)

-- either of these two
abbrev pub AnswersFront : Answering → Ending → Setup → ModuleState → Work → List ℕ → Type 0
AnswersFront answers ending setup m work front =
    AnswersSome answers setup m work front ⊎ AnswersMost answers ending setup m work front
