-- What is answered to a line of `trace`, and what the line does to the system.
use Rattle.std.specs.Prelude.{◌≡◌, ℕ, Bool, true, false, List, [], ◌∷◌, ◌++◌, ◌&&◌, ◌==◌, replicate, slice_index_or, codes, Option, Some, None, if◌then◌else◌}
use Rattle.std.specs.List.{flat_map}
use Rattle.std.specs.Str.{is_utf8}
use Rattle.std.specs.Str.Lossy.{utf8_lossy}
use Rattle.tatp_audits.specs.declared.verdict.Verdict.{Verdict}
use Rattle.tatp_audits.specs.Audits.{IsVerdict}
use Rattle.tatp_audits.specs.Printing.{verdict_text}
use Rattle.tatp_events.specs.declared.event.Event.{Event as AnEvent}
use Rattle.tatp_events.specs.declared.event.Event.TheVariants.{Step}
use Rattle.tatp_events.specs.Answers.{Answered}
use Rattle.tatp_dispatch.specs.Events.{Happens}
use Rattle.tatp_dispatch.specs.Gathered.{gathered_rows}
use Rattle.tatp_dispatch.specs.Serving.{Tells}
use Rattle.tatp_dispatch.specs.Worlds.{WorldState}
use Rattle.tatp_trace_lines.specs.declared.line.TraceLine.{TraceLine}
use Rattle.tatp_trace_lines.specs.declared.line.TraceLine.TheVariants.{Event, Steps, Look, Home, Audit}
use Rattle.tatp_trace_lines.specs.AnswerText.{answered_text, bad_line_text}
use Rattle.tatp_trace_lines.specs.LineFields.{line_of}
use Rattle.tatp_console.specs.Looking.{told_line, TellsLook, home_told}

-- the line that bytes are, which have to be text
unfoldable pub line_in : List ℕ → Option TraceLine
line_in bytes = if is_utf8 bytes then line_of bytes else None

-- ---- events
-- the event happens and is answered so, and the text is the line of that answer
pub record TellsEvent (w : WorldState) (event : AnEvent) (answered : Answered) (told : List ℕ)
    (w' : WorldState) : Type 0 where
  pub happens : Happens w event answered w'
  pub tells : Tells w answered w'
  pub line : told ≡ told_line (answered_text answered)

-- events, one after another: a line for each
abbrev pub TellsEvents : WorldState → List AnEvent → List Answered → List ℕ → WorldState → Type 0
TellsEvents w [] [] told w' = (told ≡ []) × (w' ≡ w)
TellsEvents w (event ∷ events) (answered ∷ answers) told w' =
    (between : WorldState)
    × (first : List ℕ)
    × (rest : List ℕ)
    × TellsEvent w event answered first between
    × (told ≡ first ++ rest)
    × TellsEvents between events answers rest w'
TellsEvents w [] (answered ∷ answers) told w' = ⊥
TellsEvents w (event ∷ events) [] told w' = ⊥

-- ---- lines
-- the events of a line; a line that shows something has none, nor has what is no line
abbrev pub events_of : Option TraceLine → List AnEvent
events_of (Some (Event event)) = event ∷ []
events_of (Some (Steps p count)) = replicate count (Step p)
events_of line = []

-- the verdict on the rows of all sites and of all parcels in hand
pub record TellsVerdict (w : WorldState) (told : List ℕ) : Type 0 where
  pub verdict : Verdict
  pub judged : IsVerdict (gathered_rows w) verdict
  pub line : told ≡ told_line (verdict_text verdict)

-- what is answered to a line
abbrev pub TellsLine : WorldState → Option TraceLine → List Answered → List ℕ → WorldState → Type 0
TellsLine w (Some (Event event)) answers told w' = TellsEvents w (event ∷ []) answers told w'
TellsLine w (Some (Steps p count)) answers told w' =
    TellsEvents w (replicate count (Step p)) answers told w'
TellsLine w (Some (Look p)) answers told w' = TellsLook w p told × (answers ≡ []) × (w' ≡ w)
TellsLine w (Some (Home p s_id)) answers told w' =
    (told ≡ home_told w p s_id) × (answers ≡ []) × (w' ≡ w)
TellsLine w (Some Audit) answers told w' = TellsVerdict w told × (answers ≡ []) × (w' ≡ w)
TellsLine w None answers told w' = (told ≡ told_line bad_line_text) × (answers ≡ []) × (w' ≡ w)

-- ---- lines that are echoed
-- the line itself, after `> `; where it isn't UTF-8, U+FFFD replaces what isn't
abbrev pub echo_of : List ℕ → List ℕ
echo_of line = codes "> " ++ (utf8_lossy line ++ 10 ∷ [])

-- it begins with #
abbrev pub is_comment : List ℕ → Bool
is_comment line = slice_index_or line 0 0 == 35

-- what is answered to a line that is a comment or isn't
abbrev pub TellsUnlessComment : Bool → WorldState → List ℕ → List Answered → List ℕ → WorldState
    → Type 0
TellsUnlessComment true w line answers told w' = (told ≡ []) × (answers ≡ []) × (w' ≡ w)
TellsUnlessComment false w line answers told w' = TellsLine w (line_in line) answers told w'

-- what is written for a line: what is answered to it, and where lines are echoed, the line first
abbrev pub TellsOf : Bool → WorldState → List ℕ → List Answered → List ℕ → WorldState → Type 0
TellsOf false w line answers told w' = TellsLine w (line_in line) answers told w'
TellsOf true w line answers told w' =
    (answer : List ℕ) × (told ≡ echo_of line ++ answer)
    × TellsUnlessComment (is_comment line) w line answers answer w'

-- ---- lines, one after another
abbrev pub TellsLines : Bool → WorldState → List (List ℕ) → List Answered → List ℕ → WorldState
    → Type 0
TellsLines echoed w [] answers told w' = (answers ≡ []) × (told ≡ []) × (w' ≡ w)
TellsLines echoed w (line ∷ lines) answers told w' =
    (between : WorldState)
    × (here : List Answered)
    × (later : List Answered)
    × (first : List ℕ)
    × (rest : List ℕ)
    × TellsOf echoed w line here first between
    × (answers ≡ here ++ later)
    × (told ≡ first ++ rest)
    × TellsLines echoed between lines later rest w'

-- the events of a line; where lines are echoed, a comment has none
abbrev pub events_told : Bool → List ℕ → List AnEvent
events_told echoed line =
    if echoed && is_comment line then [] else events_of (line_in line)

-- those of all lines
abbrev pub events_in : Bool → List (List ℕ) → List AnEvent
events_in echoed lines = flat_map (events_told echoed) lines

-- ---- texts that were appended to
-- new is old and after it what is answered to the event
pub record AppendsEvent (w : WorldState) (event : AnEvent) (old new : List ℕ) (w' : WorldState)
    : Type 0 where
  pub answered : Answered
  pub told : List ℕ
  pub tells : TellsEvent w event answered told w'
  pub appended : new ≡ old ++ told

-- new is old and after it what is answered to `count` steps of the site of partition p
pub record AppendsSteps (w : WorldState) (p count : ℕ) (old new : List ℕ) (w' : WorldState)
    : Type 0 where
  pub answers : List Answered
  pub told : List ℕ
  pub tells : TellsEvents w (replicate count (Step p)) answers told w'
  pub appended : new ≡ old ++ told

-- new is old and after it what is answered to a line
pub record AppendsLine (w : WorldState) (line : Option TraceLine) (old new : List ℕ)
    (w' : WorldState) : Type 0 where
  pub answers : List Answered
  pub told : List ℕ
  pub tells : TellsLine w line answers told w'
  pub appended : new ≡ old ++ told
