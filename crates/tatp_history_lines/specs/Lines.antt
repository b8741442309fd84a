-- The line that a text is, by its words: docs/FORMATS.md.
use Rattle.std.specs.Prelude.{ℕ, ◌==◌, Bool, true, if◌then◌else◌, List, [], ◌∷◌, Option, Some, None, Result, Ok, Err, codes, bytes_eq}
use Rattle.std.specs.Option.{option_map, option_and_then}
use Rattle.tatp_calls.specs.declared.domains.BadArgument.{BadArgument as Bad}
use Rattle.tatp_calls.specs.Arguments.{arguments_accepted}
use Rattle.tatp_calls.specs.CallText.{call_of_line}
use Rattle.tatp_history.specs.declared.line.Line.{Line}
use Rattle.tatp_history.specs.declared.line.Line.TheVariants.{Ask, End, Abort, Lost}
use Rattle.tatp_history_lines.specs.declared.fault.LineFault.{LineFault}
use Rattle.tatp_history_lines.specs.declared.fault.LineFault.TheVariants.{BadLine, BadArgument}
use Rattle.tatp_history_lines.specs.Words.{split_word, short_number_of}
use Rattle.tatp_history_lines.specs.Recordings.{recorded_of}
use Rattle.tatp_history_lines.specs.Open.{CallsOpen}

-- ---- lines
-- a client, and the line of a call
abbrev pub ask_of : List ℕ → Option Line
ask_of text =
    option_and_then (λ (parts : List ℕ × List ℕ).
    option_and_then (λ client. option_map (Ask client) (call_of_line parts.1))
    (short_number_of parts.0))
    (split_word text)

-- a client that has a call open, and a recorded reply to the call
abbrev pub end_of : CallsOpen → List ℕ → Option Line
end_of opened text =
    option_and_then (λ (parts : List ℕ × List ℕ).
    option_and_then (λ client.
    option_and_then (λ call. option_map (End client) (recorded_of call parts.1)) (opened client))
    (short_number_of parts.0))
    (split_word text)

-- a client that has a call open
abbrev pub ended_of : CallsOpen → List ℕ → Option ℕ
ended_of opened text =
    option_and_then (λ client. option_map (λ call. client) (opened client)) (short_number_of text)

-- the line, by the first word
abbrev pub line_after : CallsOpen → List ℕ → List ℕ → Option Line
line_after opened word rest =
    if bytes_eq word (codes "ask") then ask_of rest else
    if bytes_eq word (codes "end") then end_of opened rest else
    if bytes_eq word (codes "abort") then option_map Abort (ended_of opened rest) else
    if bytes_eq word (codes "lost") then option_map Lost (ended_of opened rest) else
    None

-- the line that a text is, where clients have these calls open
unfoldable pub line_of : CallsOpen → List ℕ → Option Line
line_of opened text =
    option_and_then (λ (parts : List ℕ × List ℕ). line_after opened parts.0 parts.1)
    (split_word text)

-- ---- what a text says
-- the text is a comment, or empty
abbrev pub is_passed_over : List ℕ → Bool
is_passed_over [] = true
is_passed_over (b ∷ bs) = b == 35

abbrev pub if_accepted : Line → Result (Unit {0}) Bad → Result (Option Line) LineFault
if_accepted line (Ok done) = Ok (Some line)
if_accepted line (Err bad) = Err (BadArgument bad)

-- a line, where the arguments of what is asked are in their domains
abbrev pub accepted : Line → Result (Option Line) LineFault
accepted (Ask client call) = if_accepted (Ask client call) (arguments_accepted call)
accepted (End client recorded) = Ok (Some (End client recorded))
accepted (Abort client) = Ok (Some (Abort client))
accepted (Lost client) = Ok (Some (Lost client))

abbrev pub told : Option Line → Result (Option Line) LineFault
told None = Err BadLine
told (Some line) = accepted line

-- nothing, or a line, or why it is none: first that it has no line's form, then that an argument is
-- outside its domain
abbrev pub said_by : CallsOpen → List ℕ → Result (Option Line) LineFault
said_by opened text = if is_passed_over text then Ok None else told (line_of opened text)
