-- The line that a text is, by its fields: docs/FORMATS.md.
use Rattle.std.specs.Prelude.{ℕ, suc, zero, List, [], ◌∷◌, Option, Some, None, nat_le, ◌&&◌, codes, bytes_eq, if◌then◌else◌}
use Rattle.std.specs.Option.{option_map, option_and_then}
use Rattle.tatp_limits.specs.declared.limits.TheConstants.{MAX_ARGUMENTS, MAX_STEPS}
use Rattle.tatp_lines.specs.Numbers.{number_of}
use Rattle.tatp_texts.specs.Text.{fields_of}
use Rattle.tatp_numbers.specs.declared.key.Key.{Key}
use Rattle.tatp_numbers.specs.declared.key.Key.TheVariants.{Id, Number}
use Rattle.tatp_calls.specs.declared.ask.Ask.TheVariants.{Txn, Raw}
use Rattle.tatp_calls.specs.CallText.{call_of_fields}
use Rattle.tatp_events.specs.declared.event.Event.{Event as AnEvent}
use Rattle.tatp_events.specs.declared.event.Event.TheVariants.{Submit, Begin, Deny, Step, Take, Give, Route, Checkpoint, Stop, Resume, One, Break, Clear}
use Rattle.tatp_trace_lines.specs.declared.line.TraceLine.{TraceLine}
use Rattle.tatp_trace_lines.specs.declared.line.TraceLine.TheVariants.{Event, Steps, Look, Home, Audit}

-- ---- numbers
-- the first field, which has to be a number, and what `rest` makes of it and the fields after it
abbrev pub next_number : {A : Type 0} → List (List ℕ) → (ℕ → List (List ℕ) → Option A) → Option A
next_number [] rest = None
next_number (field ∷ more) rest = option_and_then (λ n. rest n more) (number_of field)

-- this, where no field is left
abbrev pub ended : {A : Type 0} → A → List (List ℕ) → Option A
ended x [] = Some x
ended x (field ∷ more) = None

-- exactly one, two or three numbers
abbrev pub one_number : List (List ℕ) → Option ℕ
one_number fields = next_number fields ended

abbrev pub two_numbers : List (List ℕ) → Option (ℕ × ℕ)
two_numbers fields = next_number fields (λ n more. option_map (λ m. (n, m)) (one_number more))

abbrev pub three_numbers : List (List ℕ) → Option (ℕ × ℕ × ℕ)
three_numbers fields =
    next_number fields (λ n more. option_map (λ m. (n, m.0, m.1)) (two_numbers more))

-- numbers, at most `room` of them
abbrev pub numbers_within : ℕ → List (List ℕ) → Option (List ℕ)
numbers_within room [] = Some []
numbers_within zero (field ∷ more) = None
numbers_within (suc room) (field ∷ more) =
    option_and_then (λ n. option_map (λ rest. n ∷ rest) (numbers_within room more))
    (number_of field)

-- ---- calls
-- a client, and a call line
abbrev pub submit_of : List (List ℕ) → Option TraceLine
submit_of fields =
    next_number fields (λ client more.
    option_map (λ call. Event (Submit client (Txn call))) (call_of_fields more))

-- the key that a word and a number are
abbrev pub key_of : List ℕ → ℕ → Option Key
key_of word n =
    if bytes_eq word (codes "id") then Some (Id n) else
    if bytes_eq word (codes "number") then Some (Number n) else
    None

-- the line by which a client asks for a call of any procedure
abbrev pub raw_line : ℕ → ℕ → Key → List ℕ → TraceLine
raw_line client procedure key arguments =
    Event (Submit client (Raw (record { procedure = procedure; arguments = arguments; key = key })))

-- a client, and a call of the procedure: the word of its key, the key's number, its arguments
abbrev pub raw_call_of : ℕ → ℕ → List (List ℕ) → Option TraceLine
raw_call_of client procedure [] = None
raw_call_of client procedure (word ∷ fields) = next_number fields (λ n more.
    option_and_then
    (λ key. option_map (raw_line client procedure key) (numbers_within MAX_ARGUMENTS more))
    (key_of word n))

abbrev pub raw_of : List (List ℕ) → Option TraceLine
raw_of fields = next_number fields (λ client more. next_number more (raw_call_of client))

-- ---- steps
-- as many of them as a call can make
abbrev pub steps_of : ℕ → ℕ → Option TraceLine
steps_of p count = if nat_le 1 count && nat_le count MAX_STEPS then Some (Steps p count) else None

abbrev pub steps_in : List (List ℕ) → Option TraceLine
steps_in fields = option_and_then (λ (n : ℕ × ℕ). steps_of n.0 n.1) (two_numbers fields)

-- ---- other events
-- one that exactly one, two or three numbers name
abbrev pub event_of_one : (ℕ → AnEvent) → List (List ℕ) → Option TraceLine
event_of_one event fields = option_map (λ n. Event (event n)) (one_number fields)

abbrev pub event_of_two : (ℕ → ℕ → AnEvent) → List (List ℕ) → Option TraceLine
event_of_two event fields = option_map (λ n. Event (event n.0 n.1)) (two_numbers fields)

abbrev pub event_of_three : (ℕ → ℕ → ℕ → AnEvent) → List (List ℕ) → Option TraceLine
event_of_three event fields = option_map (λ n. Event (event n.0 n.1 n.2)) (three_numbers fields)

-- ---- all lines
-- by the first word
abbrev pub line_of_fields : List (List ℕ) → Option TraceLine
line_of_fields [] = None
line_of_fields (word ∷ fields) =
    if bytes_eq word (codes "submit") then submit_of fields else
    if bytes_eq word (codes "raw") then raw_of fields else
    if bytes_eq word (codes "begin") then event_of_one Begin fields else
    if bytes_eq word (codes "deny") then event_of_one Deny fields else
    if bytes_eq word (codes "step") then event_of_one Step fields else
    if bytes_eq word (codes "one") then event_of_one One fields else
    if bytes_eq word (codes "steps") then steps_in fields else
    if bytes_eq word (codes "take") then event_of_two Take fields else
    if bytes_eq word (codes "give") then event_of_two Give fields else
    if bytes_eq word (codes "route") then event_of_two Route fields else
    if bytes_eq word (codes "checkpoint") then event_of_two Checkpoint fields else
    if bytes_eq word (codes "stop") then event_of_one Stop fields else
    if bytes_eq word (codes "resume") then event_of_one Resume fields else
    if bytes_eq word (codes "break") then event_of_three Break fields else
    if bytes_eq word (codes "clear") then event_of_three Clear fields else
    if bytes_eq word (codes "look") then option_map Look (one_number fields) else
    if bytes_eq word (codes "home") then option_map (λ n. Home n.0 n.1) (two_numbers fields) else
    if bytes_eq word (codes "audit") then ended Audit fields else
    None

-- the line that a text is
unfoldable pub line_of : List ℕ → Option TraceLine
line_of text = line_of_fields (fields_of text)
