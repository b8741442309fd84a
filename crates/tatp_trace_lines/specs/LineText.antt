-- The text of a line: docs/FORMATS.md.
use Rattle.std.specs.Prelude.{◌≡◌, ℕ, ◌≤◌, true, List, [], ◌∷◌, ◌++◌, length, codes, decimal}
use Rattle.tatp_limits.specs.declared.limits.TheConstants.{MAX_ARGUMENTS, MAX_STEPS}
use Rattle.tatp_numbers.specs.declared.key.Key.{Key}
use Rattle.tatp_numbers.specs.declared.key.Key.TheVariants.{Id, Number}
use Rattle.tatp_calls.specs.declared.ask.Ask.{Ask}
use Rattle.tatp_calls.specs.declared.ask.Ask.TheVariants.{Txn, Raw}
use Rattle.tatp_calls.specs.Calls.{arguments_of}
use Rattle.tatp_calls.specs.CallText.{call_text, is_printable_call}
use Rattle.tatp_events.specs.declared.event.Event.{Event as AnEvent}
use Rattle.tatp_events.specs.declared.event.Event.TheVariants.{Submit, Begin, Deny, Step, Take, Give, Route, Checkpoint, Stop, Resume, One, Break, Clear}
use Rattle.tatp_trace_lines.specs.declared.line.TraceLine.{TraceLine}
use Rattle.tatp_trace_lines.specs.declared.line.TraceLine.TheVariants.{Event, Steps, Look, Home, Audit}

-- a word and numbers, each after a space
abbrev pub numbers_text : List ℕ → List ℕ
numbers_text [] = []
numbers_text (n ∷ more) = 32 ∷ decimal n ++ numbers_text more

abbrev pub with_numbers : List ℕ → List ℕ → List ℕ
with_numbers word numbers = word ++ numbers_text numbers

-- the word of a key, and its number
abbrev pub key_word : Key → List ℕ
key_word (Id n) = codes "id"
key_word (Number n) = codes "number"

abbrev pub key_number : Key → ℕ
key_number (Id n) = n
key_number (Number n) = n

abbrev pub ask_text : ℕ → Ask → List ℕ
ask_text client (Txn call) = codes "submit " ++ (decimal client ++ 32 ∷ call_text call)
ask_text client (Raw call) =
    codes "raw " ++ (decimal client ++ 32 ∷ (decimal call.procedure ++ 32
    ∷ with_numbers (key_word call.key) (key_number call.key ∷ call.arguments)))

abbrev pub event_text : AnEvent → List ℕ
event_text (Submit client ask) = ask_text client ask
event_text (Begin p) = with_numbers (codes "begin") (p ∷ [])
event_text (Deny p) = with_numbers (codes "deny") (p ∷ [])
event_text (Step p) = with_numbers (codes "step") (p ∷ [])
event_text (Take p e) = with_numbers (codes "take") (p ∷ e ∷ [])
event_text (Give p e) = with_numbers (codes "give") (p ∷ e ∷ [])
event_text (Route e moves) = with_numbers (codes "route") (e ∷ moves ∷ [])
event_text (Checkpoint p e) = with_numbers (codes "checkpoint") (p ∷ e ∷ [])
event_text (Stop p) = with_numbers (codes "stop") (p ∷ [])
event_text (Resume p) = with_numbers (codes "resume") (p ∷ [])
event_text (One p) = with_numbers (codes "one") (p ∷ [])
event_text (Break p procedure pc) = with_numbers (codes "break") (p ∷ procedure ∷ pc ∷ [])
event_text (Clear p procedure pc) = with_numbers (codes "clear") (p ∷ procedure ∷ pc ∷ [])

-- the text of a line
abbrev pub line_text : TraceLine → List ℕ
line_text (Event event) = event_text event
line_text (Steps p count) = with_numbers (codes "steps") (p ∷ count ∷ [])
line_text (Look p) = with_numbers (codes "look") (p ∷ [])
line_text (Home p s_id) = with_numbers (codes "home") (p ∷ s_id ∷ [])
line_text Audit = codes "audit"

-- ---- which of them are read back
-- the numbers in it
abbrev pub ask_numbers : Ask → List ℕ
ask_numbers (Txn call) = arguments_of call
ask_numbers (Raw call) = call.procedure ∷ key_number call.key ∷ call.arguments

abbrev pub event_numbers : AnEvent → List ℕ
event_numbers (Submit client ask) = client ∷ ask_numbers ask
event_numbers (Begin p) = p ∷ []
event_numbers (Deny p) = p ∷ []
event_numbers (Step p) = p ∷ []
event_numbers (Take p e) = p ∷ e ∷ []
event_numbers (Give p e) = p ∷ e ∷ []
event_numbers (Route e moves) = e ∷ moves ∷ []
event_numbers (Checkpoint p e) = p ∷ e ∷ []
event_numbers (Stop p) = p ∷ []
event_numbers (Resume p) = p ∷ []
event_numbers (One p) = p ∷ []
event_numbers (Break p procedure pc) = p ∷ procedure ∷ pc ∷ []
event_numbers (Clear p procedure pc) = p ∷ procedure ∷ pc ∷ []

abbrev pub line_numbers : TraceLine → List ℕ
line_numbers (Event event) = event_numbers event
line_numbers (Steps p count) = p ∷ count ∷ []
line_numbers (Look p) = p ∷ []
line_numbers (Home p s_id) = p ∷ s_id ∷ []
line_numbers Audit = []

-- a call's 15-digit numbers are in their domains, or it has no more arguments than a call can
abbrev pub HasAskForm : Ask → Type 0
HasAskForm (Txn call) = is_printable_call call ≡ true
HasAskForm (Raw call) = length call.arguments ≤ MAX_ARGUMENTS

abbrev pub HasEventForm : AnEvent → Type 0
HasEventForm (Submit client ask) = HasAskForm ask
HasEventForm event = Unit {0}

-- its calls have that form, and steps are as many as a call can make
abbrev pub HasForm : TraceLine → Type 0
HasForm (Event event) = HasEventForm event
HasForm (Steps p count) = (1 ≤ count) × (count ≤ MAX_STEPS)
HasForm line = Unit {0}
