-- The text of a line: docs/FORMATS.md.
use Rattle.std.specs.Prelude.{◌≡◌, ℕ, ◌<◌, ◌^◌, true, List, [], ◌∷◌, ◌++◌, Some, codes, decimal}
use Rattle.tatp_calls.specs.declared.call.Call.{Call}
use Rattle.tatp_calls.specs.declared.reply.Reply.{Reply}
use Rattle.tatp_calls.specs.declared.reply.Reply.TheVariants.{Values, Failed, Trapped, Refused}
use Rattle.tatp_calls.specs.Calls.{arguments_of}
use Rattle.tatp_calls.specs.CallText.{call_text, is_printable_call}
use Rattle.tatp_history.specs.declared.observed.Recorded.{Recorded}
use Rattle.tatp_history.specs.declared.observed.Recorded.TheVariants.{Exactly, Success, Failure}
use Rattle.tatp_history.specs.declared.line.Line.{Line}
use Rattle.tatp_history.specs.declared.line.Line.TheVariants.{Ask, End, Abort, Lost}
use Rattle.tatp_history_lines.specs.Recordings.{recorded_text, HasForm}
use Rattle.tatp_history_lines.specs.Open.{CallsOpen}

-- a client, and the line of a call whose numbers of fifteen digits are in their domains
pub record IsAskText (client : ℕ) (call : Call) (text : List ℕ) : Type 0 where
  pub short : client < 2 ^ 32
  pub printable : is_printable_call call ≡ true
  pub text_is : text ≡ codes "ask " ++ (decimal client ++ 32 ∷ call_text call)

-- a client that has a call open, and a reply of the call's form
pub record IsEndText (opened : CallsOpen) (client : ℕ) (recorded : Recorded) (text : List ℕ)
    : Type 0 where
  pub short : client < 2 ^ 32
  pub call : Call
  pub opened_is : opened client ≡ Some call
  pub form : HasForm call recorded
  pub text_is : text ≡ codes "end " ++ (decimal client ++ 32 ∷ recorded_text call recorded)

-- these words, and a client that has a call open
pub record IsEndedText (words : List ℕ) (opened : CallsOpen) (client : ℕ) (text : List ℕ)
    : Type 0 where
  pub short : client < 2 ^ 32
  pub call : Call
  pub opened_is : opened client ≡ Some call
  pub text_is : text ≡ words ++ decimal client

-- the text is that of the line, where clients have these calls open
abbrev pub IsTextOf : CallsOpen → Line → List ℕ → Type 0
IsTextOf opened (Ask client call) text = IsAskText client call text
IsTextOf opened (End client recorded) text = IsEndText opened client recorded text
IsTextOf opened (Abort client) text = IsEndedText (codes "abort ") opened client text
IsTextOf opened (Lost client) text = IsEndedText (codes "lost ") opened client text

-- ---- the numbers in it, but for the client
abbrev pub reply_numbers : Reply → List ℕ
reply_numbers (Values values) = values
reply_numbers (Failed n) = n ∷ []
reply_numbers (Trapped trap) = []
reply_numbers Refused = []

abbrev pub recorded_numbers : Recorded → List ℕ
recorded_numbers (Exactly reply) = reply_numbers reply
recorded_numbers Success = []
recorded_numbers Failure = []

abbrev pub line_numbers : Line → List ℕ
line_numbers (Ask client call) = arguments_of call
line_numbers (End client recorded) = recorded_numbers recorded
line_numbers (Abort client) = []
line_numbers (Lost client) = []
