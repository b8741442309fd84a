-- What a client recorded of a reply: docs/FORMATS.md.
use Rattle.std.specs.Prelude.{◌≡◌, ℕ, ◌<◌, ◌≤◌, ◌^◌, true, if◌then◌else◌, List, [], ◌∷◌, length, Option, Some, None, codes, bytes_eq}
use Rattle.std.specs.Option.{option_map, option_and_then}
use Rattle.tatp_texts.specs.Text.{fields_of}
use Rattle.tatp_calls.specs.declared.call.Call.{Call}
use Rattle.tatp_calls.specs.declared.reply.Reply.{Reply}
use Rattle.tatp_calls.specs.declared.reply.Reply.TheVariants.{Values, Failed, Trapped, Refused}
use Rattle.tatp_calls.specs.declared.ask.Ask.TheVariants.{Txn}
use Rattle.tatp_calls.specs.ReplyText.{answer_columns, reply_text}
use Rattle.tatp_history.specs.declared.observed.Recorded.{Recorded}
use Rattle.tatp_history.specs.declared.observed.Recorded.TheVariants.{Exactly, Success, Failure}
use Rattle.tatp_history_lines.specs.Words.{short_number_of}
use Rattle.tatp_history_lines.specs.ReplyValues.{values_within, has_values}

-- ---- the reply that a text records
-- a success with these values, where the call's reply may have that number of them
abbrev pub with_values : Call → List ℕ → Option Reply
with_values call values = if has_values call (length values) then Some (Values values) else None

abbrev pub success_of : Call → List (List ℕ) → Option Reply
success_of call fields =
    option_and_then (with_values call) (values_within (answer_columns call) fields)

-- this, where no field is left
abbrev pub ended : Reply → List (List ℕ) → Option Reply
ended reply [] = Some reply
ended reply (field ∷ more) = None

-- the failure whose number the one field is
abbrev pub failure_of : List (List ℕ) → Option Reply
failure_of [] = None
failure_of (field ∷ more) = option_and_then (λ n. ended (Failed n) more) (short_number_of field)

abbrev pub reply_of_fields : Call → List (List ℕ) → Option Reply
reply_of_fields call [] = None
reply_of_fields call (word ∷ fields) =
    if bytes_eq word (codes "OK") then success_of call fields else
    if bytes_eq word (codes "FAILED") then failure_of fields else
    None

-- the reply to a call whose line a text is
unfoldable pub reply_of : Call → List ℕ → Option Reply
reply_of call text = reply_of_fields call (fields_of text)

-- what a text records of the reply to a call
abbrev pub recorded_of : Call → List ℕ → Option Recorded
recorded_of call text =
    if bytes_eq text (codes "OK ?") then Some Success else
    if bytes_eq text (codes "FAILED ?") then Some Failure else
    option_map Exactly (reply_of call text)

-- ---- the text of what is recorded
abbrev pub recorded_text : Call → Recorded → List ℕ
recorded_text call (Exactly reply) = reply_text (Txn call) reply
recorded_text call Success = codes "OK ?"
recorded_text call Failure = codes "FAILED ?"

-- the form of the call's replies: as many values as one may have, or a failure whose number is
-- below 2 ^ 32
abbrev pub HasReplyForm : Call → Reply → Type 0
HasReplyForm call (Values values) =
    (has_values call (length values) ≡ true) × (length values ≤ length (answer_columns call))
HasReplyForm call (Failed n) = n < 2 ^ 32
HasReplyForm call (Trapped trap) = ⊥
HasReplyForm call Refused = ⊥

abbrev pub HasForm : Call → Recorded → Type 0
HasForm call (Exactly reply) = HasReplyForm call reply
HasForm call Success = Unit {0}
HasForm call Failure = Unit {0}
