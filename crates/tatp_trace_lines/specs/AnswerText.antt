-- The line of what is answered to an event: docs/FORMATS.md.
use Rattle.std.specs.Prelude.{ℕ, List, ◌∷◌, ◌++◌, Ok, Err, codes, decimal}
use Rattle.tatp_calls.specs.ReplyText.{reply_text}
use Rattle.tatp_events.specs.declared.event.Answer.{Answer}
use Rattle.tatp_events.specs.declared.event.Answer.TheVariants.{Queued, Began, Away, Denied, Moved, Ended, Parcel, Landed, Set, Superseded, Chapter, Done}
use Rattle.tatp_events.specs.declared.refusal.Refusal.{Refusal}
use Rattle.tatp_events.specs.Answers.{Answered}
use Rattle.tatp_events.specs.RefusalText.{refusal_text}

-- ---- refusals
-- the word, and the refusal's text
abbrev pub refused_text : Refusal → List ℕ
refused_text refusal = codes "REFUSED " ++ refusal_text refusal

-- of a text that is no line of `trace`
abbrev pub bad_line_text : List ℕ
bad_line_text = codes "REFUSED 5 BadLine"

-- ---- answers
-- the reply of a call that has ended is the line of a reply to what it asked
abbrev pub answer_text : Answer → List ℕ
answer_text (Queued p) = codes "QUEUED " ++ decimal p
answer_text (Began client) = codes "BEGAN " ++ decimal client
answer_text (Away p) = codes "AWAY " ++ decimal p
answer_text (Denied client) = codes "DENIED " ++ decimal client
answer_text Moved = codes "MOVED"
answer_text (Ended client ask reply) =
    codes "ENDED " ++ (decimal client ++ 32 ∷ reply_text ask reply)
answer_text (Parcel e moves) = codes "PARCEL " ++ (decimal e ++ 32 ∷ decimal moves)
answer_text (Landed e moves) = codes "LANDED " ++ (decimal e ++ 32 ∷ decimal moves)
answer_text (Set e p) = codes "SET " ++ (decimal e ++ 32 ∷ decimal p)
answer_text (Superseded e) = codes "SUPERSEDED " ++ decimal e
answer_text (Chapter e index entries) =
    codes "CHAPTER " ++ (decimal e ++ 32 ∷ (decimal index ++ 32 ∷ decimal entries))
answer_text Done = codes "OK"

-- of an event that was answered so
abbrev pub answered_text : Answered → List ℕ
answered_text (Ok answer) = answer_text answer
answered_text (Err refusal) = refused_text refusal
