-- What answering a line of `call` makes of the database.
use Rattle.std.specs.Prelude.{◌≡◌, ℕ, Bool, List, [], ◌∷◌, ◌++◌, Result, Ok, Err}
use Rattle.tatp_tables.specs.Database.{Database}
use Rattle.tatp_calls.specs.declared.ask.Ask.TheVariants.{Txn}
use Rattle.tatp_calls.specs.declared.call.Call.{Call}
use Rattle.tatp_calls.specs.declared.reply.Reply.{Reply}
use Rattle.tatp_calls.specs.ReplyText.{reply_text}
use Rattle.tatp_procs.specs.Standard.{standard_module}
use Rattle.tatp_events.specs.declared.refusal.Refusal.{Refusal}
use Rattle.tatp_trace_lines.specs.AnswerText.{refused_text}
use Rattle.tatp_dispatch.specs.Calling.{MakesCall}
use Rattle.tatp_dispatch.specs.Resting.{IsAtRest}
use Rattle.tatp_dispatch.specs.Serving.{IsWorld}
use Rattle.tatp_dispatch.specs.Shown.{set_back}
use Rattle.tatp_dispatch.specs.Worlds.{WorldState}
use Rattle.tatp_console.specs.Answers.{Answering, Ending}
use Rattle.tatp_console.specs.RowsWritten.{rows_if_asked}
use Rattle.tatp_console.specs.Served.{call_in, line_answer}

-- ---- before a line
-- the system has the standard module and is at rest, with no more calls made than lines taken
pub record IsAtRestAfter (lines : ℕ) (w : WorldState) : Type 0 where
  pub standard : w.modul ≡ standard_module
  pub world : IsWorld w
  pub rest : IsAtRest lines w

-- ---- a line
-- the text of what became of a call
abbrev pub outcome_text : Call → Result Reply Refusal → List ℕ
outcome_text call (Ok reply) = reply_text (Txn call) reply
outcome_text call (Err refusal) = refused_text refusal

-- the call was made as client 0's, and the text of what became of it is after what was pending
pub record AnswersCall (w : WorldState) (call : Call) (pending pending' : List ℕ)
    (w' : WorldState) : Type 0 where
  pub outcome : Result Reply Refusal
  pub made : MakesCall w 0 (Txn call) outcome w'
  pub told : pending' ≡ pending ++ outcome_text call outcome

-- the line's reply is after what was pending, and the database is that after the line, which was
-- refused memory or not
pub record AnswersLine (line : List ℕ) (u : Database) (pending pending' : List ℕ) (u' : Database)
    : Type 0 where
  pub refused : Bool
  pub told : pending' ≡ pending ++ (line_answer refused (call_in line) u).text
  pub database : u' ≡ (line_answer refused (call_in line) u).database

-- the text is the line's reply and a line feed
pub record RepliesTo (line : List ℕ) (u : Database) (text : List ℕ) (u' : Database) : Type 0 where
  pub refused : Bool
  pub told : text ≡ (line_answer refused (call_in line) u).text ++ 10 ∷ []
  pub database : u' ≡ (line_answer refused (call_in line) u).database

-- where rows are asked for, they follow the replies
abbrev pub rows_after : Bool → Ending
rows_after rows n w = rows_if_asked rows n (set_back w)

-- the databases are those with each running call set back
abbrev pub answers_call : Answering
answers_call w line text w' = RepliesTo line (set_back w) text (set_back w')
