-- trusted: read it
-- The replies with which a call could have been answered.
use Rattle.std.specs.Prelude.{◌≡◌, ◌↔◌, ℕ, List, length}
use Rattle.tatp_tables.specs.Database.{Database, of_subscriber}
use Rattle.tatp_calls.specs.declared.call.Call.{Call}
use Rattle.tatp_calls.specs.declared.reply.Reply.{Reply}
use Rattle.tatp_history.specs.declared.line.Line.{Line}
use Rattle.tatp_history.specs.declared.observed.Observed.{Observed}
use Rattle.tatp_history.specs.Histories.{IsIn, IsStrictlySerializable}
use Rattle.tatp_history.specs.HistoryLines.{calls_of}
use Rattle.tatp_history.specs.Locality.{calls_on}
use Rattle.tatp_history.specs.Events.{IsAnsweredAt}
use Rattle.tatp_linearization.specs.Legal.{with_call}
use Rattle.tatp_linearization.specs.Listed.{IsListed, AreEachOnce}
use Rattle.tatp_linearization.specs.Single.{answered_with}

-- the last line answers this call, which is on the subscriber
pub record IsAnsweredLast (u : Database) (s : ℕ) (lines : List Line) (x : Observed)
    : Type 0 where
  pub there : IsIn x (calls_on u s (calls_of lines))
  pub answered : IsAnsweredAt (length lines) x.outcome

-- with this reply in the place of the one that the call got in the last line, the calls on the
-- subscriber are strictly serializable
abbrev pub IsLegalReply : Database → ℕ → List Line → Observed → Reply → Type 0
IsLegalReply u s lines x reply = IsStrictlySerializable (of_subscriber u s)
    (with_call (answered_with x (length lines) reply) (calls_on u s (calls_of lines)))

-- the last line answers a call that asks this on the subscriber, and these are its legal replies,
-- each once
pub record AreLegalReplies (u : Database) (s : ℕ) (lines : List Line) (call : Call)
    (replies : List Reply) : Type 0 where
  pub x : Observed
  pub last : IsAnsweredLast u s lines x
  pub call_is : x.call ≡ call
  pub exact : (reply : Reply) → IsListed reply replies ↔ IsLegalReply u s lines x reply
  pub once : AreEachOnce replies
