-- Replies as they are kept: their outputs are in one list.
use Rattle.std.specs.Prelude.{ℕ, ◌+◌, ◌/◌, ◌≤◌, List, length, min, slice_range}
use Rattle.tatp_limits.specs.declared.limits.TheConstants.{MAX_OUTPUTS}
use Rattle.tatp_calls.specs.declared.reply.Reply.{Reply}
use Rattle.tatp_calls.specs.declared.reply.Reply.TheVariants as reply
use Rattle.tatp_logs.specs.declared.kept_reply.KeptReply.{KeptReply}
use Rattle.tatp_logs.specs.declared.kept_reply.KeptReply.TheVariants.{Values, Failed, Trapped, Refused}

-- the outputs of the reply are in this list
abbrev pub StandsIn : List ℕ → KeptReply → Type 0
StandsIn outputs (Values count first) = (first + count ≤ length outputs) × (count ≤ MAX_OUTPUTS)
StandsIn outputs (Failed n) = Unit {0}
StandsIn outputs (Trapped trap) = Unit {0}
StandsIn outputs Refused = Unit {0}

-- the reply whose outputs are in this list
abbrev pub reply_in : List ℕ → KeptReply → Reply
reply_in outputs (Values count first) = reply.Values (slice_range outputs first (first + count))
reply_in outputs (Failed n) = reply.Failed n
reply_in outputs (Trapped trap) = reply.Trapped trap
reply_in outputs Refused = reply.Refused

-- how many more replies fit, where memory for these numbers of calls and of outputs is
-- reserved
abbrev pub room_in : ℕ → ℕ → ℕ
room_in calls outputs = min calls (outputs / MAX_OUTPUTS)
