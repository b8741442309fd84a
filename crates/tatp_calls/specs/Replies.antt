-- The reply to a call: by how it ended, and as it is seen elsewhere.
use Rattle.std.specs.Prelude.{ℕ, List}
use Rattle.tatp_instr.specs.declared.ending.End.{End}
use Rattle.tatp_instr.specs.declared.ending.End.TheVariants.{Done, Failed as WithFailure, Trapped as WithTrap}
use Rattle.tatp_calls.specs.declared.reply.Reply.{Reply}
use Rattle.tatp_calls.specs.declared.reply.Reply.TheVariants.{Values, Failed, Trapped, Refused}
use Rattle.tatp_calls.specs.declared.reply.ReplyRef.{ReplyRef}
use Rattle.tatp_calls.specs.declared.reply.ReplyRef.TheVariants as seen

-- the reply to a call that ended so, with these outputs
abbrev pub reply_to : End → List ℕ → Reply
reply_to Done outputs = Values outputs
reply_to (WithFailure n) outputs = Failed n
reply_to (WithTrap trap) outputs = Trapped trap

-- the reply whose outputs are elsewhere
abbrev pub reply_seen : ReplyRef → Reply
reply_seen (seen.Values outputs) = Values outputs.now
reply_seen (seen.Failed n) = Failed n
reply_seen (seen.Trapped trap) = Trapped trap
reply_seen seen.Refused = Refused
