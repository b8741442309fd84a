-- Replies whose outputs stand in a list are the same where it is longer.
use Rattle.std.proofs.Common.{◌≡◌, ℕ, List, ◌++◌, refl, ap}
use Rattle.tatp_calls.specs.declared.reply.Reply.TheVariants as reply
use Rattle.tatp_logs.specs.declared.kept_reply.KeptReply.{KeptReply}
use Rattle.tatp_logs.specs.declared.kept_reply.KeptReply.TheVariants.{Values, Failed, Trapped, Refused}
use Rattle.tatp_logs.specs.KeptReplies.{StandsIn, reply_in}
use Rattle.tatp_logs.proofs.PartLaws.{part_of_more}

pub same_reply : (outputs more : List ℕ) (r : KeptReply) → StandsIn outputs r → reply_in (outputs ++ more) r ≡ reply_in outputs r
same_reply outputs more (Values count first) h = ap (λ (xs : List ℕ). reply.Values xs) (part_of_more outputs more first count h.0)
same_reply outputs more (Failed n) h = refl
same_reply outputs more (Trapped trap) h = refl
same_reply outputs more Refused h = refl
