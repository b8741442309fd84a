-- One more receipt is kept.
use Rattle.std.proofs.Common.{◌≡◌, ℕ, ◌+◌, ◌≤◌, List, ◌++◌, refl, ap, arith}
use Rattle.tatp_calls.specs.declared.reply.Reply.{Reply}
use Rattle.tatp_limits.specs.declared.limits.TheConstants.{MAX_OUTPUTS}
use Rattle.tatp_logs.specs.KeptReplies.{room_in}
use Rattle.tatp_logs.specs.declared.receipt.Receipt.TheVariants as receipt
use Rattle.tatp_logs.specs.declared.receipts.KeptReceipt.{KeptReceipt}
use Rattle.tatp_logs.specs.declared.receipts.KeptReceipt.TheVariants.{Done, Refused}
use Rattle.tatp_logs.specs.KeptReceipts.{StandsWith, receipt_in}
use Rattle.tatp_logs.proofs.KeptReplyLaws.{same_reply}

-- with more outputs behind its own, a receipt is the same
pub same_receipt : (outputs more : List ℕ) (x : KeptReceipt) → StandsWith outputs x → receipt_in (outputs ++ more) x ≡ receipt_in outputs x
same_receipt outputs more (Done extent client number reply stamp) h = ap (λ (r : Reply). receipt.Done client number r extent stamp) (same_reply outputs more reply h)
same_receipt outputs more (Refused client number) h = refl

-- and it takes room for one
pub room_taken : (calls outputs calls' outputs' : ℕ) → calls ≤ calls' + 1 → outputs ≤ outputs' + MAX_OUTPUTS → room_in calls outputs ≤ room_in calls' outputs' + 1
room_taken calls outputs calls' outputs' one some = omega (arith, one, some)
