use Rattle.std.proofs.Common.{◌+◌, ◌-◌, ◌≤◌, sym, ◌∙◌, ap, subst, arith, vec_len, vec_capacity}
use Rattle.tatp_calls.specs.declared.reply.Reply.{Reply}
use Rattle.tatp_logs.specs.KeptReplies.{room_in}
use Rattle.tatp_logs.specs.declared.receipt.Receipt.TheVariants as receipt
use Rattle.tatp_logs.specs.declared.receipts.KeptReceipt.TheVariants.{Done}
use Rattle.tatp_logs.specs.Receipts.{ReceiptsState}
use Rattle.tatp_logs.specs.KeptReceipts.{StandsWith, receipt_in}
use Rattle.tatp_logs.proofs.KeptListLaws.{pushed}
use Rattle.tatp_logs.proofs.KeptReceiptLaws.{same_receipt, room_taken}
use Rattle.tatp_logs.proofs.receipts.Receipts.push.Goals as goal

pub returns-in-Done-clause-receipts : goal.returns-in-Done-clause-receipts
returns-in-Done-clause-receipts c =
    pushed StandsWith receipt_in same_receipt
    c.self.inside.outputs.items c.keep-reply.new.outputs.items c.self.inside.kept.items c.push_reserved.new.self.items c.args.self.now.receipts c.args.receipt.now
    (Done c.in-Done.extent c.in-Done.client c.in-Done.number c.keep-reply.result c.in-Done.stamp)
    c.self.invariant c.keep-reply.ensures.behind c.push_reserved.ensures.items (ap (λ (x : ReceiptsState). x.receipts) c.self.view_is)
    (ap (λ (r : Reply). receipt.Done c.in-Done.client c.in-Done.number r c.in-Done.extent c.in-Done.stamp) c.keep-reply.ensures.reply ∙ sym c.in-Done.is)

pub returns-in-Done-clause-room : goal.returns-in-Done-clause-room
returns-in-Done-clause-room c =
    let kept' = vec_capacity c.push_reserved.new.self - vec_len c.push_reserved.new.self in
    let outputs' = vec_capacity c.keep-reply.new.outputs - vec_len c.keep-reply.new.outputs in
    subst (λ n. n ≤ room_in kept' outputs' + 1) (ap (λ (x : ReceiptsState). x.room) c.self.view_is)
    (room_taken (vec_capacity c.self.inside.kept - vec_len c.self.inside.kept) (vec_capacity c.self.inside.outputs - vec_len c.self.inside.outputs) kept' outputs'
    (omega (arith, c.push_reserved.ensures.len, c.push_reserved.ensures.capacity))
    (omega (arith, c.keep-reply.ensures.len, c.keep-reply.ensures.capacity)))
