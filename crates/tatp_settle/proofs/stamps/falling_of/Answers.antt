use Rattle.std.proofs.Common.{Some, arith, sym, ◌∙◌, ap}
use Rattle.tatp_logs.specs.declared.receipt.ReceiptRef.{ReceiptRef}
use Rattle.tatp_logs.specs.Receipts.{receipt_seen}
use Rattle.tatp_settle.proofs.SearchLaws.{clear_step, clear_all}
use Rattle.tatp_settle.proofs.StampLaws.{last_done, last_refused, last_none, falls_none, falls_refused, falls_above, falls_here}
use Rattle.tatp_settle.proofs.stamps.falling_of.Goals as goal
use Rattle.tatp_settle.proofs.stamps.falling_of.Goals.{in-Some-Done+else-not-is_above, in-Some-Refused, in-None}

pub returns-then-not-is_above : goal.returns-then-not-is_above
returns-then-not-is_above c = (falls_here _ _ _ _ _ _ _ c.in-Some-Done.stamp c.calls.last c.calls.invariant.last (sym c.in-Some-Done.ensures ∙ ap (λ (r : ReceiptRef). Some (receipt_seen r)) c.in-Some-Done.field-0-is) (sym c.if-not-is_above.ensures), c.calls.invariant.clear.below)

pub calls-preserved : goal.calls-preserved
calls-preserved c = elim c.match-receipt_at.branch [
  | in-Some-Done+else-not-is_above w ↦ rw w.last-is (record {
    clear = clear_step _ _ c.calls.invariant.clear (falls_above _ _ _ _ _ _ _ w.in-Some-Done.stamp c.calls.last c.calls.invariant.last (sym w.in-Some-Done.ensures ∙ ap (λ (r : ReceiptRef). Some (receipt_seen r)) w.in-Some-Done.field-0-is) (sym w.if-not-is_above.ensures));
    last = last_done _ _ _ _ _ _ _ w.in-Some-Done.stamp c.calls.last c.calls.invariant.last (sym w.in-Some-Done.ensures ∙ ap (λ (r : ReceiptRef). Some (receipt_seen r)) w.in-Some-Done.field-0-is) (sym w.if-not-is_above.ensures);
  })
  | in-Some-Refused w ↦ rw w.last-is (record {
    clear = clear_step _ _ c.calls.invariant.clear (falls_refused _ _ _ _ _ (sym w.in-Some-Refused.ensures ∙ ap (λ (r : ReceiptRef). Some (receipt_seen r)) w.in-Some-Refused.field-0-is));
    last = last_refused _ _ _ _ _ _ c.calls.invariant.last (sym w.in-Some-Refused.ensures ∙ ap (λ (r : ReceiptRef). Some (receipt_seen r)) w.in-Some-Refused.field-0-is);
  })
  | in-None w ↦ rw w.last-is (record { clear = clear_step _ _ c.calls.invariant.clear (falls_none _ _ _ (sym w.in-None.ensures)); last = last_none _ _ _ _ c.calls.invariant.last (sym w.in-None.ensures) })
]

pub returns : goal.returns
returns c = clear_all _ c.calls.number c.calls.invariant.clear (λ n h. falls_none _ _ _ (c.receipts_len-number-end.ensures.beyond n (omega (arith, h))))
