-- Receipts, as contracts see them.
use Rattle.std.specs.Prelude.{◌≡◌, ℕ, List, map, refl}
use Rattle.std.specs.Coded.{Coded, code_by, coded×, coded_ℕ, coded_list}
use Rattle.tatp_calls.specs.Replies.{reply_seen}
use Rattle.tatp_logs.specs.declared.receipt.Receipt.{Receipt}
use Rattle.tatp_logs.specs.declared.receipt.Receipt.TheVariants.{Done, Refused}
use Rattle.tatp_logs.specs.contracts.receipt.Receipt as receipt
use Rattle.tatp_logs.specs.declared.receipt.ReceiptRef.{ReceiptRef}
use Rattle.tatp_logs.specs.declared.receipt.ReceiptRef.TheVariants as seen

-- what contracts see of a client's receipts: those, and for how many more memory is reserved
pub record ReceiptsState : Type 0 where
  pub receipts : List Receipt
  pub room : ℕ

abbrev pub receipts_state_code : Coded ReceiptsState
receipts_state_code =
    code_by (List Receipt × ℕ)
    (coded× (coded_list receipt.the_row.coded) coded_ℕ)
    (λ x. (x.receipts, x.room))
    (λ p. record { receipts = p.0; room = p.1 })
    (λ _. refl)

-- the receipt whose outputs are elsewhere
abbrev pub receipt_seen : ReceiptRef → Receipt
receipt_seen (seen.Done client number reply extent stamp) =
    Done client number (reply_seen reply) extent stamp
receipt_seen (seen.Refused client number) = Refused client number

-- the receipts of all clients, client by client
abbrev pub receipts_of : List ReceiptsState → List (List Receipt)
receipts_of clients = map (λ (client : ReceiptsState). client.receipts) clients
