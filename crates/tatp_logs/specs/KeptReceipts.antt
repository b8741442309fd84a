-- Receipts, as they are kept: their outputs are in one list.
use Rattle.std.specs.Prelude.{ℕ, ◌-◌, List, All, map, vec_len, Vec}
use Rattle.std.specs.Vec.{vec_capacity}
use Rattle.std.specs.declared.alloc.Global.{Global}
use Rattle.tatp_logs.specs.KeptReplies.{StandsIn, reply_in, room_in}
use Rattle.tatp_logs.specs.declared.receipt.Receipt.{Receipt}
use Rattle.tatp_logs.specs.declared.receipt.Receipt.TheVariants as receipt
use Rattle.tatp_logs.specs.declared.receipts.KeptReceipt.{KeptReceipt}
use Rattle.tatp_logs.specs.declared.receipts.KeptReceipt.TheVariants.{Done, Refused}
use Rattle.tatp_logs.specs.Receipts.{ReceiptsState}

-- the outputs of the receipt are in this list
abbrev pub StandsWith : List ℕ → KeptReceipt → Type 0
StandsWith outputs (Done extent client number reply stamp) = StandsIn outputs reply
StandsWith outputs (Refused client number) = Unit {0}

abbrev pub AllStand : List ℕ → List KeptReceipt → Type 0
AllStand outputs kept = All (StandsWith outputs) kept

-- the receipt whose outputs are in this list
abbrev pub receipt_in : List ℕ → KeptReceipt → Receipt
receipt_in outputs (Done extent client number reply stamp) =
    receipt.Done client number (reply_in outputs reply) extent stamp
receipt_in outputs (Refused client number) = receipt.Refused client number

-- these receipts, whose outputs are in this list
abbrev pub receipts_of_kept : Vec KeptReceipt Global → Vec ℕ Global → ReceiptsState
receipts_of_kept kept outputs = record {
  receipts = map (receipt_in outputs.items) kept.items;
  room = room_in (vec_capacity kept - vec_len kept) (vec_capacity outputs - vec_len outputs);
}
