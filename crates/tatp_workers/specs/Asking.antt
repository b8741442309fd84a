-- What a client asks, and what it gets.
use Rattle.std.specs.Prelude.{◌≡◌, ◌⊎◌, ℕ, zero, suc, List, [], ◌∷◌, ◌++◌, length, Option, Some, None, slice_get, Bool, true, false, ◌≤◌, ◌+◌}
use Rattle.tatp_calls.specs.declared.ask.Ask.{Ask}
use Rattle.tatp_numbers.specs.Listing.{Listing, answer}
use Rattle.tatp_partition.specs.declared.item.Item.{Item}
use Rattle.tatp_calls.specs.Asked.{key_asked}
use Rattle.tatp_logs.specs.declared.receipt.Receipt.{Receipt}
use Rattle.tatp_logs.specs.declared.receipt.Receipt.TheVariants.{Done, Refused}
use Rattle.tatp_logs.specs.Receipts.{ReceiptsState}
use Rattle.tatp_workers.specs.declared.requester.AskEffect.{AskEffect}
use Rattle.tatp_workers.specs.declared.requester.AskEffect.TheVariants.{Asks, Gets}
use Rattle.tatp_workers.specs.declared.requester.Looked.{Looked}
use Rattle.tatp_workers.specs.declared.requester.Looked.TheVariants as looked
use Rattle.tatp_workers.specs.declared.delivery.Delivery.{Delivery}
use Rattle.tatp_workers.specs.declared.delivery.Delivery.TheVariants.{Got, Dropped}

-- how many calls of a client were asked, and the last stamp that it has seen
pub record Session : Type 0 where
  pub number : ℕ
  pub seen : ℕ

-- a client's next call, with the home that its key names
abbrev pub item_of : Listing → ℕ → Session → Ask → Item
item_of listing client session ask = record {
  client = client;
  number = session.number;
  seen = session.seen;
  ask = ask;
  home = answer listing (key_asked ask);
}

-- the last stamp that a client has seen, after one more receipt
abbrev pub seen_after : ℕ → Receipt → ℕ
seen_after seen (Done client number reply extent stamp) = stamp
seen_after seen (Refused client number) = seen

-- the receipt that a client is handed, if it is handed one
abbrev pub receipt_delivered : Delivery → Option Receipt
receipt_delivered (Got receipt) = Some receipt
receipt_delivered Dropped = None

-- a look found nothing yet, and changed nothing; or the receipt came, and is appended to the
-- others; or it is known that the call was dropped
abbrev pub Finds : Looked → ReceiptsState → ReceiptsState → List AskEffect → Type 0
Finds looked.NotYet before after effects = (effects ≡ []) × (after ≡ before)
Finds looked.Received before after effects =
    (receipt : Receipt)
    × (effects ≡ Gets (Some receipt) ∷ [])
    × (after.receipts ≡ before.receipts ++ receipt ∷ [])
    × (before.room ≤ after.room + 1)
Finds looked.Dropped before after effects = (effects ≡ Gets None ∷ []) × (after ≡ before)

-- what was done for a client, and the receipts that it keeps
pub record Conversation : Type 0 where
  pub effects : List AskEffect
  pub receipts : List Receipt

-- one more call was asked, and whether an inbox took it
abbrev pub with_asked : Conversation → Item → Bool → Conversation
with_asked c item is_taken = record c { effects = c.effects ++ Asks item is_taken ∷ [] }

-- its receipt came
abbrev pub with_receipt : Conversation → Receipt → Conversation
with_receipt c receipt = record {
  effects = c.effects ++ Gets (Some receipt) ∷ [];
  receipts = c.receipts ++ receipt ∷ [];
}

-- it was dropped
abbrev pub with_nothing : Conversation → Conversation
with_nothing c = record c { effects = c.effects ++ Gets None ∷ [] }

-- one more call came to nothing: no inbox took it, or it was dropped
abbrev pub ComesToNothing : Item → Conversation → Conversation → Type 0
ComesToNothing item before c =
    (c ≡ with_asked before item false) ⊎ (c ≡ with_nothing (with_asked before item true))

-- the first n calls were asked one after another, and each got a receipt; `seen` is the last stamp
-- that was seen then
abbrev pub Answered : Listing → ℕ → List Ask → ℕ → Conversation → ℕ → Type 0
Answered listing client asks zero c seen =
    (c ≡ record { effects = []; receipts = [] }) × (seen ≡ 0)
Answered listing client asks (suc n) c seen =
    (before : Conversation) × (seen_before : ℕ) × (ask : Ask) × (receipt : Receipt)
    × Answered listing client asks n before seen_before
    × (slice_get asks n ≡ Some ask)
    × (c ≡ with_receipt
    (with_asked before
    (item_of listing client (record { number = n; seen = seen_before }) ask) true) receipt)
    × (seen ≡ seen_after seen_before receipt)

-- all calls were asked one after another, and got their receipts; or the first few did, and the
-- next came to nothing
pub record Converses (listing : Listing) (client : ℕ) (asks : List Ask) (c : Conversation)
    : Type 0 where
  pub answered : ℕ
  pub before : Conversation
  pub seen : ℕ
  pub first : Answered listing client asks answered before seen
  pub rest : ((answered ≡ length asks) × (c ≡ before))
      ⊎ ((ask : Ask) × (slice_get asks answered ≡ Some ask)
      × ComesToNothing
      (item_of listing client (record { number = answered; seen = seen }) ask) before c)
