-- The state of a client in its conversation.
use Rattle.std.specs.Prelude.{◌≡◌, ℕ, List, [], ◌++◌, length, Option, Some, None, slice_get, true, ◌≤◌, ◌+◌, Vec}
use Rattle.std.specs.declared.alloc.Global.{Global}
use Rattle.tatp_calls.specs.declared.ask.Ask.{Ask}
use Rattle.tatp_numbers.specs.Listing.{Listing}
use Rattle.tatp_logs.specs.declared.receipt.Receipt.{Receipt}
use Rattle.tatp_workers.specs.Growing.{Grows}
use Rattle.tatp_workers.specs.Asking.{Session, Conversation, Answered, Converses, item_of, with_asked}
use Rattle.tatp_workers.specs.declared.requester.AskEffect.{AskEffect}
use Rattle.tatp_workers.specs.declared.client.Client.{Client}
use Rattle.tatp_workers.specs.declared.client.ClientState.{ClientState}
use Rattle.tatp_workers.specs.declared.client.ClientState.TheVariants.{Free, Waiting, Ended}

abbrev pub calls_in : Option (Vec Ask Global) → List Ask
calls_in None = []
calls_in (Some list) = list.items

-- the calls of a client: those of the list at its number, or none where there is no such list
abbrev pub asks_of : List (Vec Ask Global) → ℕ → List Ask
asks_of lists client = calls_in (slice_get lists client)

-- what was asked and the outcomes, by the client's state: each call that was asked got its receipt;
-- so did all but the last, for which it waits; or the conversation has ended
abbrev pub HasSaid : ClientState → Listing → ℕ → List Ask → Session → Conversation → Type 0
HasSaid Free listing client asks s c = Answered listing client asks s.number c s.seen
HasSaid Waiting listing client asks s c =
    (before : Conversation) × (ask : Ask)
    × Answered listing client asks s.number before s.seen
    × (slice_get asks s.number ≡ Some ask)
    × (c ≡ with_asked before (item_of listing client s ask) true)
HasSaid Ended listing client asks s c = Converses listing client asks c

-- what was known of what was done for a client, and its receipts, when its conversation began
pub record Beginning : Type 0 where
  pub effects : Option (List AskEffect)
  pub receipts : List Receipt

module _ {E : Type 0} where
  abbrev pub session_of : Client E → Session
  session_of client = record { number = client.answered; seen = client.seen }

  -- a client has asked nothing yet, and has capacity for a receipt of each of these calls
  pub record IsReady (asks : List Ask) (client : Client E) : Type 0 where
    pub answered : client.answered ≡ 0
    pub seen : client.seen ≡ 0
    pub state : client.state ≡ Free
    pub room : length asks ≤ client.receipts.room

  module _ (effects : E → Option (List AskEffect)) (listing : Listing) where
    -- a client of these calls is somewhere in its conversation, which began with `start`
    pub record Stands (asks : List Ask) (start : Beginning) (client : Client E) : Type 0 where
      pub said : Conversation
      pub so_far : HasSaid client.state listing client.number asks (session_of client) said
      pub done : Grows start.effects (effects client.end) said.effects
      pub kept : client.receipts.receipts ≡ start.receipts ++ said.receipts
      pub room : length asks ≤ client.receipts.room + client.answered

    -- a client continues: it is in each conversation, by its beginning, in which it was before
    pub record GoesOn (lists : List (Vec Ask Global)) (before after : Client E) : Type 0 where
      pub number : after.number ≡ before.number
      pub stands : (start : Beginning)
          → Stands (asks_of lists before.number) start before
          → Stands (asks_of lists before.number) start after

    -- a client's conversation, from before its first call to the end
    abbrev pub HasConversed : List Ask → Client E → Client E → Type 0
    HasConversed asks before after =
        (conversation : Conversation)
        × Converses listing before.number asks conversation
        × Grows (effects before.end) (effects after.end) conversation.effects
        × (after.receipts.receipts ≡ before.receipts.receipts ++ conversation.receipts)

    -- a client that was ready has asked the calls of its list
    pub record IsAsked (lists : List (Vec Ask Global)) (before after : Client E) : Type 0 where
      pub number : after.number ≡ before.number
      pub conversed : IsReady (asks_of lists before.number) before
          → HasConversed (asks_of lists before.number) before after
