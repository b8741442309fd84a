-- An inbox, by its ends: those that put messages, and the one that takes them.
use Rattle.std.specs.Prelude.{◌≡◌, ℕ, List, [], ◌∷◌, ◌++◌, All, Option, Some, None, Result, Ok, Err}
use Rattle.crossbeam_channel.specs.Claims.{Pass, view}

-- each message in the inbox is allowed; nothing is asked of what its ends have put and taken
abbrev pub IsRuled : {M : Type 0} → (M → Type 0) → List M → List (List M) → Type 0
IsRuled allows messages histories = All allows messages

-- which inbox it is, by a name that no other channel has, and how many messages it can hold
pub record Inbox : Type 0 where
  pub name : ℕ
  pub room : ℕ

-- one end of an inbox, and the messages that it has put, or taken, oldest first
pub record End (M : Type 0) : Type 0 where
  pub inbox : Inbox
  pub history : List M

module _ {M : Type 0} where
  -- the end that has this pass, of an inbox that can hold this many messages
  abbrev pub end_by : Pass M (List M) → ℕ → End M
  end_by pass room = record {
    inbox = record { name = pass.table_id.views_name; room = room };
    history = view pass;
  }

  -- an end by which nothing was put or taken yet, of an inbox for this number of messages
  abbrev pub IsNew : ℕ → End M → Type 0
  IsNew room e = (e.inbox.room ≡ room) × (e.history ≡ [])

  -- another end of the same inbox, by which nothing was put or taken yet
  abbrev pub end_beside : End M → End M
  end_beside e = record e { history = [] }

  -- one more message was put, or taken, by the end
  abbrev pub with_message : End M → M → End M
  with_message e message = record e { history = e.history ++ message ∷ [] }

  -- a message is put at the back of the inbox; or it comes back, and none was put
  abbrev pub Puts : End M → M → Result (Unit {0}) M → End M → Type 0
  Puts e message (Ok done) e' = e' ≡ with_message e message
  Puts e message (Err back) e' = (back ≡ message) × (e' ≡ e)

  -- the message at the front was taken, or none was
  abbrev pub Takes : End M → Option M → End M → Type 0
  Takes e (Some message) e' = e' ≡ with_message e message
  Takes e None e' = e' ≡ e
