-- Calls, their receipts, and the entries of the logs.
use Rattle.std.specs.Prelude.{◌≡◌, ℕ, ◌==◌, Bool, false, List, Option, Some, None}
use Rattle.tatp_calls.specs.declared.ask.Ask.{Ask}
use Rattle.tatp_calls.specs.declared.ask.Ask.TheVariants.{Txn, Raw}
use Rattle.tatp_calls.specs.declared.entry.Entry.{Entry}
use Rattle.tatp_calls.specs.Calls.{procedure_of}
use Rattle.tatp_logs.specs.declared.receipt.Receipt.{Receipt}
use Rattle.tatp_logs.specs.declared.receipt.Receipt.TheVariants.{Done, Refused}
use Rattle.tatp_settle.specs.Receipts.{IsOf}
use Rattle.tatp_settle.specs.Merging.{PlacedEntry}
use Rattle.tatp_settle.specs.Closings.{ClosedState, StandsAt}
use Rattle.tatp_settle.specs.Runs.{at_call}

-- whether the call is of this kind, counted in the order of the mix; a call of any procedure has
-- none
abbrev pub is_of_kind : ℕ → Ask → Bool
is_of_kind kind (Txn call) = procedure_of call == kind
is_of_kind kind (Raw raw) = false

-- at a place of a client's lists a call is beside its receipt, or neither is there
abbrev pub AreMatched : ℕ → ℕ → Option Ask → Option Receipt → Type 0
AreMatched client number None None = Unit {0}
AreMatched client number None (Some receipt) = ⊥
AreMatched client number (Some ask) None = ⊥
AreMatched client number (Some ask) (Some receipt) = IsOf client number receipt

-- the entry is that of this client's call
pub record IsEntryOf (of_client of_number : ℕ) (entry : Entry) : Type 0 where
  pub client : entry.client ≡ of_client
  pub number : entry.number ≡ of_number

-- an entry of the call, and where it is
pub record EntryFound (closed : ClosedState) (client number : ℕ) : Type 0 where
  pub extent : ℕ
  pub place : ℕ
  pub entry : Entry
  pub stands : StandsAt closed extent place entry
  pub own : IsEntryOf client number entry

-- the receipt of a completed call: what its entry says, and in which extent's log it is
abbrev pub receipt_of : PlacedEntry → Receipt
receipt_of p = Done p.entry.client p.entry.number p.entry.reply p.extent p.entry.stamp

-- the call is refused and is in no log; or the receipt equals an entry of its call, which
-- is in the log of the receipt's extent
abbrev pub IsAnswered : ClosedState → Ask → Receipt → Type 0
IsAnswered closed ask (Done client number reply extent stamp) =
    (place : ℕ)
    × StandsAt closed extent place
    (record { client = client; number = number; ask = ask; reply = reply; stamp = stamp })
IsAnswered closed ask (Refused client number) = EntryFound closed client number → ⊥

-- the entry has its receipt
abbrev pub HasReceipt : List (List Receipt) → PlacedEntry → Type 0
HasReceipt receipts p = at_call receipts p.entry.client p.entry.number ≡ Some (receipt_of p)

-- two entries of one call are in one place
abbrev pub EntriesStandOnce : ClosedState → Type 0
EntriesStandOnce closed =
    (client number : ℕ) (one other : EntryFound closed client number)
    → (one.extent ≡ other.extent) × (one.place ≡ other.place)
