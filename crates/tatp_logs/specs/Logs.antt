-- Logs, as contracts see them.
use Rattle.std.specs.Prelude.{◌≡◌, ℕ, ◌-◌, List, Option, Some, None, length, slice_get, refl}
use Rattle.std.specs.Option.{option_map_or}
use Rattle.std.specs.Coded.{Coded, code_by, coded×, coded_ℕ, coded_list}
use Rattle.tatp_calls.specs.declared.ask.Ask.{Ask}
use Rattle.tatp_calls.specs.declared.ask.Ask.TheVariants.{Txn}
use Rattle.tatp_calls.specs.declared.call.Call.{Call}
use Rattle.tatp_calls.specs.declared.entry.Entry.{Entry}
use Rattle.tatp_calls.specs.contracts.entry.Entry as entry
use Rattle.tatp_calls.specs.declared.reply.Reply.{Reply}

-- what contracts see of a log: the last stamp before it, its entries, and for how many more there
-- is capacity
pub record LogState : Type 0 where
  pub kept_stamp : ℕ
  pub entries : List Entry
  pub room : ℕ

abbrev pub log_state_code : Coded LogState
log_state_code =
    code_by (ℕ × (List Entry × ℕ))
    (coded× coded_ℕ (coded× (coded_list entry.the_row.coded) coded_ℕ))
    (λ x. (x.kept_stamp, (x.entries, x.room)))
    (λ p. record { kept_stamp = p.0; entries = p.1.0; room = p.1.1 })
    (λ _. refl)

-- the stamp of the last entry of a log, the kept one without an entry
abbrev pub last_stamp_from : ℕ → List Entry → ℕ
last_stamp_from kept_stamp log =
    option_map_or (λ (e : Entry). e.stamp) (slice_get log (length log - 1)) kept_stamp

-- the entry is of a transaction
abbrev pub AsksTransaction : Entry → Type 0
AsksTransaction entry = (call : Call) × (entry.ask ≡ Txn call)

-- there is an entry, and it has this ask, this reply and this stamp
abbrev pub HasSaid : Option Entry → Ask → Reply → ℕ → Type 0
HasSaid None ask reply stamp = ⊥
HasSaid (Some entry) ask reply stamp =
    (entry.stamp ≡ stamp) × (entry.ask ≡ ask) × (entry.reply ≡ reply)

-- the entry in this place is of this client's call with this number
pub record IsOfCall (entries : List Entry) (index client number : ℕ) : Type 0 where
  pub entry : Entry
  pub stands : slice_get entries index ≡ Some entry
  pub of_client : entry.client ≡ client
  pub of_number : entry.number ≡ number
