-- The log of the calls without a home. It counts as extent 0, which has no homes.
use Rattle.std.specs.Prelude.{◌≡◌, ℕ, Bool, false, Ok, List, All, refl}
use Rattle.std.specs.Coded.{Coded, code_by, coded×, coded_ℕ, coded_bool, coded_list}
use Rattle.tatp_calls.specs.contracts.entry.Entry as entry
use Rattle.tatp_tables.specs.Database.{no_tables}
use Rattle.tatp_calls.specs.declared.ask.Ask.TheVariants.{Txn}
use Rattle.tatp_calls.specs.declared.call.Call.{Call}
use Rattle.tatp_calls.specs.declared.entry.Entry.{Entry}
use Rattle.tatp_calls.specs.Arguments.{arguments_accepted}
use Rattle.tatp_calls.specs.Transactions.{transaction}
use Rattle.tatp_extents.specs.Histories.{StampsRise}
use Rattle.tatp_logs.specs.Logs.{last_stamp_from}

-- what contracts see of it: whether it is mixed, how many chapters it handed out, the last stamp at
-- the last checkpoint, its entries since then, and for how many more there is capacity
pub record HomelessState : Type 0 where
  pub mixed : Bool
  pub chapters : ℕ
  pub kept_stamp : ℕ
  pub log : List Entry
  pub room : ℕ

abbrev pub homeless_state_code : Coded HomelessState
homeless_state_code =
    let entries = coded_list entry.the_row.coded in
    code_by (Bool × (ℕ × (ℕ × (List Entry × ℕ))))
    (coded× coded_bool (coded× coded_ℕ (coded× coded_ℕ (coded× entries coded_ℕ))))
    (λ h. (h.mixed, (h.chapters, (h.kept_stamp, (h.log, h.room)))))
    (λ p. record {
      mixed = p.0;
      chapters = p.1.0;
      kept_stamp = p.1.1.0;
      log = p.1.1.1.0;
      room = p.1.1.1.1;
    })
    (λ _. refl)

-- the last stamp that was ever logged, 0 before the first
abbrev pub last_homeless_stamp : HomelessState → ℕ
last_homeless_stamp h = last_stamp_from h.kept_stamp h.log

-- the entry is that of a transaction on a database without rows
pub record RecordsHomeless (entry : Entry) : Type 0 where
  pub call : Call
  pub asked : entry.ask ≡ Txn call
  pub accepted : arguments_accepted call ≡ Ok tt
  pub reply : entry.reply ≡ (transaction call no_tables).reply

-- entries of transactions without rows, whose stamps rise from the kept one
pub record IsHomelessHistory (kept_stamp : ℕ) (log : List Entry) : Type 0 where
  pub entries : All RecordsHomeless log
  pub rise : StampsRise kept_stamp log

-- what holds of every log of calls without a home
abbrev pub IsHomeless : Bool → ℕ → List Entry → Type 0
IsHomeless mixed kept_stamp log = mixed ≡ false → IsHomelessHistory kept_stamp log
