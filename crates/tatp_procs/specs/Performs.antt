-- A standard procedure against its transaction: what a call that ran alone is answered.
use Rattle.std.specs.Prelude.{◌≡◌}
use Rattle.tatp_tables.specs.Database.{Database}
use Rattle.tatp_encoding.specs.Modules.{ModuleState}
use Rattle.tatp_machine.specs.Runs.{Outcome, Alone}
use Rattle.tatp_numbers.specs.Homes.{home_of_key}
use Rattle.tatp_calls.specs.declared.call.Call.{Call}
use Rattle.tatp_calls.specs.Replies.{reply_to}
use Rattle.tatp_calls.specs.Calls.{procedure_of, key_of_call, arguments_of}
use Rattle.tatp_calls.specs.Transactions.{Answer, transaction}

abbrev pub answer_of : Outcome → Answer
answer_of o = record { reply = reply_to o.end o.outputs; database = o.database }

-- the call, run alone by this module on the database, with the home that its key names there, has
-- this outcome
abbrev pub CallAlone : ModuleState → Call → Database → Outcome → Type 0
CallAlone modul call u o =
    Alone modul (procedure_of call) (arguments_of call)
    (home_of_key u.subscribers (key_of_call call)) u o

-- run alone on the database, the call has an outcome, and it is the reply and the database of its
-- transaction
pub record Performs (modul : ModuleState) (call : Call) (u : Database) : Type 0 where
  pub some : (o : Outcome) × CallAlone modul call u o
  pub each : (o : Outcome) → CallAlone modul call u o → answer_of o ≡ transaction call u
