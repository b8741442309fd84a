-- The rows that calls result in, as the search holds them.
use Rattle.std.specs.Prelude.{◌≡◌, List, [], Ok}
use Rattle.std.specs.List.{AllByRecursion}
use Rattle.tatp_calls.specs.declared.call.Call.{Call}
use Rattle.tatp_calls.specs.Arguments.{arguments_accepted}
use Rattle.tatp_calls.specs.Transactions.{transaction}
use Rattle.tatp_history.specs.Configurations.{Configuration}
use Rattle.tatp_linearization.specs.declared.configuration.Configuration.{Configuration as Held}
use Rattle.tatp_linearization.specs.Held.{Has, HoldsOfOne}
use Rattle.tatp_linearization.specs.Legal.{IsAmong, MayLeave}

abbrev pub AreAcceptedCalls : List Call → Type 0
AreAcceptedCalls calls = AllByRecursion (λ call. arguments_accepted call ≡ Ok tt) calls

-- the configuration's rows, with no call open
abbrev pub without_calls : Configuration → Configuration
without_calls c = record { rows = c.rows; opened = [] }

-- the rows after the call runs on the configuration's rows, with no call open
abbrev pub left_by : Call → Configuration → Configuration
left_by call c = record { rows = (transaction call c.rows).database; opened = [] }

-- the calls may turn one of the first into each of these
abbrev pub AreFrom : List Call → List Held → List Held → Type 0
AreFrom calls first cs = (d : Configuration) → Has cs d → HoldsOfOne (MayLeave calls) first d

-- what each of the calls makes of each of these is one of these
abbrev pub AreClosed : List Call → List Held → Type 0
AreClosed calls cs = (d : Configuration) → Has cs d → (call : Call) → IsAmong call calls
    → Has cs (left_by call d)
