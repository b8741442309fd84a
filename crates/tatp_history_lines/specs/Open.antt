-- The calls that clients have open.
use Rattle.std.specs.Prelude.{ℕ, ◌==◌, nat_eq, if◌then◌else◌, Option, Some, None}
use Rattle.indexmap.specs.IndexMap.{get}
use Rattle.tatp_calls.specs.declared.call.Call.{Call}
use Rattle.tatp_history.specs.declared.line.Line.{Line}
use Rattle.tatp_history.specs.declared.line.Line.TheVariants.{Ask, End, Abort, Lost}
use Rattle.tatp_history_lines.specs.declared.open_calls.OpenCalls.{OpenCalls}

-- the open call of each client, if it has one
abbrev pub CallsOpen : Type 0
CallsOpen = ℕ → Option Call

-- the open calls that are kept
abbrev pub open_call : OpenCalls → CallsOpen
open_call opened client = get nat_eq opened.calls client

-- the same, except for one client
abbrev pub with_open : CallsOpen → ℕ → Option Call → CallsOpen
with_open opened client call = λ other. if client == other then call else opened other

-- the open calls after a line
abbrev pub opened_by : CallsOpen → Line → CallsOpen
opened_by opened (Ask client call) = with_open opened client (Some call)
opened_by opened (End client recorded) = with_open opened client None
opened_by opened (Abort client) = with_open opened client None
opened_by opened (Lost client) = with_open opened client None
