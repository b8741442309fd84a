-- The calls that clients have open, whichever subscriber they are on.
use Rattle.std.specs.Prelude.{ℕ, suc, ◌==◌, if◌then◌else◌, List, [], ◌∷◌, Option, Some, None}
use Rattle.tatp_tables.specs.Database.{Database}
use Rattle.tatp_calls.specs.declared.call.Call.{Call}
use Rattle.tatp_history.specs.declared.line.Line.{Line}
use Rattle.tatp_history.specs.declared.line.Line.TheVariants.{Ask, End, Abort, Lost}
use Rattle.tatp_history.specs.Locality.{subscriber_of, is_this}
use Rattle.tatp_history.specs.Changes.{only_reads}
use Rattle.tatp_judge.specs.declared.asked.Asked.{Asked}

-- the open call of each client, if it has one
abbrev pub AskedCalls : Type 0
AskedCalls = ℕ → Option Asked

abbrev pub none_asked : AskedCalls
none_asked client = None

abbrev pub with_asked : AskedCalls → ℕ → Option Asked → AskedCalls
with_asked asked client one = λ other. if other == client then one else asked other

-- the call that the line of this number asks
abbrev pub asked_call : Database → ℕ → Call → Asked
asked_call u number call =
    record { s_id = subscriber_of u call; number = number; reads = only_reads call }

-- the open calls after the line of this number
abbrev pub asked_by : Database → ℕ → AskedCalls → Line → AskedCalls
asked_by u number asked (Ask client call) =
    with_asked asked client (Some (asked_call u number call))
asked_by u number asked (End client recorded) = with_asked asked client None
asked_by u number asked (Abort client) = with_asked asked client None
asked_by u number asked (Lost client) = with_asked asked client None

-- the open calls after lines of which the first has this number
abbrev pub asked_after : Database → ℕ → AskedCalls → List Line → AskedCalls
asked_after u number asked [] = asked
asked_after u number asked (line ∷ more) =
    asked_after u (suc number) (asked_by u number asked line) more

-- the open calls after a history
abbrev pub asked_in_all : Database → List Line → AskedCalls
asked_in_all u lines = asked_after u 1 none_asked lines

-- when the open call was asked, if it is on the subscriber
abbrev pub asked_on : ℕ → Option Asked → Option ℕ
asked_on s None = None
asked_on s (Some asked) = if is_this s asked.s_id then Some asked.number else None
