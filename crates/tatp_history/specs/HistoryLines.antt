-- trusted: read it
-- A history, line by line in the order of time, and the calls that it records. The time of a line
-- is its number.
use Rattle.std.specs.Prelude.{◌≡◌, ℕ, suc, ◌==◌, if◌then◌else◌, List, [], ◌∷◌, Ok}
use Rattle.tatp_calls.specs.declared.call.Call.{Call}
use Rattle.tatp_calls.specs.Arguments.{arguments_accepted}
use Rattle.tatp_history.specs.declared.line.Line.{Line}
use Rattle.tatp_history.specs.declared.line.Line.TheVariants.{Ask, End, Abort, Lost}
use Rattle.tatp_history.specs.declared.observed.Outcome.{Outcome}
use Rattle.tatp_history.specs.declared.observed.Outcome.TheVariants.{Answered, Aborted, Unknown}
use Rattle.tatp_history.specs.declared.observed.Observed.{Observed}

-- the client whose line it is
abbrev pub client_of : Line → ℕ
client_of (Ask client call) = client
client_of (End client recorded) = client
client_of (Abort client) = client
client_of (Lost client) = client

-- how the line of this number ends the call that its client had open: a client that asks again gets
-- no answer to the call before
abbrev pub end_at : ℕ → Line → Outcome
end_at number (Ask client call) = Unknown
end_at number (End client recorded) = Answered number recorded
end_at number (Abort client) = Aborted number
end_at number (Lost client) = Unknown

-- how the open call of a client ends in these lines, the first of which has this number. The
-- client's first line here ends it; where the client has none, no answer came
abbrev pub end_of : ℕ → ℕ → List Line → Outcome
end_of client number [] = Unknown
end_of client number (line ∷ more) =
    if client_of line == client then end_at number line else end_of client (suc number) more

-- the call that a client asks in the line of this number, which these lines follow
abbrev pub call_at : ℕ → ℕ → Call → List Line → Observed
call_at number client call more = record {
  asked = number;
  call = call;
  outcome = end_of client (suc number) more;
}

-- the calls in lines of which the first has this number
abbrev pub calls_from : ℕ → List Line → List Observed
calls_from number [] = []
calls_from number (Ask client call ∷ more) =
    call_at number client call more ∷ calls_from (suc number) more
calls_from number (End client recorded ∷ more) = calls_from (suc number) more
calls_from number (Abort client ∷ more) = calls_from (suc number) more
calls_from number (Lost client ∷ more) = calls_from (suc number) more

-- the calls of a history
abbrev pub calls_of : List Line → List Observed
calls_of lines = calls_from 1 lines

-- the arguments of each call that is asked are in their domains
abbrev pub AreAcceptedLines : List Line → Type 0
AreAcceptedLines [] = Unit {0}
AreAcceptedLines (Ask client call ∷ more) =
    (arguments_accepted call ≡ Ok tt) × AreAcceptedLines more
AreAcceptedLines (End client recorded ∷ more) = AreAcceptedLines more
AreAcceptedLines (Abort client ∷ more) = AreAcceptedLines more
AreAcceptedLines (Lost client ∷ more) = AreAcceptedLines more
