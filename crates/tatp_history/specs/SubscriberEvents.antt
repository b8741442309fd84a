-- The events of one subscriber's calls, as the lines of a history record them.
use Rattle.std.specs.Prelude.{◌≡◌, ℕ, suc, ◌==◌, if◌then◌else◌, List, [], ◌∷◌, Option, Some, None}
use Rattle.tatp_tables.specs.Database.{Database}
use Rattle.tatp_history.specs.declared.line.Line.{Line}
use Rattle.tatp_history.specs.declared.line.Line.TheVariants.{Ask, End, Abort, Lost}
use Rattle.tatp_history.specs.declared.event.Event.{Event}
use Rattle.tatp_history.specs.declared.event.Event.TheVariants.{Asks, Ends}
use Rattle.tatp_history.specs.HistoryLines.{call_at}
use Rattle.tatp_history.specs.Locality.{is_on}

-- ---- open calls
-- when a client's open call on the subscriber was asked, if it has one
abbrev pub OpenCalls : Type 0
OpenCalls = ℕ → Option ℕ

abbrev pub no_calls : OpenCalls
no_calls client = None

abbrev pub with_call : OpenCalls → ℕ → Option ℕ → OpenCalls
with_call opened client asked = λ other. if other == client then asked else opened other

-- the open calls after the line of this number
abbrev pub opened_by : Database → ℕ → ℕ → OpenCalls → Line → OpenCalls
opened_by u s number opened (Ask client call) =
    with_call opened client (if is_on u s call then Some number else None)
opened_by u s number opened (End client recorded) = with_call opened client None
opened_by u s number opened (Abort client) = with_call opened client None
opened_by u s number opened (Lost client) = with_call opened client None

-- the open calls after lines of which the first has this number
abbrev pub opened_after : Database → ℕ → ℕ → OpenCalls → List Line → OpenCalls
opened_after u s number opened [] = opened
opened_after u s number opened (line ∷ more) =
    opened_after u s (suc number) (opened_by u s number opened line) more

-- after a history's first lines no client has a call on the subscriber open
abbrev pub NothingIsOpen : Database → ℕ → List Line → Type 0
NothingIsOpen u s lines = (client : ℕ) → opened_after u s 1 no_calls lines client ≡ None

-- ---- events
-- the end of the call that was asked at this time, if there is one, before other events
abbrev pub end_before : Option ℕ → ℕ → List Event → List Event
end_before None number events = events
end_before (Some asked) number events = Ends asked number ∷ events

-- the events in lines of which the first has this number, where these calls are open
abbrev pub events_with : Database → ℕ → ℕ → OpenCalls → List Line → List Event
events_with u s number opened [] = []
events_with u s number opened (Ask client call ∷ more) =
    if is_on u s call
    then Asks (call_at number client call more)
    ∷ events_with u s (suc number) (with_call opened client (Some number)) more
    else events_with u s (suc number) (with_call opened client None) more
events_with u s number opened (End client recorded ∷ more) =
    end_before (opened client) number
    (events_with u s (suc number) (with_call opened client None) more)
events_with u s number opened (Abort client ∷ more) =
    events_with u s (suc number) (with_call opened client None) more
events_with u s number opened (Lost client ∷ more) =
    events_with u s (suc number) (with_call opened client None) more

-- the events in lines of which the first has this number, where no call is open
abbrev pub events_from : Database → ℕ → ℕ → List Line → List Event
events_from u s number lines = events_with u s number no_calls lines

-- the events of a history
abbrev pub events_of : Database → ℕ → List Line → List Event
events_of u s lines = events_from u s 1 lines
