-- What is searched in the place of what clients saw. Unless the rows at the end may be asked for,
-- it is the history with data_a cleared, which has an order exactly where this one has.
use Rattle.std.specs.Prelude.{◌≡◌, Bool, true, false, List}
use Rattle.tatp_tables.specs.Tuples.{Tuples}
use Rattle.tatp_tables.specs.Database.{Database}
use Rattle.tatp_calls.specs.declared.call.Call.{Call}
use Rattle.tatp_history.specs.declared.event.Event.{Event}
use Rattle.tatp_history.specs.declared.observed.Observed.{Observed}
use Rattle.tatp_history.specs.Cleared.{IsCleared, cleared, cleared_call, cleared_calls, cleared_events}

-- exactly: each call as it was asked. Else, where these are the facilities, with data_a cleared
abbrev pub searched_call : Bool → Tuples → Call → Call
searched_call true facilities call = call
searched_call false facilities call = cleared_call facilities call

abbrev pub searched : Bool → Tuples → Observed → Observed
searched true facilities x = x
searched false facilities x = cleared facilities x

abbrev pub searched_calls : Bool → Tuples → List Observed → List Observed
searched_calls true facilities calls = calls
searched_calls false facilities calls = cleared_calls facilities calls

abbrev pub searched_events : Bool → Tuples → List Event → List Event
searched_events true facilities events = events
searched_events false facilities events = cleared_events facilities events

-- the search begins with the second database where the calls began with the first
abbrev pub IsSearchedFrom : Bool → Database → Database → Type 0
IsSearchedFrom true u v = v ≡ u
IsSearchedFrom false u v = IsCleared u v
