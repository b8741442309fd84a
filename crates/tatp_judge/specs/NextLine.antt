-- What one line more does to the events on a subscriber.
use Rattle.std.specs.Prelude.{ℕ, ◌==◌, if◌then◌else◌, List, [], ◌∷◌, ◌++◌, Option, Some, None}
use Rattle.tatp_tables.specs.Database.{Database}
use Rattle.tatp_history.specs.declared.line.Line.{Line}
use Rattle.tatp_history.specs.declared.line.Line.TheVariants.{Ask, End, Abort, Lost}
use Rattle.tatp_history.specs.declared.event.Event.{Event}
use Rattle.tatp_history.specs.declared.event.Event.TheVariants.{Asks, Ends}
use Rattle.tatp_history.specs.declared.observed.Outcome.{Outcome}
use Rattle.tatp_history.specs.declared.observed.Observed.{Observed}
use Rattle.tatp_history.specs.HistoryLines.{end_at, call_at}
use Rattle.tatp_history.specs.Locality.{is_on}

-- ---- an outcome is written
-- the call, which has this outcome if it was asked at the time `asked`
abbrev pub ended_call : ℕ → Outcome → Observed → Observed
ended_call asked outcome x = record {
  asked = x.asked;
  call = x.call;
  outcome = if x.asked == asked then outcome else x.outcome;
}

-- the events, where the call asked at the time `asked` has this outcome
abbrev pub with_outcome : ℕ → Outcome → List Event → List Event
with_outcome asked outcome [] = []
with_outcome asked outcome (Asks x ∷ more) =
    Asks (ended_call asked outcome x) ∷ with_outcome asked outcome more
with_outcome asked outcome (Ends other at ∷ more) =
    Ends other at ∷ with_outcome asked outcome more

-- ---- a line
-- the end of the call asked at the time `asked`, if the line of this number answers it
abbrev pub ends_of : ℕ → ℕ → Line → List Event
ends_of asked number (Ask client call) = []
ends_of asked number (End client recorded) = Ends asked number ∷ []
ends_of asked number (Abort client) = []
ends_of asked number (Lost client) = []

-- the events after the line of this number, whose client had this call open
abbrev pub closed_by : Option ℕ → ℕ → Line → List Event → List Event
closed_by None number line events = events
closed_by (Some asked) number line events =
    with_outcome asked (end_at number line) events ++ ends_of asked number line

-- the number of a line that ends its client's open call and asks no other
abbrev pub number_of_last : ℕ → Line → List ℕ
number_of_last number (Ask client call) = []
number_of_last number (End client recorded) = number ∷ []
number_of_last number (Abort client) = number ∷ []
number_of_last number (Lost client) = number ∷ []

-- ... if its client has an open call
abbrev pub number_closed_by : Option ℕ → ℕ → Line → List ℕ
number_closed_by None number line = []
number_closed_by (Some asked) number line = number_of_last number line

-- the call that the line of this number asks, if it is on the subscriber
abbrev pub asks_of : Database → ℕ → ℕ → Line → List Event
asks_of u s number (Ask client call) =
    if is_on u s call then Asks (call_at number client call []) ∷ [] else []
asks_of u s number (End client recorded) = []
asks_of u s number (Abort client) = []
asks_of u s number (Lost client) = []
