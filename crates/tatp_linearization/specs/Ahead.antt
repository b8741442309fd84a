-- What a search knows in advance of the events that it follows: the last times at which calls of a
-- window are asked that saw or set a location.
use Rattle.std.specs.Prelude.{◌≡◌, ℕ, ◌<◌, ◌≤◌, ◌⊎◌, true, nat_eq, List, [], ◌∷◌, ◌++◌, Option, Some, None, slice_get}
use Rattle.std.specs.List.{AllByRecursion}
use Rattle.indexmap.specs.IndexMap.{get}
use Rattle.tatp_history.specs.declared.event.Event.{Event}
use Rattle.tatp_history.specs.declared.event.Event.TheVariants.{Asks, Ends}
use Rattle.tatp_history.specs.declared.observed.Outcome.{Outcome}
use Rattle.tatp_history.specs.declared.observed.Outcome.TheVariants.{Answered, Aborted, Unknown}
use Rattle.tatp_history.specs.declared.observed.Observed.{Observed}
use Rattle.tatp_history.specs.Histories.{IsIn}
use Rattle.tatp_history.specs.Events.{asked_in, time_of}
use Rattle.tatp_linearization.specs.declared.configuration.Configuration.{Configuration as Held}
use Rattle.tatp_linearization.specs.declared.ahead.Ahead.{Ahead}
use Rattle.tatp_linearization.specs.declared.ahead.Times.{Times}
use Rattle.tatp_linearization.specs.declared.ahead.LastRead.{LastRead}
use Rattle.tatp_linearization.specs.Overwritten.{SetsLocation}
use Rattle.tatp_linearization.specs.Doomed.{sets_location, SawLocation, NoneSets}
use Rattle.tatp_linearization.specs.Unseen.{location_in, HasSetLocation, IsReplacedBy, SawAfter, SetAfter}

-- ---- what is kept of a location
abbrev pub no_times : Times
no_times = record { read = 0; ended = 0; set = 0 }

abbrev pub times_or_none : Option Times → Times
times_or_none None = no_times
times_or_none (Some times) = times

abbrev pub times_in : Ahead → ℕ → Times
times_in ahead location = times_or_none (get nat_eq ahead.locations location)

-- the read saw another location than this, and was asked after the time
abbrev pub SawOtherAfter : ℕ → ℕ → LastRead → Type 0
SawOtherAfter location time read = (read.location ≡ location → ⊥) × (time < read.asked)

-- the location has been replaced by the time that some call asked after this time takes effect: one
-- that updates it, or one that saw another
abbrev pub IsReplacedAfter : Ahead → ℕ → ℕ → Type 0
IsReplacedAfter ahead location time = (time < ahead.last_update)
    ⊎ (SawOtherAfter location time ahead.last_read ⊎ SawOtherAfter location time ahead.other_read)

-- the call was answered by this time
abbrev pub IsAnsweredBy : ℕ → Outcome → Type 0
IsAnsweredBy time (Answered at recorded) = at ≤ time
IsAnsweredBy time (Aborted at) = ⊥
IsAnsweredBy time Unknown = ⊥

-- no time falls, and they count the call x, where it saw or sets their location
pub record RaisesTimes (last : ℕ) (x : Observed) (old new : Times) : Type 0 where
  pub keeps_read : old.read ≤ new.read
  pub keeps_set : old.set ≤ new.set
  pub read : (location : ℕ) → location_in x ≡ Some location → x.asked ≤ new.read
  pub set : (location : ℕ) → sets_location location x.call ≡ true → x.asked ≤ new.set
  pub ended : (new.ended ≡ old.ended) ⊎ ((new.ended ≡ x.asked) × IsAnsweredBy last x.outcome
      × ((location : ℕ) × (location_in x ≡ Some location)))

-- the read is the call, which is answered by the time `last`
pub record IsReadOf (last : ℕ) (x : Observed) (read : LastRead) : Type 0 where
  pub saw : location_in x ≡ Some read.location
  pub ended : IsAnsweredBy last x.outcome
  pub asked : read.asked ≡ x.asked

-- the last read is that of before, or x; the other one is that of before, or the last before
pub record NotesRead (x : Observed) (old new : Ahead) : Type 0 where
  pub last_read : (new.last_read ≡ old.last_read) ⊎ IsReadOf old.last x new.last_read
  pub other_read : (new.other_read ≡ old.other_read) ⊎ (new.other_read ≡ old.last_read)

-- ---- what it says of the events of a window
-- a read that saw the location, and ends in the window, is asked at the time
pub record IsEndedRead (events : List Event) (last location time : ℕ) (x : Observed) : Type 0 where
  pub there : IsIn x (asked_in events)
  pub saw : location_in x ≡ Some location
  pub ended : IsAnsweredBy last x.outcome
  pub asked : x.asked ≡ time

-- an update of the location, that ends in the window, and not with a failure, is asked at the time
pub record IsEndedUpdate (events : List Event) (last time : ℕ) (x : Observed) : Type 0 where
  pub there : IsIn x (asked_in events)
  pub sets : HasSetLocation x
  pub ended : IsAnsweredBy last x.outcome
  pub asked : x.asked ≡ time

-- where there is a time, a read that saw the location, and ends in the window, is asked then
abbrev pub IsNoted : List Event → ℕ → LastRead → Type 0
IsNoted events last read =
    0 < read.asked → (x : Observed) × IsEndedRead events last read.location read.asked x

pub record Tells (events : List Event) (ahead : Ahead) : Type 0 where
  pub reads : (x : Observed) (location : ℕ) → IsIn x (asked_in events)
      → location_in x ≡ Some location → x.asked ≤ (times_in ahead location).read
  pub sets : (x : Observed) (location : ℕ) → IsIn x (asked_in events)
      → sets_location location x.call ≡ true → x.asked ≤ (times_in ahead location).set
  pub ended : (location : ℕ) → 0 < (times_in ahead location).ended
      → (x : Observed) × IsEndedRead events ahead.last location (times_in ahead location).ended x
  pub updated : 0 < ahead.last_update
      → (x : Observed) × IsEndedUpdate events ahead.last ahead.last_update x
  pub last_read : IsNoted events ahead.last ahead.last_read
  pub other_read : IsNoted events ahead.last ahead.other_read

-- it says nothing
pub record TellsNothing (ahead : Ahead) : Type 0 where
  pub ended : (location : ℕ) → (times_in ahead location).ended ≡ 0
  pub updated : ahead.last_update ≡ 0
  pub last_read : ahead.last_read.asked ≡ 0
  pub other_read : ahead.other_read.asked ≡ 0
  pub last : ahead.last ≡ 0

-- the window's last event has this time
abbrev pub IsLastTime : ℕ → List Event → Type 0
IsLastTime last events =
    (first : List Event) × (event : Event) × (events ≡ first ++ event ∷ [])
    × (last ≡ time_of event)

-- it was made of the events of a window
abbrev pub IsAheadOf : List Event → Ahead → Type 0
IsAheadOf events ahead = TellsNothing ahead ⊎ (IsLastTime ahead.last events × Tells events ahead)

-- ---- what it says of the events that are left, at a time
-- the call is asked after `time`, and the location is replaced by the time it takes effect. Where
-- the window has no later read that saw the location, each read that did is asked after its end
pub record IsReplaced (ahead : Ahead) (now : ℕ) (rest : List Event) (location time : ℕ)
    (x : Observed) : Type 0 where
  pub there : IsIn x (asked_in rest)
  pub by : IsReplacedBy location x
  pub later : time < x.asked
  pub reads : (times_in ahead location).read ≤ now → SawAfter x location (asked_in rest)

-- a read that is asked in the events saw the location, and ends in the window
pub record IsNextRead (last location : ℕ) (rest : List Event) (x : Observed) : Type 0 where
  pub there : IsIn x (asked_in rest)
  pub saw : SawLocation location x
  pub ended : IsAnsweredBy last x.outcome

-- `sets` says: where the window doesn't set a location any more, each later call that sets it is
-- asked after the end of each call that ends in the window
pub record LooksAhead (ahead : Ahead) (now : ℕ) (rest : List Event) : Type 0 where
  pub from : AllByRecursion (λ event. now ≤ time_of event) rest
  pub replaced : (location time : ℕ) → now ≤ time → IsReplacedAfter ahead location time
      → (x : Observed) × IsReplaced ahead now rest location time x
  pub read : (location : ℕ) → now < (times_in ahead location).ended
      → (x : Observed) × IsNextRead ahead.last location rest x
  pub sets : (location : ℕ) (x : Observed) → now < ahead.last
      → (times_in ahead location).set ≤ now → IsAnsweredBy ahead.last x.outcome
      → SetAfter x location (asked_in rest)

-- it looks ahead of the events at the time of the first of them, if that is an end
abbrev pub IsSeenAhead : Ahead → List Event → Type 0
IsSeenAhead ahead [] = Unit {0}
IsSeenAhead ahead (Asks x ∷ rest) = Unit {0}
IsSeenAhead ahead (Ends asked at ∷ rest) = LooksAhead ahead at (Ends asked at ∷ rest)

-- ---- a location that is lost
-- once the open call at a place took effect the subscriber has another location than this, which
-- no open or later call of the window sets; but a read that is open or still to be asked saw it,
-- and ends in the window
pub record Loses (ahead : Ahead) (now : ℕ) (c : Held) (place location : ℕ) : Type 0 where
  pub updates : (x : Observed) → slice_get c.opened.items place ≡ Some x
      → SetsLocation c.home.tables x.call
  pub opened : NoneSets location c.opened.items
  pub later : (times_in ahead location).set ≤ now
  pub inside : now < ahead.last
  pub read : (now < (times_in ahead location).ended)
      ⊎ ((x : Observed) × IsIn x c.opened.items × SawLocation location x
      × IsAnsweredBy ahead.last x.outcome)
