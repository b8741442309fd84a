-- What a line, and its window's end, make of the windows.
use Rattle.std.specs.Prelude.{◌≡◌, ℕ, suc, ◌+◌, ◌-◌, ◌⊎◌, false, if◌then◌else◌, nat_eq, List, [], ◌∷◌, ◌++◌, length, map, slice_get, Option, Some, None}
use Rattle.indexmap.specs.IndexMap.{get}
use Rattle.tatp_tables.specs.Database.{Database}
use Rattle.tatp_history.specs.declared.line.Line.{Line}
use Rattle.tatp_history.specs.declared.event.Event.{Event}
use Rattle.tatp_history.specs.declared.event.Event.TheVariants.{Asks}
use Rattle.tatp_history.specs.declared.observed.Observed.{Observed}
use Rattle.tatp_history.specs.declared.line.Line.TheVariants.{Ask, End, Abort, Lost}
use Rattle.tatp_history.specs.Locality.{is_this}
use Rattle.tatp_history.specs.Events.{time_of}
use Rattle.tatp_linearization.specs.declared.explanations.Standing.{Standing}
use Rattle.tatp_linearization.specs.declared.explanations.Standing.TheVariants.{Explained, Unexplained, Undecided}
use Rattle.tatp_judge.specs.declared.window.Window.{Window}
use Rattle.tatp_judge.specs.declared.asked.Asked.{Asked}
use Rattle.tatp_judge.specs.declared.judge.Judge.{Judge}
use Rattle.tatp_judge.specs.Asked.{AskedCalls, with_asked, asked_call, asked_on}
use Rattle.tatp_judge.specs.NextLine.{closed_by, number_closed_by, asks_of}
use Rattle.tatp_judge.specs.Verdicts.{NeedMoreBy}
use Rattle.tatp_judge.specs.Windows.{IsWindowAfter, IsExplainedBy, IsForgotten, IsSpent}

-- each window of the second list is in this relation to the one at its place in the first
pub record AreEach (Stands : ℕ → Window → Window → Type 0) (old new : List Window)
    : Type 0 where
  pub count : length new ≡ length old
  pub each : (place : ℕ) (after : Window) → slice_get new place ≡ Some after
      → (before : Window) × (slice_get old place ≡ Some before) × Stands place before after

-- the window changes so, if it isn't set aside; its open calls are counted anyway
pub record Steps (Open : Window → Window → Type 0) (waits : ℕ → ℕ) (w after : Window)
    : Type 0 where
  pub aside_is : after.aside ≡ w.aside
  pub waits_are : after.waiting ≡ waits w.waiting
  pub kept : w.aside ≡ false → Open w after

-- ---- a line
-- one call fewer is open, if this one was
abbrev pub fewer : Option ℕ → ℕ → ℕ
fewer None n = n
fewer (Some asked) n = n - 1

-- the open call, if there is one, ended by the line of this number
pub record IsEndedIn (one : Option ℕ) (number : ℕ) (line : Line) (w after : Window)
    : Type 0 where
  pub events_are : after.events.items ≡ closed_by one number line w.events.items
  pub numbers_are : after.numbers.items ≡ w.numbers.items ++ number_closed_by one number line
  pub waiting_is : after.waiting ≡ fewer one w.waiting
  pub from_is : after.from ≡ w.from
  pub explanations_are : after.explanations ≡ w.explanations

abbrev pub EndsCall : Option ℕ → ℕ → Line → Window → Window → Type 0
EndsCall one number line w after = Steps (IsEndedIn one number line) (fewer one) w after

-- the call is asked, if it is on this subscriber
abbrev pub asks_on : ℕ → Option ℕ → Observed → List Event
asks_on s s_id x = if is_this s s_id then Asks x ∷ [] else []

pub record IsAskedIn (asks : List Event) (w after : Window) : Type 0 where
  pub events_are : after.events.items ≡ w.events.items ++ asks
  pub numbers_are : after.numbers.items ≡ w.numbers.items ++ map time_of asks
  pub waiting_is : after.waiting ≡ w.waiting + length asks
  pub from_is : after.from ≡ w.from
  pub explanations_are : after.explanations ≡ w.explanations

abbrev pub AsksCall : List Event → Window → Window → Type 0
AsksCall asks w after = Steps (IsAskedIn asks) (λ n. n + length asks) w after

-- both: the open call ended, and another was asked
pub record IsNoted (one : Option ℕ) (asks : List Event) (number : ℕ) (line : Line)
    (w after : Window) : Type 0 where
  pub events_are : after.events.items ≡ closed_by one number line w.events.items ++ asks
  pub numbers_are : after.numbers.items
      ≡ w.numbers.items ++ (number_closed_by one number line ++ map time_of asks)
  pub waiting_is : after.waiting ≡ fewer one w.waiting + length asks
  pub from_is : after.from ≡ w.from
  pub explanations_are : after.explanations ≡ w.explanations

abbrev pub NotesLine : Option ℕ → List Event → ℕ → Line → Window → Window → Type 0
NotesLine one asks number line w after =
    Steps (IsNoted one asks number line) (λ n. fewer one n + length asks) w after

-- the open calls, where the line of this number asks one more
abbrev pub also_asked : Database → ℕ → AskedCalls → Line → AskedCalls
also_asked u number asked (Ask client call) =
    with_asked asked client (Some (asked_call u number call))
also_asked u number asked (End client recorded) = asked
also_asked u number asked (Abort client) = asked
also_asked u number asked (Lost client) = asked

-- what the line of this number, whose client had this call open, makes of what is kept
pub record IsNotedBy (u : Database) (ended : Option Asked) (number : ℕ) (line : Line)
    (old new : Judge) : Type 0 where
  pub directory_is : new.directory ≡ old.directory
  pub asked_are : (client : ℕ) → get nat_eq new.asked client
      ≡ also_asked u number (λ other. get nat_eq old.asked other) line client
  pub undecided_is : new.undecided.items ≡ old.undecided.items
  pub windows_are : AreEach (λ place w after. NotesLine (asked_on (suc place) ended)
      (asks_of u (suc place) number line) number line w after)
      old.windows.items new.windows.items

-- ---- the end of a window
abbrev pub IsClosedTo : Database → ℕ → ℕ → List Line → Standing → Window → Type 0
IsClosedTo u most s lines Explained w =
    IsWindowAfter u most s lines w × (w.waiting ≡ 0 → IsForgotten w)
IsClosedTo u most s lines Unexplained w =
    (IsExplainedBy u s lines (length lines) → ⊥)
    × (IsWindowAfter u most s lines w ⊎ IsSpent u s lines w)
IsClosedTo u most s lines Undecided w = NeedMoreBy u most lines (length lines) s

-- what is said of a window that may be closed after the line of this number
abbrev pub Closes : ℕ → Standing → Window → Window → Type 0
Closes number standing w after =
    (u : Database) (most s : ℕ) (lines : List Line) → IsWindowAfter u most s lines w
    → number ≡ length lines → IsClosedTo u most s lines standing after

-- of the subscriber with this s_id; the others are as they were
pub record ClosesHere (number : ℕ) (standing : Standing) (w after : Window) : Type 0 where
  pub closes : Closes number standing w after
  pub aside_is : after.aside ≡ w.aside
  pub waiting_is : after.waiting ≡ w.waiting
  pub exact_is : after.explanations.exact ≡ w.explanations.exact

abbrev pub ClosesAt : ℕ → ℕ → Standing → ℕ → Window → Window → Type 0
ClosesAt s_id number standing place w after =
    ((suc place ≡ s_id) × ClosesHere number standing w after)
    ⊎ ((suc place ≡ s_id → ⊥) × (after ≡ w))
