-- The window of a subscriber after lines of a history.
use Rattle.std.specs.Prelude.{◌≡◌, ℕ, suc, ◌<◌, ◌≤◌, ◌⊎◌, true, false, List, [], ◌∷◌, ◌++◌, length, take, Some, None}
use Rattle.std.specs.List.{AllByRecursion}
use Rattle.tatp_tables.specs.Database.{Database, of_subscriber}
use Rattle.tatp_history.specs.declared.line.Line.{Line}
use Rattle.tatp_history.specs.declared.event.Event.{Event}
use Rattle.tatp_calls.specs.declared.reply.Reply.{Reply}
use Rattle.tatp_history.specs.declared.observed.Observed.{Observed}
use Rattle.tatp_history.specs.Histories.{IsStrictlySerializable}
use Rattle.tatp_history.specs.HistoryLines.{calls_of}
use Rattle.tatp_history.specs.Locality.{calls_on}
use Rattle.tatp_history.specs.Events.{AreAfter, HaveEnds}
use Rattle.tatp_history.specs.SubscriberEvents.{OpenCalls, NothingIsOpen, no_calls, opened_after, events_of}
use Rattle.tatp_linearization.specs.declared.first.First.{First}
use Rattle.tatp_linearization.specs.declared.first.First.TheVariants.{Never, At, Undecided}
use Rattle.tatp_linearization.specs.Cut.{events_by}
use Rattle.tatp_linearization.specs.Held.{IsAcceptedEvent}
use Rattle.tatp_linearization.specs.Reached.{AreOfSubscriber, AreReached}
use Rattle.tatp_judge.specs.declared.window.Window.{Window}
use Rattle.tatp_judge.specs.declared.legal.OnlyReply.{OnlyReply}
use Rattle.tatp_judge.specs.Explained.{numbers_since}
use Rattle.tatp_judge.specs.Legal.{AreLegalReplies}
use Rattle.tatp_judge.specs.Verdicts.{NeedMoreBy}

-- ---- open calls, counted
-- it is one of them
abbrev pub IsAmong : ℕ → List ℕ → Type 0
IsAmong client [] = ⊥
IsAmong client (other ∷ more) = (client ≡ other) ⊎ IsAmong client more

abbrev pub AreEachOnce : List ℕ → Type 0
AreEachOnce [] = Unit {0}
AreEachOnce (client ∷ more) = (IsAmong client more → ⊥) × AreEachOnce more

-- `n` clients have a call open
pub record AreCounted (opened : OpenCalls) (n : ℕ) : Type 0 where
  pub clients : List ℕ
  pub count : length clients ≡ n
  pub once : AreEachOnce clients
  pub all : (client : ℕ) → (opened client ≡ None) ⊎ IsAmong client clients
  pub still : (client : ℕ) → IsAmong client clients → opened client ≡ None → ⊥

-- ---- windows
-- what is kept of the lines: the numbers of the subscriber's lines since the window began. None of
-- its calls was open then; from its first line after that, one was open until the last line came
pub record AreNumbersKept (u : Database) (s : ℕ) (lines : List Line) (w : Window) : Type 0 where
  pub numbers_are : w.numbers.items ≡ numbers_since u s w.from lines
  pub none : NothingIsOpen u s (take w.from lines)
  pub last : (later : ℕ) → later < length lines → NothingIsOpen u s (take later lines)
      → numbers_since u s w.from (take later lines) ≡ []

-- the configurations kept are those after the events before the window; the window has the last
-- events on the subscriber
pub record IsWindowAfter (u : Database) (most s : ℕ) (lines : List Line) (w : Window)
    : Type 0 where
  pub before : List Event
  pub all : events_of u s lines ≡ before ++ w.events.items
  pub accepted : AllByRecursion IsAcceptedEvent w.events.items
  pub reached : AreReached (of_subscriber u s) before w.explanations
  pub own : AreOfSubscriber s w.explanations
  pub most_is : w.explanations.most ≡ most
  pub ends : HaveEnds before
  pub past : events_by w.from before ≡ before
  pub after : AreAfter w.from w.events.items
  pub from_within : w.from ≤ length lines
  pub since : (client asked : ℕ)
      → opened_after u s 1 no_calls lines client ≡ Some asked → w.from < asked
  pub counted : AreCounted (opened_after u s 1 no_calls lines) w.waiting
  pub few : w.waiting ≤ length lines
  pub numbers : AreNumbersKept u s lines w

-- the subscriber is set aside, and `waiting` of its calls are open
pub record IsCounted (u : Database) (s : ℕ) (lines : List Line) (w : Window) : Type 0 where
  pub aside : w.aside ≡ true
  pub counted : AreCounted (opened_after u s 1 no_calls lines) w.waiting
  pub few : w.waiting ≤ length lines

-- what is kept of a subscriber
abbrev pub IsKept : Database → ℕ → ℕ → List Line → Window → Type 0
IsKept u most s lines w =
    ((w.aside ≡ false) × IsWindowAfter u most s lines w) ⊎ IsCounted u s lines w

-- it has no events
pub record IsForgotten (w : Window) : Type 0 where
  pub events : w.events.items ≡ []
  pub numbers : w.numbers.items ≡ []

-- ---- explained calls
-- those of the subscriber in the first `k` lines have an order
abbrev pub IsExplainedBy : Database → ℕ → List Line → ℕ → Type 0
IsExplainedBy u s lines k =
    IsStrictlySerializable (of_subscriber u s) (calls_on u s (calls_of (take k lines)))

-- in fewer lines than `end` they always have one
abbrev pub IsExplainedBefore : Database → ℕ → List Line → ℕ → Type 0
IsExplainedBefore u s lines end =
    (k : ℕ) → k < end → k ≤ length lines → IsExplainedBy u s lines k

-- the call and a reply
abbrev pub only_reply : Observed → Reply → OnlyReply
only_reply x reply = record { call = x.call; reply = reply }

-- where no order explains the calls up to the last line, and instead of the events only the reply
-- is kept with which the call could have been answered there
pub record IsSpent (u : Database) (s : ℕ) (lines : List Line) (w : Window) : Type 0 where
  pub none : w.events.items ≡ []
  pub only : OnlyReply
  pub only_is : w.only.items ≡ only ∷ []
  pub legal : AreLegalReplies u s lines only.call (only.reply ∷ [])
  pub began : w.from < length lines
  pub numbers : AreNumbersKept u s lines w
  pub counted : AreCounted (opened_after u s 1 no_calls lines) w.waiting
  pub few : w.waiting ≤ length lines
  pub before : IsExplainedBefore u s lines (length lines)

-- up to which of the lines the subscriber's calls are explained
abbrev pub IsFirstOf : Database → ℕ → ℕ → List Line → First → Type 0
IsFirstOf u most s lines Never = IsExplainedBefore u s lines (suc (length lines))
IsFirstOf u most s lines (At n) =
    (1 ≤ n) × (n ≤ length lines)
    × IsExplainedBefore u s lines n × (IsExplainedBy u s lines n → ⊥)
IsFirstOf u most s lines Undecided = NeedMoreBy u most lines (length lines) s
