-- Clusters (Gibbons and Korach, 1997): an open update of the location, and the open reads that saw
-- what it set. Where no later read sees that, and another update overwrites it in any order, they
-- may take effect right before an update that takes effect now.
use Rattle.std.specs.Prelude.{◌≡◌, ℕ, ◌≤◌, not, Bool, true, List, Some, filter, slice_get, remove}
use Rattle.std.specs.List.{AllByRecursion}
use Rattle.tatp_tables.specs.Database.{Database}
use Rattle.tatp_calls.specs.declared.call.Call.{Call}
use Rattle.tatp_calls.specs.declared.call.Call.TheVariants.{UpdateLocation}
use Rattle.tatp_calls.specs.Transactions.{transaction}
use Rattle.tatp_history.specs.declared.event.Event.{Event}
use Rattle.tatp_history.specs.declared.observed.Observed.{Observed}
use Rattle.tatp_history.specs.declared.observed.Recorded.{Recorded}
use Rattle.tatp_history.specs.declared.observed.Outcome.TheVariants.{Answered}
use Rattle.tatp_history.specs.Histories.{IsIn, MayHaveReply}
use Rattle.tatp_history.specs.JustInTime.{AreOpen}
use Rattle.tatp_history.specs.Remaining.{HasOrderTo}
use Rattle.tatp_linearization.specs.declared.ahead.Ahead.{Ahead}
use Rattle.tatp_linearization.specs.AtOnce.{FitsAtOnce}
use Rattle.tatp_linearization.specs.Possible.{CallsTakeEffect}
use Rattle.tatp_linearization.specs.Overwritten.{SetsLocation}
use Rattle.tatp_linearization.specs.Unseen.{sees, AreOfOne}
use Rattle.tatp_linearization.specs.Ahead.{times_in, IsReplacedAfter, LooksAhead}

-- ---- an update that may go
-- the call sets the location, which is read no more in the window, and is replaced there by a call
-- that is asked after its answer
pub record IsUnread (ahead : Ahead) (now : ℕ) (x : Observed) (location : ℕ) : Type 0 where
  pub number : ℕ
  pub at : ℕ
  pub recorded : Recorded
  pub updates : x.call ≡ UpdateLocation number location
  pub answered : x.outcome ≡ Answered at recorded
  pub replaced : IsReplacedAfter ahead location at
  pub unread : (times_in ahead location).read ≤ now

-- the reads that saw the location fit these rows
abbrev pub ReadsOfLocationFit : ℕ → Database → List Observed → Type 0
ReadsOfLocationFit location u calls =
    AllByRecursion (λ (x : Observed). sees location x ≡ true → FitsAtOnce u x) calls

-- `left` are the open calls and `v` the rows after the update at a place took effect, and then the
-- reads that saw the location
pub record GoesWith (u : Database) (opened : List Observed) (place location : ℕ) (x : Observed)
    (v : Database) (left : List Observed) : Type 0 where
  pub at : slice_get opened place ≡ Some x
  pub may : MayHaveReply x.outcome (transaction x.call u).reply
  pub rows : v ≡ (transaction x.call u).database
  pub fit : ReadsOfLocationFit location v opened
  pub others : left ≡ filter (λ z. not (sees location z)) (remove opened place)

-- ---- what is left
-- some of the open calls took effect, and an update of the location then does what it would have
-- done before
pub record DropsCalls (u : Database) (opened : List Observed) (v : Database) (left : List Observed)
    : Type 0 where
  pub many : ℕ
  pub effects : CallsTakeEffect many
      (record { rows = u; opened = opened }) (record { rows = v; opened = left })
  pub alike : (call : Call) → SetsLocation u call
      → SetsLocation v call × (transaction call v ≡ transaction call u)

abbrev pub GoFirst : Database → List Observed → List Observed → Type 0
GoFirst u opened left = (v : Database) × DropsCalls u opened v left

-- of one subscriber: where some of the calls have an order to rows, so have those that pass it
abbrev pub KeepOrders : List Event → List Observed → (Observed → Bool) → Type 0
KeepOrders events opened test =
    (u after : Database) (some : List Observed) → AreOfOne u
    → ((z : Observed) → IsIn z some → IsIn z opened)
    → AreOpen events some → HasOrderTo after u events some
    → HasOrderTo after u events (filter test some)

-- `left` are those of the calls that pass a test, and no order is lost
pub record LosesNone (ahead : Ahead) (now : ℕ) (opened left : List Observed) : Type 0 where
  pub test : Observed → Bool
  pub others : left ≡ filter test opened
  pub kept : (events : List Event) → LooksAhead ahead now events → KeepOrders events opened test
