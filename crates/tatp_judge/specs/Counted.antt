-- What the judge counts of the lines that it has followed.
use Rattle.std.specs.Prelude.{◌≡◌, ℕ, suc, ◌<◌, ◌≤◌, Bool, true, false, List, length, slice_get, Option, Some, None}
use Rattle.tatp_tables.specs.Database.{Database}
use Rattle.tatp_calls.specs.declared.call.Call.{Call}
use Rattle.tatp_history.specs.declared.line.Line.{Line}
use Rattle.tatp_history.specs.HistoryLines.{calls_of}
use Rattle.tatp_history.specs.Locality.{subscriber_of}
use Rattle.tatp_history.specs.SubscriberEvents.{no_calls, opened_after}
use Rattle.tatp_judge.specs.declared.asked.Asked.{Asked}
use Rattle.tatp_judge.specs.declared.stakes.Counts.{Counts}
use Rattle.tatp_judge.specs.Conflicts.{HasConflicts}
use Rattle.tatp_judge.specs.Steps.{fewer}
use Rattle.tatp_judge.specs.Windows.{AreCounted}
use Rattle.tatp_judge.specs.Stakes.{how_many, was_answered, was_aborted, IsNumberOf, IsCalled, MeetsOthers, IsWidest}

-- whether there is an open call
abbrev pub has_call : Option Asked → Bool
has_call None = false
has_call (Some asked) = true

-- `n` of the calls open on the subscriber aren't this client's
pub record AreOthersOn (u : Database) (s client : ℕ) (lines : List Line) (n : ℕ)
    : Type 0 where
  pub all : ℕ
  pub counted : AreCounted (opened_after u s 1 no_calls lines) all
  pub others : n ≡ fewer (opened_after u s 1 no_calls lines client) all
  pub few : n ≤ length lines

-- each subscriber has a place, which says whether a call was on it
pub record AreMarked (u : Database) (lines : List Line) (called : List Bool) : Type 0 where
  pub within : (call : Call) (s : ℕ) → subscriber_of u call ≡ Some s
      → (1 ≤ s) × (s ≤ length called)
  pub marked : (place : ℕ) → slice_get called place ≡ Some true → IsCalled u lines (suc place)
  pub all : (place : ℕ) → place < length called → IsCalled u lines (suc place)
      → slice_get called place ≡ Some true

-- the counts are those of the lines' calls, whether or not they conflict
pub record HasCountedCalls (u : Database) (lines : List Line) (counts : Counts) : Type 0 where
  pub asked_is : counts.asked ≡ length (calls_of lines)
  pub answered_is : counts.answered ≡ how_many was_answered (calls_of lines)
  pub aborted_is : counts.aborted ≡ how_many was_aborted (calls_of lines)
  pub marks : AreMarked u lines counts.called.items
  pub subscribers_is : IsNumberOf counts.subscribers (IsCalled u lines)
  pub subscribers_few : counts.subscribers ≤ length lines
  pub overlapped_is : IsNumberOf counts.overlapped (MeetsOthers u lines)
  pub overlapped_few : counts.overlapped ≤ length lines
  pub widest_is : IsWidest u lines counts.widest
  pub widest_few : counts.widest ≤ length lines

-- ... and of the calls that met a conflict
pub record HasCounted (u : Database) (lines : List Line) (counts : Counts) : Type 0 where
  pub calls : HasCountedCalls u lines counts
  pub conflicts : HasConflicts u lines counts.conflicts
