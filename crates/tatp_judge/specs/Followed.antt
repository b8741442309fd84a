-- What the judge keeps of the lines that it has followed.
use Rattle.std.specs.Prelude.{◌≡◌, ◌↔◌, ℕ, suc, ◌+◌, ◌-◌, ◌^◌, ◌<◌, ◌≤◌, ◌⊎◌, nat_eq, Bool, IsTrue, false, List, length, take, slice_get, Option, Some, None}
use Rattle.indexmap.specs.IndexMap.{get}
use Rattle.tatp_tables.specs.Database.{Database}
use Rattle.tatp_procs.specs.Consistent.{IsConsistent}
use Rattle.tatp_history.specs.declared.line.Line.{Line}
use Rattle.tatp_history.specs.declared.observed.Outcome.{Outcome}
use Rattle.tatp_history.specs.HistoryLines.{calls_of, AreAcceptedLines}
use Rattle.tatp_history.specs.Locality.{FailsWithout, FailWithout}
use Rattle.tatp_judge.specs.declared.asked.Asked.{Asked}
use Rattle.tatp_judge.specs.declared.judge.Judge.{Judge}
use Rattle.tatp_judge.specs.declared.window.Window.{Window}
use Rattle.tatp_judge.specs.Asked.{asked_in_all}
use Rattle.tatp_judge.specs.Aside.{AreSetAside}
use Rattle.tatp_judge.specs.Population.{IsDirectoryOf}
use Rattle.tatp_judge.specs.Verdicts.{IsUnexplained}
use Rattle.tatp_judge.specs.Windows.{IsForgotten, IsKept, IsSpent}

-- the rows at the end may be asked for of each window that isn't set aside, exactly where the judge
-- was told that they may be
abbrev pub AreAllExact : Judge → Type 0
AreAllExact judge = (place : ℕ) (w : Window) → slice_get judge.windows.items place ≡ Some w
    → w.aside ≡ false → w.explanations.exact ≡ judge.exact

-- it has read these lines of a history that begins with the database
pub record HasRead (u : Database) (lines : List Line) (judge : Judge) : Type 0 where
  pub consistent : IsConsistent u
  pub directory_is : IsDirectoryOf u (length judge.windows.items) judge.directory
  pub number_is : judge.number ≡ length lines
  pub accepted : AreAcceptedLines lines
  pub room : length lines + 1 < 2 ^ 64
  pub exact_are : AreAllExact judge

-- open calls and windows are those after the lines
pub record HasNoted (u : Database) (most : ℕ) (lines : List Line) (judge : Judge) : Type 0 where
  pub read : HasRead u lines judge
  pub asked_are : (client : ℕ) → get nat_eq judge.asked client ≡ asked_in_all u lines client
  pub windows_are : (place : ℕ) (w : Window) → slice_get judge.windows.items place ≡ Some w
      → IsKept u most (suc place) lines w
  pub aside : AreSetAside u most lines judge

-- each window in which no call is open is forgotten, but for that of one subscriber, and for those
-- that are set aside
abbrev pub Forgets : Judge → Option ℕ → Type 0
Forgets judge but = (place : ℕ) (w : Window) → slice_get judge.windows.items place ≡ Some w
    → (but ≡ Some (suc place) → ⊥) → w.aside ≡ false → w.waiting ≡ 0 → IsForgotten w

-- it has followed the lines, which decided nothing: each call that names no subscriber and was
-- answered failed with 1
pub record HasFollowed (u : Database) (most : ℕ) (lines : List Line) (judge : Judge)
    : Type 0 where
  pub noted : HasNoted u most lines judge
  pub forgets : Forgets judge None
  pub none : FailWithout u (calls_of lines)

-- the last of the lines ends an open call with this outcome: before it, calls that name no
-- subscriber failed; after it, they all did exactly where this one did, if it is one of them
pub record EndsAs (u : Database) (lines : List Line) (asked : Asked) (outcome : Outcome)
    : Type 0 where
  pub some : 1 ≤ length lines
  pub before : FailWithout u (calls_of (take (length lines - 1) lines))
  pub now : FailsWithout asked.s_id outcome ↔ FailWithout u (calls_of lines)

-- there is a last line, and each answered call that names no subscriber failed with 1
pub record EndsOn (u : Database) (lines : List Line) : Type 0 where
  pub some : 1 ≤ length lines
  pub none : FailWithout u (calls_of lines)

-- what a search for the first illegal line begins with. Where the lines are known to be illegal,
-- this subscriber's calls are why, and its window may be spent. Where no subscriber is given, a
-- call that names none is why, and the last line is the first illegal one
pub record IsSearchable (u : Database) (most : ℕ) (lines : List Line) (illegal : Bool)
    (s_id : Option ℕ) (judge : Judge) : Type 0 where
  pub read : HasRead u lines judge
  pub windows_are : (place : ℕ) (w : Window) → slice_get judge.windows.items place ≡ Some w
      → IsKept u most (suc place) lines w
      ⊎ (IsTrue illegal × (s_id ≡ Some (suc place)) × (w.aside ≡ false)
      × IsSpent u (suc place) lines w)
  pub aside : AreSetAside u most lines judge
  pub none : (k : ℕ) → k ≤ length lines → (IsTrue illegal → s_id ≡ None → k < length lines)
      → FailWithout u (calls_of (take k lines))
  pub some : IsTrue illegal → 1 ≤ length lines
  pub whose : IsTrue illegal → IsUnexplained u lines (length lines) s_id

-- what it keeps is that of these lines, as a search finds it
pub record HasKept (u : Database) (lines : List Line) (judge : Judge) : Type 0 where
  pub most : ℕ
  pub illegal : Bool
  pub s_id : Option ℕ
  pub searchable : IsSearchable u most lines illegal s_id judge
