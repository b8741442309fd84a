-- trusted: read it
-- What was at stake in a history: how many calls it has, how they ended, and how many met others.
use Rattle.std.specs.Prelude.{◌≡◌, ℕ, ◌-◌, ◌≤◌, ◌⊎◌, Bool, true, false, List, length, take, filter, slice_get, Some, None}
use Rattle.tatp_tables.specs.Database.{Database}
use Rattle.tatp_calls.specs.declared.call.Call.{Call}
use Rattle.tatp_history.specs.declared.line.Line.{Line}
use Rattle.tatp_history.specs.declared.line.Line.TheVariants.{Ask}
use Rattle.tatp_history.specs.declared.observed.Outcome.{Outcome}
use Rattle.tatp_history.specs.declared.observed.Outcome.TheVariants.{Answered, Aborted, Unknown}
use Rattle.tatp_history.specs.declared.observed.Observed.{Observed}
use Rattle.tatp_history.specs.HistoryLines.{calls_of}
use Rattle.tatp_history.specs.Locality.{is_on}
use Rattle.tatp_history.specs.SubscriberEvents.{no_calls, opened_after}
use Rattle.tatp_history.specs.Changes.{only_reads}
use Rattle.tatp_judge.specs.declared.stakes.Stakes.{Stakes}
use Rattle.tatp_judge.specs.Windows.{IsAmong, AreEachOnce, AreCounted}

-- ---- how calls ended
abbrev pub was_answered : Outcome → Bool
was_answered (Answered at recorded) = true
was_answered (Aborted at) = false
was_answered Unknown = false

abbrev pub was_aborted : Outcome → Bool
was_aborted (Answered at recorded) = false
was_aborted (Aborted at) = true
was_aborted Unknown = false

abbrev pub is_unknown : Outcome → Bool
is_unknown (Answered at recorded) = false
is_unknown (Aborted at) = false
is_unknown Unknown = true

-- how many of the calls ended so
abbrev pub how_many : (Outcome → Bool) → List Observed → ℕ
how_many ended calls = length (filter (λ (x : Observed). ended x.outcome) calls)

-- ---- whom they were on
-- `n` numbers have the property
pub record IsNumberOf (n : ℕ) (Has : ℕ → Type 0) : Type 0 where
  pub numbers : List ℕ
  pub count : length numbers ≡ n
  pub once : AreEachOnce numbers
  pub all : (x : ℕ) → Has x → IsAmong x numbers
  pub only : (x : ℕ) → IsAmong x numbers → Has x

-- after the first `before` lines a client asks a call on the subscriber
pub record Asks (u : Database) (s : ℕ) (lines : List Line) (before client : ℕ) : Type 0 where
  pub call : Call
  pub asked : slice_get lines before ≡ Some (Ask client call)
  pub on : is_on u s call ≡ true

-- some call is on the subscriber
abbrev pub IsCalled : Database → List Line → ℕ → Type 0
IsCalled u lines s = (before client : ℕ) × Asks u s lines before client

-- ---- which met others
-- after `before` lines a client asks a call, while another client has one open on its subscriber
pub record MeetsOthers (u : Database) (lines : List Line) (before : ℕ) : Type 0 where
  pub s : ℕ
  pub client : ℕ
  pub asks : Asks u s lines before client
  pub other : ℕ
  pub apart : other ≡ client → ⊥
  pub still : opened_after u s 1 no_calls (take before lines) other ≡ None → ⊥

-- after these lines a client has this call open, which is on the subscriber
pub record HasOpen (u : Database) (s : ℕ) (lines : List Line) (client : ℕ) (call : Call)
    : Type 0 where
  pub number : ℕ
  pub still : opened_after u s 1 no_calls lines client ≡ Some number
  pub asked : slice_get lines (number - 1) ≡ Some (Ask client call)

-- after `before` lines a client asks a call, while another client has one open on its subscriber,
-- and one of the two writes
pub record MeetsConflict (u : Database) (lines : List Line) (before : ℕ) : Type 0 where
  pub s : ℕ
  pub client : ℕ
  pub asks : Asks u s lines before client
  pub other : ℕ
  pub apart : other ≡ client → ⊥
  pub met : Call
  pub still : HasOpen u s (take before lines) other met
  pub conflict : (only_reads asks.call ≡ false) ⊎ (only_reads met ≡ false)

-- on one subscriber `n` calls were open at once, and never more on any
pub record IsWidest (u : Database) (lines : List Line) (n : ℕ) : Type 0 where
  pub most : (before s k : ℕ) → before ≤ length lines
      → AreCounted (opened_after u s 1 no_calls (take before lines)) k → k ≤ n
  pub before : ℕ
  pub within : before ≤ length lines
  pub s : ℕ
  pub some : AreCounted (opened_after u s 1 no_calls (take before lines)) n

-- ---- all of it
pub record AreStakes (u : Database) (lines : List Line) (stakes : Stakes) : Type 0 where
  pub answered : stakes.answered ≡ how_many was_answered (calls_of lines)
  pub aborted : stakes.aborted ≡ how_many was_aborted (calls_of lines)
  pub unanswered : stakes.unanswered ≡ how_many is_unknown (calls_of lines)
  pub subscribers : IsNumberOf stakes.subscribers (IsCalled u lines)
  pub overlapped : IsNumberOf stakes.overlapped (MeetsOthers u lines)
  pub conflicted : IsNumberOf stakes.conflicted (MeetsConflict u lines)
  pub widest : IsWidest u lines stakes.widest
