-- What is counted of calls that conflict with open ones.
use Rattle.std.specs.Prelude.{◌≡◌, ℕ, suc, ◌+◌, ◌≤◌, nat_lt, if◌then◌else◌, List, length, map, slice_get, Option, Some, None}
use Rattle.tatp_tables.specs.Database.{Database}
use Rattle.tatp_numbers.specs.Listing.{Listing}
use Rattle.tatp_history.specs.declared.line.Line.{Line}
use Rattle.tatp_history.specs.declared.line.Line.TheVariants.{Ask, End, Abort, Lost}
use Rattle.tatp_history.specs.SubscriberEvents.{OpenCalls, no_calls, with_call, opened_after}
use Rattle.tatp_history.specs.Changes.{only_reads}
use Rattle.tatp_judge.specs.declared.asked.Asked.{Asked}
use Rattle.tatp_judge.specs.declared.conflicts.Conflicts.{Conflicts}
use Rattle.tatp_judge.specs.Population.{IsDirectoryOf}
use Rattle.tatp_judge.specs.Stakes.{IsNumberOf, MeetsConflict}
use Rattle.tatp_judge.specs.Windows.{AreCounted}

-- ---- calls that write
-- what a line says of calls that write. Where its client asks a call that only reads, the one that
-- it had open is no longer open
abbrev pub write_line : Line → Line
write_line (Ask client call) = if only_reads call then Lost client else Ask client call
write_line (End client recorded) = End client recorded
write_line (Abort client) = Abort client
write_line (Lost client) = Lost client

-- the calls that write and are open on the subscriber after the lines
abbrev pub open_writes : Database → ℕ → List Line → OpenCalls
open_writes u s lines = opened_after u s 1 no_calls (map write_line lines)

-- ... without this client's
abbrev pub other_writes : Database → ℕ → List Line → ℕ → OpenCalls
other_writes u s lines client = with_call (open_writes u s lines) client None

-- the subscriber that an open call writes to, if it writes to one
abbrev pub written : Option Asked → Option ℕ
written None = None
written (Some asked) = if asked.reads then None else asked.s_id

-- ---- how many
-- each subscriber has a place, with the number of the calls that are open on it by `opened`; and
-- `conflicted` of the lines ask a call that meets a conflict
pub record AreConflicts (u : Database) (lines : List Line) (opened : ℕ → OpenCalls)
    (conflicts : Conflicts) : Type 0 where
  pub directory : Listing
  pub places : IsDirectoryOf u (length conflicts.writing.items) directory
  pub writing_are : (place n : ℕ) → slice_get conflicts.writing.items place ≡ Some n
      → AreCounted (opened (suc place)) n
  pub few : (place n : ℕ) → slice_get conflicts.writing.items place ≡ Some n → n ≤ length lines
  pub conflicted_is : IsNumberOf conflicts.conflicted (MeetsConflict u lines)
  pub conflicted_few : conflicts.conflicted ≤ length lines

abbrev pub HasConflicts : Database → List Line → Conflicts → Type 0
HasConflicts u lines conflicts = AreConflicts u lines (λ s. open_writes u s lines) conflicts

-- ... of the writes of other clients
abbrev pub HasConflictsOfOthers : Database → List Line → ℕ → Conflicts → Type 0
HasConflictsOfOthers u lines client conflicts =
    AreConflicts u lines (λ s. other_writes u s lines client) conflicts

-- one more, where there is some conflict
abbrev pub one_more : ℕ → ℕ → ℕ
one_more conflicts n = if nat_lt 0 conflicts then n + 1 else n
