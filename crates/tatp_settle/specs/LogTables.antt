-- The whole logs of all numbers in one list.
use Rattle.std.specs.Prelude.{◌≡◌, ℕ, List, [], length, slice_get}
use Rattle.std.specs.Option.{option_map_or}
use Rattle.tatp_calls.specs.declared.entry.Entry.{Entry}
use Rattle.tatp_settle.specs.Closings.{ClosedState, entries_numbered, least_above}

-- the whole log at a number's place, none beyond the last
abbrev pub log_in : List (List Entry) → ℕ → List Entry
log_in logs e = option_map_or (λ (log : List Entry). log) (slice_get logs e) []

-- at each number's place is its whole log, up to the least number above all, and beyond it all
-- logs are empty
pub record HasLogs (closed : ClosedState) (logs : List (List Entry)) : Type 0 where
  pub count : length logs ≡ least_above closed
  pub are : (e : ℕ) → entries_numbered closed e ≡ log_in logs e
