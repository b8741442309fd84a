-- trusted: read it
-- Any order of the entries of many logs that keeps the order of each log.
use Rattle.std.specs.Prelude.{List, [], ◌∷◌}
use Rattle.tatp_tables.specs.Database.{Database, database_of}
use Rattle.tatp_calls.specs.declared.entry.Entry.{Entry}
use Rattle.tatp_settle.specs.Merging.{PlacedEntry, Begins, AllAreEmpty, without_first}
use Rattle.tatp_settle.specs.Merging.{IsAnsweredInOrder}
use Rattle.tatp_settle.specs.Runs.{Run, logs_left, rows_left}

-- the history takes, while entries are left, the first entry of any log. The log of extent e is
-- at e
abbrev pub Interleaves : List (List Entry) → List PlacedEntry → Type 0
Interleaves logs [] = AllAreEmpty logs
Interleaves logs (p ∷ more) = Begins logs p × Interleaves (without_first logs p.extent) more

-- whichever such history is taken, its entries are transactions, which, one after another from the
-- first database on, are answered as they were logged and lead to the second
abbrev pub IsAnsweredInAnyOrder : Database → List (List Entry) → Database → Type 0
IsAnsweredInAnyOrder before logs after =
    (history : List PlacedEntry) → Interleaves logs history → IsAnsweredInOrder before history after

-- this holds of the logs that a run left, from the population to the rows now
abbrev pub IsOneHistoryInAnyOrder : Run → Type 0
IsOneHistoryInAnyOrder run =
    IsAnsweredInAnyOrder (database_of run.population) (logs_left run) (database_of (rows_left run))
