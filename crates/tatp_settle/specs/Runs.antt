-- A run that is to be settled: what it began with, and what it left.
use Rattle.std.specs.Prelude.{◌≡◌, ℕ, zero, suc, ◌+◌, ◌&&◌, nat_le, if◌then◌else◌, List, [], map, length, sum_by, Option, Some, None, slice_get, Vec}
use Rattle.std.specs.List.{flat_map, range_with_len}
use Rattle.std.specs.Option.{option_and_then}
use Rattle.std.specs.declared.alloc.Global.{Global}
use Rattle.tatp_tables.specs.Database.{database_of}
use Rattle.tatp_homes.specs.Home.{SubscriberRows}
use Rattle.tatp_homes.specs.Loading.{homes_in}
use Rattle.tatp_tables.specs.declared.row.Rows.{Rows}
use Rattle.tatp_calls.specs.declared.ask.Ask.{Ask}
use Rattle.tatp_calls.specs.declared.entry.Entry.{Entry}
use Rattle.tatp_extents.specs.Opening.{extent_count, homes_of_extent}
use Rattle.tatp_extents.specs.HomeRows.{rows_of_homes}
use Rattle.tatp_logs.specs.declared.receipt.Receipt.{Receipt}
use Rattle.tatp_logs.specs.Lists.{lists_of}
use Rattle.tatp_logs.specs.Receipts.{ReceiptsState, receipts_of}
use Rattle.tatp_settle.specs.declared.run.Run.{Run as HeldRun}
use Rattle.tatp_settle.specs.Closings.{ClosedState, entries_numbered, homes_numbered, moves_numbered}

-- the population's rows, what sites, parcels and chapters left, and for each client its receipts
-- and its calls
pub record Run : Type 0 where
  pub population : Rows
  pub closed : ClosedState
  pub receipts : List (List Receipt)
  pub calls : List (List Ask)

-- the run of these calls on this population that left this
abbrev pub run_of : Rows → ClosedState → List ReceiptsState → List (Vec Ask Global) → Run
run_of population closed receipts calls = record {
  population = population;
  closed = closed;
  receipts = receipts_of receipts;
  calls = lists_of calls;
}

-- the run that is at hand by references
abbrev pub shown : HeldRun → Run
shown run = run_of run.population.now run.closed.now run.receipts.now run.calls.now

-- all elements of some lists
abbrev pub joined : {A : Type 0} → List (List A) → List A
joined lists = flat_map (λ list. list) lists

-- what is kept of a client and one of its call numbers; a list that is lacking counts as empty
abbrev pub at_call : {A : Type 0} → List (List A) → ℕ → ℕ → Option A
at_call lists client number =
    option_and_then (λ list. slice_get list number) (slice_get lists client)

-- ---- the population
-- how many extents it makes
abbrev pub extents_populated : Rows → ℕ
extents_populated population = extent_count (length population.subscribers)

-- these are all its homes, in the order of its subscribers
abbrev pub AreHomesOf : Rows → List SubscriberRows → Type 0
AreHomesOf population homes =
    homes ≡ homes_in (database_of population) 1 (length population.subscribers)

-- the homes of one of its extents; none where there is no such extent
abbrev pub homes_populated : Rows → ℕ → Option (List SubscriberRows)
homes_populated population e =
    if nat_le 1 e && nat_le e (extents_populated population)
    then Some (homes_of_extent (database_of population) (length population.subscribers) e)
    else None

-- the homes from which the whole log of an extent starts: the population's; extent 0 has none
abbrev pub homes_at_first : Rows → ℕ → Option (List SubscriberRows)
homes_at_first population zero = Some []
homes_at_first population (suc e) = homes_populated population (suc e)

-- ---- what was left
-- the whole logs of the extents 0, 1 and so on, as many as the population has; extent 0 is that of
-- the calls without a home
abbrev pub logs_left : Run → List (List Entry)
logs_left run =
    map (entries_numbered run.closed) (range_with_len 0 (extents_populated run.population + 1))

-- the homes that are now where the population has its extents, extent by extent
abbrev pub homes_left : Run → List SubscriberRows
homes_left run =
    flat_map (homes_numbered run.closed) (range_with_len 1 (extents_populated run.population))

-- the rows now
abbrev pub rows_left : Run → Rows
rows_left run = rows_of_homes (homes_left run)

-- how often the extents were moved that are where the population has them, counted one by one
abbrev pub moves_left : Run → ℕ
moves_left run =
    sum_by (moves_numbered run.closed) (range_with_len 1 (extents_populated run.population))
