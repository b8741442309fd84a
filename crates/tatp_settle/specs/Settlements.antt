-- trusted: read it
-- What a settled run is, and what it counts; what gathering and settling refuse.
use Rattle.std.specs.Prelude.{◌≡◌, ℕ, ◌<◌, ◌≤◌, not, true, List, [], map, count_by, sum_by, Some}
use Rattle.std.specs.List.{range_with_len}
use Rattle.std.specs.Option.{is_some}
use Rattle.tatp_tables.specs.Clean.{IsClean}
use Rattle.tatp_tables.specs.Database.{database_of}
use Rattle.tatp_homes.specs.Home.{SubscriberRows}
use Rattle.tatp_audits.specs.declared.verdict.Verdict.{Verdict}
use Rattle.tatp_audits.specs.Audits.{IsVerdict, clean_of, says_clean}
use Rattle.tatp_tables.specs.declared.row.Rows.{Rows}
use Rattle.tatp_calls.specs.declared.ask.Ask.{Ask}
use Rattle.tatp_calls.specs.declared.entry.Entry.{Entry}
use Rattle.tatp_extents.specs.Histories.{StampsRise}
use Rattle.tatp_extents.specs.Extents.{ExtentState}
use Rattle.tatp_extents.specs.Chapters.{Joins}
use Rattle.tatp_logs.specs.declared.receipt.Receipt.{Receipt}
use Rattle.tatp_settle.specs.declared.settled.Settled.{Settled}
use Rattle.tatp_settle.specs.declared.refusals.GatherError.{GatherError}
use Rattle.tatp_settle.specs.declared.refusals.GatherError.TheVariants.{ExtentMissing, NoMemory as NoMemoryToGather}
use Rattle.tatp_settle.specs.declared.refusals.SettleError.{SettleError}
use Rattle.tatp_settle.specs.declared.refusals.SettleError.TheVariants.{Because, NoMemory}
use Rattle.tatp_settle.specs.Closings.{ClosedState, ExtentLog, IsMissing, extents_of, times_standing, log_numbered, chapter_count, times_come, chapters_numbered, entries_numbered, StandsAt}
use Rattle.tatp_settle.specs.Merging.{OneHistory}
use Rattle.tatp_settle.specs.Runs.{Run, at_call, homes_at_first, joined, logs_left, rows_left}
use Rattle.tatp_settle.specs.Answering.{AreMatched, IsAnswered, HasReceipt, EntriesStandOnce, is_of_kind}
use Rattle.tatp_settle.specs.Receipts.{is_done}
use Rattle.tatp_settle.specs.CallPlaces.{HoldsNowhere}
use Rattle.tatp_settle.specs.Causes.{IsMixed, StampFalls, NamesHome, IsFirstCause}

-- each extent of the population is there once, at a site and unmixed, and no other is; the chapters
-- that it handed out came once each, and no other did; these, joined end to end, lead from the
-- population's homes to those from which its log continues, with stamps that rise through them all;
-- and no call that was logged without a home names a subscriber of the population
pub record IsPopulationOnce (run : Run) : Type 0 where
  pub unmixed : (e : ℕ) → IsMixed run.closed e → ⊥
  pub landed : run.closed.parcels ≡ []
  pub once : (e : ℕ) → times_standing run.closed e ≤ 1
  pub stands : (e : ℕ)
      → is_some (log_numbered run.closed e) ≡ is_some (homes_at_first run.population e)
  pub came : (e i : ℕ) → i < chapter_count run.closed e → times_come run.closed e i ≡ 1
  pub no_other : (e i : ℕ) → chapter_count run.closed e ≤ i → times_come run.closed e i ≡ 0
  pub joined : (e : ℕ) (log : ExtentLog) (homes : List SubscriberRows)
      → log_numbered run.closed e ≡ Some log
      → homes_at_first run.population e ≡ Some homes
      → Joins homes (chapters_numbered run.closed e) log.opening
  pub rise : (e : ℕ) → StampsRise 0 (entries_numbered run.closed e)
  pub homeless
      : HoldsNowhere (NamesHome (database_of run.population).subscribers run.closed)

-- each client's receipts are its calls in order, with stamps that rise, and each entry has its
-- receipt
pub record IsReceived (run : Run) : Type 0 where
  pub matched : (client number : ℕ)
      → AreMatched client number (at_call run.calls client number)
      (at_call run.receipts client number)
  pub answered : (client number : ℕ) (ask : Ask) (receipt : Receipt)
      → at_call run.calls client number ≡ Some ask
      → at_call run.receipts client number ≡ Some receipt → IsAnswered run.closed ask receipt
  pub known : (e place : ℕ) (entry : Entry) → StandsAt run.closed e place entry
      → HasReceipt run.receipts (record { extent = e; entry = entry })
  pub once : EntriesStandOnce run.closed
  pub rising : HoldsNowhere (StampFalls run.receipts)

-- the logs are one history of transactions, from the population to the rows now, which are clean;
-- and it is what the clients received
pub record IsOneHistory (run : Run) : Type 0 where
  pub extents : IsPopulationOnce run
  pub history : OneHistory (database_of run.population) (logs_left run)
      (database_of (rows_left run))
  pub received : IsReceived run
  pub clean : IsClean (rows_left run)

-- the verdict is that on the rows
pub record IsAuditOf (rows : Rows) (verdict : Verdict) : Type 0 where
  pub told : IsVerdict rows verdict
  pub clean : says_clean verdict ≡ true → IsClean rows
  pub counts : IsClean rows → verdict ≡ clean_of rows

-- ---- what is counted
-- how many calls were completed, and to how many memory was refused
abbrev pub completed : Run → ℕ
completed run = count_by is_done (joined run.receipts)

abbrev pub refused : Run → ℕ
refused run = count_by (λ receipt. not (is_done receipt)) (joined run.receipts)

-- how many calls there were of each kind, in the order of the mix
abbrev pub calls_by_kind : Run → List ℕ
calls_by_kind run = map (λ kind. count_by (is_of_kind kind) (joined run.calls)) (range_with_len 0 7)

-- how often extents were moved
abbrev pub moves_made : Run → ℕ
moves_made run = sum_by (λ (x : ExtentState). x.moves) (extents_of run.closed)

-- the run is one history, and these are its counts
pub record IsSettled (run : Run) (settled : Settled) : Type 0 where
  pub one_history : IsOneHistory run
  pub completed : settled.completed ≡ completed run
  pub refused : settled.refused ≡ refused run
  pub kinds : settled.kinds ≡ calls_by_kind run
  pub verdict : settled.verdict ≡ clean_of (rows_left run)
  pub moves : settled.moves ≡ moves_made run

-- these are the run's counts of its calls: how many were completed, to how many memory was refused,
-- and how many there were of each kind
pub record AreCountsOf (run : Run) (counts : (ℕ × ℕ) × List ℕ) : Type 0 where
  pub completed : counts.0.0 ≡ completed run
  pub refused : counts.0.1 ≡ refused run
  pub kinds : counts.1 ≡ calls_by_kind run

-- ---- what is refused
-- the extent is missing, and none before it is
pub record IsLeastMissing (c : ClosedState) (e : ℕ) : Type 0 where
  pub missing : IsMissing c e
  pub least : (other : ℕ) → other < e → IsMissing c other → ⊥

-- why nothing is gathered
abbrev pub RefusesToGather : ClosedState → GatherError → Type 0
RefusesToGather c (ExtentMissing e) = IsLeastMissing c e
RefusesToGather c NoMemoryToGather = Unit {0}

-- why a run isn't settled
abbrev pub RefusesToSettle : Run → SettleError → Type 0
RefusesToSettle run (Because cause) = IsFirstCause run cause
RefusesToSettle run NoMemory = Unit {0}
