-- trusted: read it
-- A run whose sites, parcels, chapters and receipts are at hand: how it is settled, and why it
-- isn't.
use Rattle.std.specs.Prelude.{ℕ, List, All, Vec}
use Rattle.std.specs.declared.alloc.Global.{Global}
use Rattle.tatp_tables.specs.declared.row.Rows.{Rows}
use Rattle.tatp_calls.specs.declared.ask.Ask.{Ask}
use Rattle.tatp_settle.specs.declared.cause.Unsettled.{Unsettled as Cause}
use Rattle.tatp_settle.specs.declared.settled.Settled.{Settled}
use Rattle.tatp_settle.specs.declared.refusals.GatherError.{GatherError}
use Rattle.tatp_settle.specs.declared.refusals.GatherError.TheVariants.{ExtentMissing as NotGathered, NoMemory as NoMemoryToGather}
use Rattle.tatp_settle.specs.declared.refusals.SettleError.{SettleError}
use Rattle.tatp_settle.specs.declared.refusals.SettleError.TheVariants.{Because, NoMemory as NoMemoryToSettle}
use Rattle.tatp_settle.specs.Causes.{IsFirstCause}
use Rattle.tatp_settle.specs.Closings.{closed_of, IsClosedSite, IsClosed}
use Rattle.tatp_logs.specs.Receipts.{receipts_of}
use Rattle.tatp_logs.specs.Lists.{lists_of}
use Rattle.tatp_settle.specs.Runs.{Run, joined}
use Rattle.tatp_settle.specs.Settlements.{IsSettled, IsLeastMissing}
use Rattle.tatp_settle.specs.Interleaving.{IsOneHistoryInAnyOrder}
use Rattle.tatp_threads.specs.declared.outcome.RunOutcomeParts.{RunOutcomeParts}
use Rattle.tatp_bench.specs.declared.fault.BenchFault.{BenchFault}
use Rattle.tatp_bench.specs.declared.fault.BenchFault.TheVariants.{ExtentMissing, Unsettled, NoMemory, NoThread}

-- the run of these calls on this population that left these parts
abbrev pub run_left : Rows → RunOutcomeParts → List (Vec Ask Global) → Run
run_left population parts calls = record {
  population = population;
  closed = closed_of parts.sites.items parts.parcels.items
      (joined (lists_of parts.chapters.items));
  receipts = receipts_of parts.receipts.items;
  calls = lists_of calls;
}

-- all of it was gathered, it is settled, and it is one history in every order that keeps each log's
-- own. The order in time of their entries is such an order: so the run is linearizable
pub record SettlesRun (run : Run) (settled : Settled) : Type 0 where
  pub gathered : IsClosed run.closed
  pub settles : IsSettled run settled
  pub any_order : IsOneHistoryInAnyOrder run

-- ---- why it isn't settled
-- of the extents that a site has a place for, this is the least that is at no site and in no parcel
pub record LacksExtent (run : Run) (e : ℕ) : Type 0 where
  pub sites : All IsClosedSite run.closed.sites
  pub missing : IsLeastMissing run.closed e

-- all of it was gathered, and this cause holds of it, and none before it
pub record HasFirstCause (run : Run) (cause : Cause) : Type 0 where
  pub gathered : IsClosed run.closed
  pub first : IsFirstCause run cause

-- memory may run out at any time; no thread has to be started
abbrev pub RefusesToSettleRun : Run → BenchFault → Type 0
RefusesToSettleRun run (ExtentMissing e) = LacksExtent run e
RefusesToSettleRun run (Unsettled cause) = HasFirstCause run cause
RefusesToSettleRun run NoMemory = Unit {0}
RefusesToSettleRun run NoThread = ⊥

-- ---- each refusal of `gather` and of `settle` is the fault of its own name
abbrev pub gathering_fault : GatherError → BenchFault
gathering_fault (NotGathered e) = ExtentMissing e
gathering_fault NoMemoryToGather = NoMemory

abbrev pub settling_fault : SettleError → BenchFault
settling_fault (Because cause) = Unsettled cause
settling_fault NoMemoryToSettle = NoMemory
