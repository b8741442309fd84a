-- Where no cause is found and the rows now are clean, the run is one history.
use Rattle.std.proofs.Common.{arith}
use Rattle.tatp_tables.specs.Clean.{IsClean}
use Rattle.tatp_tables.specs.Database.{database_of}
use Rattle.tatp_settle.specs.declared.cause.Unsettled.TheVariants.{CallMissing, ReplyDiffers, StampOrder, HasHome}
use Rattle.tatp_settle.specs.declared.places.LogPlace.{LogPlace}
use Rattle.tatp_settle.specs.Closings.{IsClosed}
use Rattle.tatp_settle.specs.Runs.{Run, rows_left}
use Rattle.tatp_settle.specs.CallPlaces.{HoldsNowhere}
use Rattle.tatp_settle.specs.Causes.{NamesHome}
use Rattle.tatp_settle.specs.CauseOrder.{NoneOfFirst}
use Rattle.tatp_settle.specs.Placing.{AllPlaced, Cells}
use Rattle.tatp_settle.specs.Settlements.{IsPopulationOnce, IsReceived, IsOneHistory}
use Rattle.tatp_settle.proofs.CauseLaws.{of_fewer}
use Rattle.tatp_settle.proofs.ReceivedLaws.{received}
use Rattle.tatp_settle.proofs.JoinLaws.{population_once}
use Rattle.tatp_settle.proofs.RunLaws.{runs_are_one_history}

pub one_history : (run : Run) (cells : Cells LogPlace) → IsClean run.population → IsClosed run.closed → NoneOfFirst 11 run → AllPlaced run.closed run.receipts cells → IsClean (rows_left run) → IsOneHistory run
one_history run cells population closed none placed clean =
    let homeless : HoldsNowhere (NamesHome (database_of run.population).subscribers run.closed) = λ c n h. none (HasHome c n) (omega arith) h in
    let extents : IsPopulationOnce run = population_once run closed (of_fewer run 6 11 (omega arith) none) homeless in
    let got : IsReceived run = received run cells (λ c n h. none (CallMissing c n) (omega arith) h) placed (λ c n h. none (ReplyDiffers c n) (omega arith) h) (λ c n h. none (StampOrder c n) (omega arith) h) in
    record {
      extents = extents;
      history = runs_are_one_history run population closed extents got;
      received = got;
      clean = clean;
    }
