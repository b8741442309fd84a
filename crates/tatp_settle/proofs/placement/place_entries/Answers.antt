use Rattle.std.proofs.Common.{List, true, Result, Ok, Err, None, Some, IfOk, IfNone, Option}
use Rattle.std.specs.declared.alloc.AllocError.{AllocError}
use Rattle.tatp_logs.specs.declared.receipt.Receipt.{Receipt}
use Rattle.tatp_settle.specs.declared.places.CallPlace.{CallPlace}
use Rattle.tatp_settle.specs.declared.places.LogPlace.{LogPlace}
use Rattle.tatp_settle.specs.declared.placement.Placed.{Placed}
use Rattle.tatp_settle.specs.Closings.{ClosedState}
use Rattle.tatp_logs.specs.Receipts.{receipts_of}
use Rattle.tatp_settle.specs.Placing.{cells_of, AllPlaced, ArePlacedIn, ArePlacedOrExtra, Cells, IsTableOf}
use Rattle.tatp_settle.proofs.PlacingLaws.{placed_all, placed_end}
use Rattle.tatp_settle.proofs.placement.place_entries.Goals as goal

-- where there is no entry too many, all are placed
all_unless : (closed : ClosedState) (receipts : List (List Receipt)) (cells : Cells LogPlace) (extra : Option CallPlace) → ArePlacedIn closed receipts 0 true cells extra → IfNone extra (AllPlaced closed receipts cells)
all_unless closed receipts cells None h = placed_all closed receipts cells h
all_unless closed receipts cells (Some place) h = tt

of_everyone : (closed : ClosedState) (receipts : List (List Receipt)) (told : Result Placed AllocError) → IfOk told (IsTableOf closed receipts 0 true) → IfOk told (ArePlacedOrExtra closed receipts)
of_everyone closed receipts (Ok placed) h = record {
  first = placed_end closed receipts (cells_of placed.table) placed.extra h.placed;
  all = all_unless closed receipts (cells_of placed.table) placed.extra h.placed;
}
of_everyone closed receipts (Err e) h = tt

pub returns : goal.returns
returns g c = of_everyone c.args.logs.now (receipts_of c.args.receipts.now) c.place_part.result c.place_part.ensures
