-- The search for calls whose receipt or ask isn't what their entry says.
use Rattle.std.specs.Prelude.{ℕ}
use Rattle.tatp_logs.specs.Receipts.{receipts_of}
use Rattle.tatp_settle.specs.declared.differences.Differing.{Differing}
use Rattle.tatp_settle.specs.CallPlaces.{HoldsNowhere}
use Rattle.tatp_settle.specs.Causes.{Differs, IsUnmatched}
use Rattle.tatp_settle.specs.Placing.{AllPlaced, cells_of}
use Rattle.tatp_logs.specs.Lists.{lists_of}

-- the receipt or the ask of the call isn't what its entry says
abbrev pub DiffersIn : Differing → ℕ → ℕ → Type 0
DiffersIn s client number =
    Differs s.logs.now (lists_of s.calls.now) (receipts_of s.receipts.now) client number

-- each call has its receipt, and each entry is in the table
pub record IsReady (s : Differing) : Type 0 where
  pub matched : HoldsNowhere (IsUnmatched (lists_of s.calls.now) (receipts_of s.receipts.now))
  pub placed : AllPlaced s.logs.now (receipts_of s.receipts.now) (cells_of s.table.now)
