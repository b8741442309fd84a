-- The kinds of causes, in their order.
use Rattle.std.specs.Prelude.{ℕ, ◌<◌, Option, Some, None, IfNone}
use Rattle.tatp_settle.specs.declared.cause.Unsettled.{Unsettled}
use Rattle.tatp_settle.specs.declared.cause.Unsettled.TheVariants.{Mixed, ParcelLeft, Doubled, ChapterMissing, ChapterTwice, ChapterDiffers, CallMissing, ReceiptMissing, ReplyDiffers, StampOrder, HasHome, Audit}
use Rattle.tatp_settle.specs.Runs.{Run}
use Rattle.tatp_settle.specs.Causes.{Holds, IsFirstCause}
use Rattle.tatp_settle.specs.Placing.{ArePlaced}

-- which kind of cause it is, counted in their order
abbrev pub kind_of : Unsettled → ℕ
kind_of (Mixed e) = 0
kind_of (ParcelLeft e) = 1
kind_of (Doubled e) = 2
kind_of (ChapterMissing e i) = 3
kind_of (ChapterTwice e i) = 4
kind_of (ChapterDiffers e i) = 5
kind_of (CallMissing client number) = 6
kind_of (ReceiptMissing client number) = 7
kind_of (ReplyDiffers client number) = 8
kind_of (StampOrder client number) = 9
kind_of (HasHome client number) = 10
kind_of (Audit verdict) = 11

-- no cause of a kind below `kinds` holds
abbrev pub NoneOfFirst : ℕ → Run → Type 0
NoneOfFirst kinds run = (cause : Unsettled) → kind_of cause < kinds → Holds run cause → ⊥

-- the first cause, if one of a kind below `kinds` holds
abbrev pub IsFirstOf : ℕ → Run → Option Unsettled → Type 0
IsFirstOf kinds run None = NoneOfFirst kinds run
IsFirstOf kinds run (Some cause) = IsFirstCause run cause

-- where no cause of a kind below `before` holds: the first cause, if one below `kinds` does
abbrev pub IsFirstAfter : ℕ → ℕ → Run → Option Unsettled → Type 0
IsFirstAfter before kinds run cause = NoneOfFirst before run → IsFirstOf kinds run cause

-- where no extent and no chapter is a cause: the first cause that a call is by its receipt and its
-- entries; where no call is one, each entry has its place in some table of calls
pub record IsFirstInCalls (run : Run) (cause : Option Unsettled) : Type 0 where
  pub first : IsFirstAfter 6 10 run cause
  pub placed : IfNone cause (ArePlaced run.closed run.receipts)
