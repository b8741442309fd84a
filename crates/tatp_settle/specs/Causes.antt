-- Why a run isn't settled: each cause with its place, and their order.
use Rattle.std.specs.Prelude.{◌≡◌, ◌≢◌, ℕ, zero, suc, ◌<◌, ◌≤◌, ◌⊎◌, nat_lt, if◌then◌else◌, true, false, List, [], ◌∷◌, Option, Some, None, IsSome, Contains}
use Rattle.std.specs.Option.{option_map, option_map_or}
use Rattle.std.specs.Cmp.Lexicographic.{slice_cmp}
use Rattle.std.specs.Ordering.{nat_cmp}
use Rattle.std.specs.declared.cmp.Ordering.TheVariants.{Less}
use Rattle.tatp_tables.specs.Tuples.{Tuples}
use Rattle.tatp_tables.specs.declared.row.Rows.{Rows}
use Rattle.tatp_tables.specs.Database.{database_of}
use Rattle.tatp_homes.specs.Home.{SubscriberRows}
use Rattle.tatp_numbers.specs.Homes.{home_of_key}
use Rattle.tatp_audits.specs.Audits.{IsVerdict, says_clean}
use Rattle.tatp_calls.specs.declared.ask.Ask.{Ask}
use Rattle.tatp_calls.specs.declared.entry.Entry.{Entry}
use Rattle.tatp_extents.specs.Extents.{ExtentState}
use Rattle.tatp_extents.specs.Chapters.{ChapterState}
use Rattle.tatp_calls.specs.Asked.{key_asked}
use Rattle.tatp_logs.specs.declared.receipt.Receipt.{Receipt}
use Rattle.tatp_logs.specs.declared.receipt.Receipt.TheVariants.{Done, Refused}
use Rattle.tatp_settle.specs.declared.cause.Unsettled.{Unsettled}
use Rattle.tatp_settle.specs.declared.cause.Unsettled.TheVariants.{Mixed, ParcelLeft, Doubled, ChapterMissing, ChapterTwice, ChapterDiffers, CallMissing, ReceiptMissing, ReplyDiffers, StampOrder, HasHome, Audit}
use Rattle.tatp_settle.specs.Closings.{ClosedState, ExtentLog, logs_of, log_numbered, chapter_count, entries_since, times_come, chapter_numbered, times_standing, StandsAt}
use Rattle.tatp_settle.specs.Runs.{Run, homes_at_first, rows_left, at_call}
use Rattle.tatp_settle.specs.Answering.{AreMatched, EntryFound, receipt_of}
use Rattle.tatp_settle.specs.Receipts.{IsLater}

-- ---- of extents
-- a log of the extent is mixed
abbrev pub IsMixed : ClosedState → ℕ → Type 0
IsMixed c e = (log : ExtentLog) × Contains (logs_of c) log × (log.extent ≡ e) × (log.mixed ≡ true)

-- the extent came in a parcel
abbrev pub IsInParcel : ClosedState → ℕ → Type 0
IsInParcel c e = (x : ExtentState) × Contains c.parcels x × (x.number ≡ e)

-- ---- of chapters
-- the chapter is one of those that the extent handed out, and didn't come
pub record IsChapterMissing (c : ClosedState) (e i : ℕ) : Type 0 where
  pub handed_out : i < chapter_count c e
  pub missing : times_come c e i ≡ 0

-- the chapter came twice, or came and is none of those that the extent handed out
abbrev pub IsChapterTwice : ClosedState → ℕ → ℕ → Type 0
IsChapterTwice c e i =
    (2 ≤ times_come c e i) ⊎ ((1 ≤ times_come c e i) × (chapter_count c e ≤ i))

-- Part i of an extent's whole log is its chapter i; after the last chapter comes its log.
-- the homes before part i
abbrev pub homes_before : ClosedState → ℕ → ℕ → Option (List SubscriberRows)
homes_before c e i =
    if nat_lt i (chapter_count c e)
    then option_map (λ (x : ChapterState). x.before) (chapter_numbered c e i)
    else option_map (λ (log : ExtentLog). log.opening) (log_numbered c e)

-- the entries of part i, none where it is missing
abbrev pub entries_of_part : ClosedState → ℕ → ℕ → List Entry
entries_of_part c e i =
    if nat_lt i (chapter_count c e)
    then option_map_or (λ (x : ChapterState). x.entries) (chapter_numbered c e i) []
    else entries_since c e

-- the homes from which part i has to start: the population's, or those after the chapter before it
abbrev pub homes_due : Rows → ClosedState → ℕ → ℕ → Option (List SubscriberRows)
homes_due population c e zero = homes_at_first population e
homes_due population c e (suc i) =
    option_map (λ (x : ChapterState). x.after) (chapter_numbered c e i)

-- a stamp of part i isn't above one of an earlier part
pub record PartStampFalls (c : ClosedState) (e i : ℕ) : Type 0 where
  pub earlier : ℕ
  pub first : Entry
  pub second : Entry
  pub before : earlier < i
  pub in_earlier : Contains (entries_of_part c e earlier) first
  pub in_part : Contains (entries_of_part c e i) second
  pub falls : second.stamp ≤ first.stamp

-- part i, the last of which is the extent's log, doesn't start where the parts before it ended
pub record IsUnjoined (population : Rows) (c : ClosedState) (e i : ℕ) : Type 0 where
  pub within : i ≤ chapter_count c e
  pub differs
      : (homes_before c e i ≢ homes_due population c e i) ⊎ PartStampFalls c e i

-- ---- of calls
-- a call without its receipt, or a receipt without its call
abbrev pub IsUnmatched : List (List Ask) → List (List Receipt) → ℕ → ℕ → Type 0
IsUnmatched calls receipts client number =
    AreMatched client number (at_call calls client number) (at_call receipts client number) → ⊥

-- an entry of the call, and no receipt
pub record LacksReceipt (closed : ClosedState) (receipts : List (List Receipt)) (client number : ℕ)
    : Type 0 where
  pub found : EntryFound closed client number
  pub lacks : at_call receipts client number ≡ None

-- two entries of the call
pub record HasTwoEntries (closed : ClosedState) (client number : ℕ) : Type 0 where
  pub one : EntryFound closed client number
  pub other : EntryFound closed client number
  pub apart : one.extent ≡ other.extent → one.place ≢ other.place

-- an entry of the call without a receipt, or a second entry of it
abbrev pub HasEntryTooMany : ClosedState → List (List Receipt) → ℕ → ℕ → Type 0
HasEntryTooMany closed receipts client number =
    LacksReceipt closed receipts client number ⊎ HasTwoEntries closed client number

-- the receipt of a completed call, which no entry of its extent's log equals; or that of a refused
-- call, which has an entry
abbrev pub IsOtherThanLogged : ClosedState → ℕ → ℕ → Receipt → Type 0
IsOtherThanLogged closed client number (Done client' number' reply extent stamp) =
    (place : ℕ) (entry : Entry) → StandsAt closed extent place entry
    → receipt_of (record { extent = extent; entry = entry })
    ≢ Done client' number' reply extent stamp
IsOtherThanLogged closed client number (Refused client' number') = EntryFound closed client number

-- the call has such a receipt
pub record ReceiptDiffers (closed : ClosedState) (receipts : List (List Receipt))
    (client number : ℕ) : Type 0 where
  pub receipt : Receipt
  pub got : at_call receipts client number ≡ Some receipt
  pub differs : IsOtherThanLogged closed client number receipt

-- an entry of the call asks something else than the call
pub record AskDiffers (closed : ClosedState) (calls : List (List Ask)) (client number : ℕ)
    : Type 0 where
  pub found : EntryFound closed client number
  pub differs : at_call calls client number ≢ Some found.entry.ask

-- the receipt or the ask of the call isn't what its entry says
abbrev pub Differs : ClosedState → List (List Ask) → List (List Receipt) → ℕ → ℕ → Type 0
Differs closed calls receipts client number =
    ReceiptDiffers closed receipts client number ⊎ AskDiffers closed calls client number

-- the call's stamp isn't above that of an earlier call of its client
pub record StampFalls (receipts : List (List Receipt)) (client number : ℕ) : Type 0 where
  pub earlier : ℕ
  pub first : Receipt
  pub second : Receipt
  pub before : earlier < number
  pub got_first : at_call receipts client earlier ≡ Some first
  pub got_second : at_call receipts client number ≡ Some second
  pub falls : IsLater first second → ⊥

-- an entry of the call is in the log of the calls without a home, and its key names one of
-- these subscribers
pub record NamesHome (subscribers : Tuples) (closed : ClosedState) (client number : ℕ)
    : Type 0 where
  pub found : EntryFound closed client number
  pub homeless : found.extent ≡ 0
  pub names : IsSome (home_of_key subscribers (key_asked found.entry.ask))

-- ---- the causes
-- the cause holds of the run
abbrev pub Holds : Run → Unsettled → Type 0
Holds run (Mixed e) = IsMixed run.closed e
Holds run (ParcelLeft e) = IsInParcel run.closed e
Holds run (Doubled e) = 2 ≤ times_standing run.closed e
Holds run (ChapterMissing e i) = IsChapterMissing run.closed e i
Holds run (ChapterTwice e i) = IsChapterTwice run.closed e i
Holds run (ChapterDiffers e i) = IsUnjoined run.population run.closed e i
Holds run (CallMissing client number) = IsUnmatched run.calls run.receipts client number
Holds run (ReceiptMissing client number) = HasEntryTooMany run.closed run.receipts client number
Holds run (ReplyDiffers client number) = Differs run.closed run.calls run.receipts client number
Holds run (StampOrder client number) = StampFalls run.receipts client number
Holds run (HasHome client number) =
    NamesHome (database_of run.population).subscribers run.closed client number
Holds run (Audit verdict) = IsVerdict (rows_left run) verdict × (says_clean verdict ≡ false)

-- where a cause is in their order: which it is, and then the extent and the chapter's index, or
-- the client and the call number
abbrev pub place_of : Unsettled → List ℕ
place_of (Mixed e) = 0 ∷ e ∷ []
place_of (ParcelLeft e) = 1 ∷ e ∷ []
place_of (Doubled e) = 2 ∷ e ∷ []
place_of (ChapterMissing e i) = 3 ∷ e ∷ i ∷ []
place_of (ChapterTwice e i) = 4 ∷ e ∷ i ∷ []
place_of (ChapterDiffers e i) = 5 ∷ e ∷ i ∷ []
place_of (CallMissing client number) = 6 ∷ client ∷ number ∷ []
place_of (ReceiptMissing client number) = 7 ∷ client ∷ number ∷ []
place_of (ReplyDiffers client number) = 8 ∷ client ∷ number ∷ []
place_of (StampOrder client number) = 9 ∷ client ∷ number ∷ []
place_of (HasHome client number) = 10 ∷ client ∷ number ∷ []
place_of (Audit verdict) = 11 ∷ []

-- the first cause comes before the second
abbrev pub StandsBefore : Unsettled → Unsettled → Type 0
StandsBefore cause other = slice_cmp nat_cmp (place_of cause) (place_of other) ≡ Less

-- the cause holds, and none that comes before it does: so it is the first of its kind too, for the
-- least place
pub record IsFirstCause (run : Run) (cause : Unsettled) : Type 0 where
  pub holds : Holds run cause
  pub first : (other : Unsettled) → StandsBefore other cause → Holds run other → ⊥

-- no cause holds
abbrev pub HasNoCause : Run → Type 0
HasNoCause run = (cause : Unsettled) → Holds run cause → ⊥
