-- A table with a cell for each call, in which the place of the call's entry is kept.
use Rattle.std.specs.Prelude.{◌≡◌, ℕ, ◌+◌, ◌<◌, ◌⊎◌, Bool, true, false, Option, Some, None, List, length, IfNone}
use Rattle.tatp_calls.specs.declared.entry.Entry.{Entry}
use Rattle.tatp_logs.specs.declared.receipt.Receipt.{Receipt}
use Rattle.tatp_logs.specs.Receipts.{receipts_of}
use Rattle.tatp_settle.specs.declared.places.LogPlace.{LogPlace}
use Rattle.tatp_settle.specs.declared.placement.Part.{Part}
use Rattle.tatp_settle.specs.declared.placement.Placed.{Placed}
use Rattle.tatp_settle.specs.Closings.{ClosedState, StandsAt}
use Rattle.tatp_settle.specs.Runs.{at_call}
use Rattle.tatp_settle.specs.Answering.{IsEntryOf, EntryFound}
use Rattle.tatp_settle.specs.Causes.{HasEntryTooMany, HasTwoEntries}
use Rattle.tatp_settle.specs.declared.places.CallPlace.{CallPlace}
use Rattle.tatp_settle.specs.CallPlaces.{IsSooner, IsFirstCall}

-- by row and column the cell, if there is one: empty, or filled
abbrev pub Cells : Type 0 → Type 0
Cells A = ℕ → ℕ → Option (Option A)

-- the cell of a client's call; none where the table has no such cell
abbrev pub cells_of : {A : Type 0} → List (List (Option A)) → Cells A
cells_of table client number = at_call table client number

-- there is an empty cell exactly where something is
abbrev pub IsFreshCell : {A P : Type 0} → Option A → Option (Option P) → Type 0
IsFreshCell None cell = cell ≡ None
IsFreshCell (Some x) cell = cell ≡ Some None

abbrev pub IsFresh : {A P : Type 0} → (ℕ → ℕ → Option A) → Cells P → Type 0
IsFresh lists cells = (client number : ℕ) → IsFreshCell (lists client number) (cells client number)

-- the cell was empty and has the place now, the others are kept; or it was filled or isn't there,
-- and all are kept
abbrev pub Puts : {P : Type 0} → Cells P → ℕ → ℕ → P → Bool → Cells P → Type 0
Puts before client number place true after =
    (before client number ≡ Some None)
    × (after client number ≡ Some (Some place))
    × ((c n : ℕ) → (c ≡ client → n ≡ number → ⊥) → after c n ≡ before c n)
Puts before client number place false after =
    (before client number ≡ Some None → ⊥) × ((c n : ℕ) → after c n ≡ before c n)

-- an entry of the call is at the place
pub record Points (closed : ClosedState) (client number : ℕ) (place : LogPlace) : Type 0 where
  pub entry : Entry
  pub stands : StandsAt closed place.extent place.index entry
  pub own : IsEntryOf client number entry

-- each entry is in the cell of its call, and nothing else is; each call that has a receipt has a
-- cell, and no other
pub record AllPlaced (closed : ClosedState) (receipts : List (List Receipt))
    (cells : Cells LogPlace)
    : Type 0 where
  pub some : (client number : ℕ) → cells client number ≡ None
      → at_call receipts client number ≡ None
  pub none : (client number : ℕ) → at_call receipts client number ≡ None
      → cells client number ≡ None
  pub points : (client number : ℕ) (place : LogPlace) → cells client number ≡ Some (Some place)
      → Points closed client number place
  pub placed : (extent index : ℕ) (entry : Entry) → StandsAt closed extent index entry
      → cells entry.client entry.number ≡ Some (Some (record { extent = extent; index = index }))

-- each entry has its place in some table of calls
abbrev pub ArePlaced : ClosedState → List (List Receipt) → Type 0
ArePlaced closed receipts = (cells : Cells LogPlace) × AllPlaced closed receipts cells

-- the call comes no sooner than the least one so far
abbrev pub IsAtMost : Option CallPlace → ℕ → ℕ → Type 0
IsAtMost None client number = ⊥
IsAtMost (Some place) client number = IsSooner client number place.client place.number → ⊥

-- ---- the lists of some clients that follow one another
-- the client has its list there, as the one after this many; or all later clients belong there
abbrev pub BelongsAt : List (List Receipt) → Bool → ℕ → Type 0
BelongsAt receipts last at = (at < length receipts) ⊎ (last ≡ true)

-- an entry of the call, which has this receipt: it has none, or there is a second entry
abbrev pub IsTooMany : ClosedState → Option Receipt → ℕ → ℕ → Type 0
IsTooMany closed receipt client number =
    (EntryFound closed client number × (receipt ≡ None)) ⊎ HasTwoEntries closed client number

-- the call's client belongs there, and there is an entry of it too many
pub record HasTooManyIn (closed : ClosedState) (receipts : List (List Receipt)) (first : ℕ)
    (last : Bool) (client number : ℕ) : Type 0 where
  pub at : ℕ
  pub is : first + at ≡ client
  pub belongs : BelongsAt receipts last at
  pub many : IsTooMany closed (at_call receipts at number) client number

-- each entry of a client that belongs there is in the cell of its call, or comes no sooner than
-- the least call with an entry too many; each call that has a receipt has a cell, and no other
pub record ArePlacedIn (closed : ClosedState) (receipts : List (List Receipt)) (first : ℕ)
    (last : Bool) (cells : Cells LogPlace) (least : Option CallPlace) : Type 0 where
  pub none : (at number : ℕ) → at_call receipts at number ≡ None → cells at number ≡ None
  pub some : (at number : ℕ) → cells at number ≡ None → at_call receipts at number ≡ None
  pub points : (at number : ℕ) (place : LogPlace) → cells at number ≡ Some (Some place)
      → Points closed (first + at) number place
  pub seen : (e i at : ℕ) (entry : Entry) → first + at ≡ entry.client
      → BelongsAt receipts last at → StandsAt closed e i entry
      → (cells at entry.number ≡ Some (Some (record { extent = e; index = i })))
      ⊎ IsAtMost least entry.client entry.number
  pub extra : (place : CallPlace) → least ≡ Some place
      → HasTooManyIn closed receipts first last place.client place.number

-- the table of these lists, row by row, and the least call with an entry too many
pub record IsTableOf (closed : ClosedState) (receipts : List (List Receipt)) (first : ℕ)
    (last : Bool) (made : Placed) : Type 0 where
  pub len : length made.table ≡ length receipts
  pub placed : ArePlacedIn closed receipts first last (cells_of made.table) made.extra

-- the table of a part of the clients, and the least call of theirs with an entry too many
abbrev pub IsTableOfPart : ClosedState → Part → Placed → Type 0
IsTableOfPart closed part made =
    IsTableOf closed (receipts_of part.receipts.now) part.first part.last made

-- the first call with an entry too many; where there is none, all entries are in the table
pub record ArePlacedOrExtra (closed : ClosedState) (receipts : List (List Receipt))
    (made : Placed) : Type 0 where
  pub first : IsFirstCall (HasEntryTooMany closed receipts) made.extra
  pub all : IfNone made.extra (AllPlaced closed receipts (cells_of made.table))
