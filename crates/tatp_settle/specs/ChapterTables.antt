-- The chapters that came, in a table with a cell for each that was handed out.
use Rattle.std.specs.Prelude.{◌≡◌, ℕ, nat_lt, if◌then◌else◌, List, [], map, length, replicate, Option, Some, None, slice_get}
use Rattle.std.specs.Borrow.{Bor}
use Rattle.std.specs.List.{range_with_len}
use Rattle.std.specs.Option.{option_copied, option_map_or}
use Rattle.tatp_calls.specs.declared.entry.Entry.{Entry}
use Rattle.tatp_extents.specs.Chapters.{ChapterState}
use Rattle.tatp_settle.specs.declared.places.ChapterPlace.{ChapterPlace}
use Rattle.tatp_settle.specs.declared.log_parts.LogPart.{LogPart}
use Rattle.tatp_settle.specs.Closings.{ClosedState, chapter_count, chapter_numbered, least_above}
use Rattle.tatp_settle.specs.CallPlaces.{IsSooner, IsLeastCall, HoldsNowhere}
use Rattle.tatp_settle.specs.Placing.{cells_of}

-- the least chapter of which this holds, if it holds of any
abbrev pub IsFirstChapter : (ℕ → ℕ → Type 0) → Option ChapterPlace → Type 0
IsFirstChapter P None = HoldsNowhere P
IsFirstChapter P (Some place) = IsLeastCall P place.extent place.index

-- the chapter comes no sooner than the least one so far
abbrev pub IsChapterAtMost : Option ChapterPlace → ℕ → ℕ → Type 0
IsChapterAtMost None extent index = ⊥
IsChapterAtMost (Some place) extent index = IsSooner extent index place.extent place.index → ⊥

-- one of the chapters that the extent handed out, if it came
abbrev pub chapter_handed_out : ClosedState → ℕ → ℕ → Option ChapterState
chapter_handed_out c e i = if nat_lt i (chapter_count c e) then chapter_numbered c e i else None

-- the entries of a part; none where there is no part
abbrev pub entries_of_some : Option LogPart → List Entry
entries_of_some part = option_map_or (λ (p : LogPart). p.entries.now.entries) part []

-- a row for each number up to the least above all, with an empty cell for each chapter that was
-- handed out
abbrev pub empty_rows : ClosedState → List (List (Option (Bor ChapterState)))
empty_rows c = map (λ e. replicate (chapter_count c e) None) (range_with_len 0 (least_above c))

-- there is a row for each number up to the least above all, with a cell for each chapter that was
-- handed out
pub record HasRows (c : ClosedState) (table : List (List (Option (Bor ChapterState))))
    : Type 0 where
  pub count : length table ≡ least_above c
  pub rows : (e : ℕ) → option_map_or length (slice_get table e) 0 ≡ chapter_count c e

-- and in each cell is the first chapter of that extent and index, if one came
pub record HasChapters (c : ClosedState) (table : List (List (Option (Bor ChapterState))))
    : Type 0 where
  pub rows : HasRows c table
  pub cells : (e i : ℕ) (cell : Option (Bor ChapterState))
      → cells_of table e i ≡ Some cell → option_copied cell ≡ chapter_numbered c e i
