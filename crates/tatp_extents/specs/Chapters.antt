-- Chapters: what an extent's log was between two checkpoints.
use Rattle.std.specs.Prelude.{◌≡◌, ℕ, zero, suc, ◌+◌, ◌-◌, ◌<◌, nat_lt, if◌then◌else◌, true, false, All, List, [], ◌∷◌, Option, Some, Result, Ok, Err, refl}
use Rattle.std.specs.List.{flat_map, range_with_len}
use Rattle.std.specs.Option.{option_map, option_to_list}
use Rattle.std.specs.Coded.{Coded, code_by, coded×, coded_ℕ, coded_list}
use Rattle.tatp_limits.specs.declared.limits.TheConstants.{MAX_EXTENT_CHAPTERS}
use Rattle.tatp_homes.specs.Home.{SubscriberRows, subscriber_rows_code}
use Rattle.tatp_calls.specs.declared.entry.Entry.{Entry}
use Rattle.tatp_calls.specs.contracts.entry.Entry as entry
use Rattle.tatp_extents.specs.declared.chapter.CheckpointError.{CheckpointError}
use Rattle.tatp_extents.specs.declared.chapter.CheckpointError.TheVariants.{LogEnded, ChapterCountFull, NoMemory}
use Rattle.tatp_extents.specs.Histories.{Leads, StampsRise, IsHistory}
use Rattle.tatp_logs.specs.Logs.{last_stamp_from}
use Rattle.tatp_extents.specs.Extents.{ExtentState, AreHomesOfExtent, last_stamp_of}
use Rattle.tatp_extents.specs.HomelessLog.{HomelessState, IsHomelessHistory, last_homeless_stamp}

-- what contracts see of a chapter: whose it is, how many were handed out before it, and the calls
-- that led from the homes before to the homes after
pub record ChapterState : Type 0 where
  pub extent : ℕ
  pub index : ℕ
  pub before : List SubscriberRows
  pub entries : List Entry
  pub after : List SubscriberRows

abbrev pub chapter_state_code : Coded ChapterState
chapter_state_code =
    let homes = coded_list subscriber_rows_code in
    let entries = coded_list entry.the_row.coded in
    code_by (ℕ × (ℕ × (List SubscriberRows × (List Entry × List SubscriberRows))))
    (coded× coded_ℕ (coded× coded_ℕ (coded× homes (coded× entries homes))))
    (λ c. (c.extent, (c.index, (c.before, (c.entries, c.after)))))
    (λ p. record {
      extent = p.0;
      index = p.1.0;
      before = p.1.1.0;
      entries = p.1.1.1.0;
      after = p.1.1.1.1;
    })
    (λ _. refl)

-- a chapter of an extent with homes: its entries are the history that leads from the homes before
-- to those after
pub record IsChapterOfHomes (c : ChapterState) : Type 0 where
  pub of_extent : AreHomesOfExtent c.extent c.before c.after
  pub history : IsHistory 0 c.before c.entries c.after

-- a chapter of the calls without a home, which count as extent 0
pub record IsChapterWithoutHomes (c : ChapterState) : Type 0 where
  pub before : c.before ≡ []
  pub after : c.after ≡ []
  pub history : IsHomelessHistory 0 c.entries

abbrev pub IsChapterOf : ℕ → ChapterState → Type 0
IsChapterOf zero c = IsChapterWithoutHomes c
IsChapterOf (suc e) c = IsChapterOfHomes c

-- what holds of every chapter
pub record IsChapter (c : ChapterState) : Type 0 where
  pub few : c.index < MAX_EXTENT_CHAPTERS
  pub history : IsChapterOf c.extent c

-- ---- a checkpoint of an extent
-- the chapter that an extent hands out
abbrev pub chapter_of : ExtentState → ChapterState
chapter_of x = record {
  extent = x.number;
  index = x.chapters;
  before = x.opening;
  entries = x.log;
  after = x.homes;
}

-- the extent after it
abbrev pub after_checkpoint : ExtentState → ExtentState
after_checkpoint x = record x {
  chapters = x.chapters + 1;
  kept_stamp = last_stamp_of x;
  opening = x.homes;
  log = [];
}

-- what a checkpoint answers and changes
abbrev pub CheckpointsExtent
    : ExtentState → Result ChapterState CheckpointError → ExtentState → Type 0
CheckpointsExtent x (Ok chapter) x' =
    (x.mixed ≡ false)
    × (x.chapters < MAX_EXTENT_CHAPTERS)
    × (chapter ≡ chapter_of x)
    × (x' ≡ after_checkpoint x)
CheckpointsExtent x (Err LogEnded) x' = (x.mixed ≡ true) × (x' ≡ x)
CheckpointsExtent x (Err ChapterCountFull) x' =
    (x.mixed ≡ false) × (x.chapters ≡ MAX_EXTENT_CHAPTERS) × (x' ≡ x)
CheckpointsExtent x (Err NoMemory) x' =
    (x.mixed ≡ false) × (x.chapters < MAX_EXTENT_CHAPTERS) × (x' ≡ x)

-- ---- a checkpoint of the log of calls without a home
abbrev pub homeless_chapter_of : HomelessState → ChapterState
homeless_chapter_of h = record {
  extent = 0;
  index = h.chapters;
  before = [];
  entries = h.log;
  after = [];
}

-- memory for more entries isn't kept
pub record IsHomelessAfterCheckpoint (h h' : HomelessState) : Type 0 where
  pub mixed : h'.mixed ≡ false
  pub chapters : h'.chapters ≡ h.chapters + 1
  pub kept_stamp : h'.kept_stamp ≡ last_homeless_stamp h
  pub log : h'.log ≡ []

abbrev pub CheckpointsHomeless
    : HomelessState → Result ChapterState CheckpointError → HomelessState → Type 0
CheckpointsHomeless h (Ok chapter) h' =
    (h.mixed ≡ false)
    × (h.chapters < MAX_EXTENT_CHAPTERS)
    × (chapter ≡ homeless_chapter_of h)
    × IsHomelessAfterCheckpoint h h'
CheckpointsHomeless h (Err LogEnded) h' = (h.mixed ≡ true) × (h' ≡ h)
CheckpointsHomeless h (Err ChapterCountFull) h' =
    (h.mixed ≡ false) × (h.chapters ≡ MAX_EXTENT_CHAPTERS) × (h' ≡ h)
CheckpointsHomeless h (Err NoMemory) h' = ⊥

-- ---- chapters joined end to end
-- from these homes to those: each chapter's homes before are the homes after of the one before it
abbrev pub Joins : List SubscriberRows → List ChapterState → List SubscriberRows → Type 0
Joins before [] after = after ≡ before
Joins before (c ∷ more) after = (c.before ≡ before) × Joins c.after more after

-- their entries
abbrev pub entries_joined : List ChapterState → List Entry
entries_joined chapters = flat_map (λ (c : ChapterState). c.entries) chapters

-- each leads from its homes before to its homes after
abbrev pub EachLeads : List ChapterState → Type 0
EachLeads chapters = All (λ (c : ChapterState). Leads c.before c.entries c.after) chapters

-- each chapter's stamps rise from the last before it, and so do those of a log after them
abbrev pub EachRises : ℕ → List ChapterState → List Entry → Type 0
EachRises least [] log = StampsRise least log
EachRises least (c ∷ more) log =
    StampsRise least c.entries × EachRises (last_stamp_from least c.entries) more log

-- ---- chapters that are found by their numbers
abbrev pub chapters_listed : (ℕ → Option ChapterState) → ℕ → ℕ → List ChapterState
chapters_listed at first count = flat_map (λ i. option_to_list (at i)) (range_with_len first count)

-- the homes from which the part of this number has to start: the first part from these, any other
-- from those after the one before it
abbrev pub homes_due_from
    : (ℕ → Option ChapterState) → ℕ → List SubscriberRows → ℕ → Option (List SubscriberRows)
homes_due_from at first homes i =
    if nat_lt first i then option_map (λ (c : ChapterState). c.after) (at (i - 1)) else Some homes
