-- A checkpoint: an extent of a site, or its log of calls without a home, hands out a chapter.
use Rattle.std.specs.Prelude.{◌≡◌, ℕ, zero, suc, ◌+◌, ◌==◌, Bool, false, if◌then◌else◌, List, [], ◌∷◌, is_some, is_none, Option, Some, None, Result, Ok, Err}
use Rattle.std.specs.Option.{option_map, option_map_or}
use Rattle.tatp_limits.specs.declared.limits.TheConstants.{MAX_EXTENT_CHAPTERS}
use Rattle.tatp_calls.specs.declared.entry.Entry.{Entry}
use Rattle.tatp_logs.specs.Logs.{last_stamp_from}
use Rattle.tatp_extents.specs.Extents.{ExtentState}
use Rattle.tatp_extents.specs.declared.chapter.CheckpointError.{CheckpointError}
use Rattle.tatp_extents.specs.declared.chapter.CheckpointError.TheVariants as error
use Rattle.tatp_extents.specs.Chapters.{ChapterState, chapter_of, after_checkpoint}
use Rattle.tatp_partition.specs.declared.refusal.SiteRefusal.{SiteRefusal}
use Rattle.tatp_partition.specs.declared.refusal.SiteRefusal.TheVariants.{Running, NotHere, LogEnded, ChapterCountFull, NoMemory}
use Rattle.tatp_partition.specs.Sites.{SiteState, HomelessCalls, slot, last_stamp_here}
use Rattle.tatp_partition.specs.Obstacles.{first_of}
use Rattle.tatp_partition.specs.Moving.{with_extent}

-- what is seen of a log here: whether it is mixed, how many chapters it handed out, its entries
pub record LogHere : Type 0 where
  pub mixed : Bool
  pub chapters : ℕ
  pub entries : List Entry

abbrev pub log_of : ExtentState → LogHere
log_of x = record { mixed = x.mixed; chapters = x.chapters; entries = x.log }

abbrev pub log_of_homeless : HomelessCalls → LogHere
log_of_homeless h = record { mixed = h.mixed; chapters = h.chapters; entries = h.log }

-- the log of an extent, if it is here; that of the calls without a home, which partition 0 keeps,
-- counts as that of extent 0
abbrev pub log_here : SiteState → ℕ → Option LogHere
log_here s zero = if s.partition == 0 then Some (log_of_homeless s.homeless) else None
log_here s (suc e) = option_map log_of (slot s.slots (suc e))

-- its entries, none where it isn't here
abbrev pub entries_here : SiteState → ℕ → List Entry
entries_here s e = option_map_or (λ (l : LogHere). l.entries) (log_here s e) []

abbrev pub has_ended : Option LogHere → Bool
has_ended log = option_map_or (λ (l : LogHere). l.mixed) log false

abbrev pub is_chapter_count_full : Option LogHere → Bool
is_chapter_count_full log =
    option_map_or (λ (l : LogHere). l.chapters == MAX_EXTENT_CHAPTERS) log false

-- why this log hands out no chapter, if it doesn't
abbrev pub log_obstacle : Bool → Option LogHere → Option SiteRefusal
log_obstacle running log = first_of (
    record { holds = running; refusal = Running }
    ∷ record { holds = is_none log; refusal = NotHere }
    ∷ record { holds = has_ended log; refusal = LogEnded }
    ∷ record { holds = is_chapter_count_full log; refusal = ChapterCountFull }
    ∷ [])

abbrev pub checkpoint_obstacle : SiteState → ℕ → Option SiteRefusal
checkpoint_obstacle s e = log_obstacle (is_some s.running) (log_here s e)

-- the log of calls without a home after a checkpoint
abbrev pub homeless_after_checkpoint : HomelessCalls → HomelessCalls
homeless_after_checkpoint h = record {
  mixed = false;
  chapters = h.chapters + 1;
  kept_stamp = last_stamp_from h.kept_stamp h.log;
  log = [];
}

-- the chapter that they hand out
abbrev pub chapter_of_homeless : HomelessCalls → ChapterState
chapter_of_homeless h = record {
  extent = 0;
  index = h.chapters;
  before = [];
  entries = h.log;
  after = [];
}

-- the chapter that is handed out, and the site after it: no home changes, and no last stamp
abbrev pub HandsOut : SiteState → ℕ → ChapterState → SiteState → Type 0
HandsOut s zero chapter s' =
    (chapter ≡ chapter_of_homeless s.homeless)
    × (s' ≡ record s { homeless = homeless_after_checkpoint s.homeless })
HandsOut s (suc e) chapter s' =
    (x : ExtentState)
    × (slot s.slots (suc e) ≡ Some x)
    × (chapter ≡ chapter_of x)
    × (s' ≡ with_extent s (suc e) (Some (after_checkpoint x)))

-- what a checkpoint of extent e answers and changes; that of the calls without a home takes no
-- memory
abbrev pub Checkpoints : SiteState → ℕ → Result ChapterState SiteRefusal → SiteState → Type 0
Checkpoints s e (Ok chapter) s' = (checkpoint_obstacle s e ≡ None) × HandsOut s e chapter s'
Checkpoints s zero (Err NoMemory) s' = ⊥
Checkpoints s e (Err NoMemory) s' = (checkpoint_obstacle s e ≡ None) × (s' ≡ s)
Checkpoints s e (Err refusal) s' = (checkpoint_obstacle s e ≡ Some refusal) × (s' ≡ s)

-- what was the last stamp of a home's extent, or of the calls without a home, still is
abbrev pub KeepsLastStamps : SiteState → SiteState → Type 0
KeepsLastStamps s s' = (home : Option ℕ) → last_stamp_here s' home ≡ last_stamp_here s home

-- ---- why no chapter is handed out, as the site reports it
abbrev pub refusal_by : CheckpointError → SiteRefusal
refusal_by error.LogEnded = LogEnded
refusal_by error.ChapterCountFull = ChapterCountFull
refusal_by error.NoMemory = NoMemory
