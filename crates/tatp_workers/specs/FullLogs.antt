-- A log at a site whose lock is held, and what an executor does about it.
use Rattle.std.specs.Prelude.{◌≡◌, ℕ, ◌<◌, ◌≤◌, List, [], ◌∷◌, ◌++◌, length, Ok, Err}
use Rattle.tatp_extents.specs.Chapters.{ChapterState}
use Rattle.tatp_partition.specs.Checkpointing.{Checkpoints, entries_here}
use Rattle.tatp_partition.specs.Sites.{SiteState}
use Rattle.tatp_workers.specs.declared.checkpoints.Checkpointed.{Checkpointed}
use Rattle.tatp_workers.specs.declared.checkpoints.Checkpointed.TheVariants.{Kept, Short, Refused}

-- how many entries the log of an extent has; 0 where it isn't here
abbrev pub log_length : SiteState → ℕ → ℕ
log_length s e = length (entries_here s e)

-- what became of the log of an extent, where a chapter needs `chapter` entries, and of the site and
-- the chapters. Either the log was handed out and appended to the chapters; or all is as it was,
-- since the log is shorter or the site refused
abbrev pub ChecksLog : SiteState → ℕ → ℕ → List ChapterState
    → Checkpointed → SiteState → List ChapterState → Type 0
ChecksLog s e chapter chapters Kept s' chapters' =
    (handed_out : ChapterState)
    × (chapter ≤ log_length s e)
    × Checkpoints s e (Ok handed_out) s'
    × (chapters' ≡ chapters ++ handed_out ∷ [])
ChecksLog s e chapter chapters Short s' chapters' =
    (log_length s e < chapter) × (s' ≡ s) × (chapters' ≡ chapters)
ChecksLog s e chapter chapters (Refused refusal) s' chapters' =
    (chapter ≤ log_length s e) × Checkpoints s e (Err refusal) s' × (chapters' ≡ chapters)
