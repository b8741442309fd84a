-- An extent that hands out a chapter at one of many sites.
use Rattle.std.specs.Prelude.{◌≡◌, ℕ, List, Some, Result, slice_get, slice_set}
use Rattle.tatp_extents.specs.Chapters.{ChapterState}
use Rattle.tatp_partition.specs.declared.refusal.SiteRefusal.{SiteRefusal}
use Rattle.tatp_partition.specs.declared.refusal.SiteRefusal.TheVariants as site
use Rattle.tatp_partition.specs.Checkpointing.{Checkpoints}
use Rattle.tatp_partition.specs.Sites.{SiteState}
use Rattle.tatp_partition.specs.Sound.{IsSite}
use Rattle.tatp_events.specs.declared.refusal.Refusal.{Refusal}
use Rattle.tatp_events.specs.declared.refusal.Refusal.TheVariants.{NoMemory, Site}

-- the site of partition p hands out a chapter of extent e, or refuses, and the other sites stay
pub record CheckpointsIn (sites : List SiteState) (p e : ℕ)
    (handed_out : Result ChapterState SiteRefusal) (sites' : List SiteState) : Type 0 where
  pub before : SiteState
  pub after_it : SiteState
  pub site : slice_get sites p ≡ Some before
  pub checkpoints : Checkpoints before e handed_out after_it
  pub whole : IsSite after_it
  pub after : sites' ≡ slice_set sites p after_it

-- why it hands out none, as the system reports it: its NoMemory is that of the system
abbrev pub refusal_told : SiteRefusal → Refusal
refusal_told site.NoMemory = NoMemory
refusal_told refusal = Site refusal
