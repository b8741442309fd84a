-- What can be seen of a site: docs/FORMATS.md. Each line ends with a line feed.
use Rattle.std.specs.Prelude.{◌≡◌, ℕ, List, [], ◌∷◌, ◌++◌, Option, Some, None, Result, Ok, Err, MatchOption, slice_get}
use Rattle.std.specs.Option.{option_map_or}
use Rattle.tatp_homes.specs.Home.{SubscriberRows}
use Rattle.tatp_partition.specs.declared.refusal.SiteRefusal.{SiteRefusal}
use Rattle.tatp_partition.specs.declared.refusal.SiteRefusal.TheVariants.{NotHere}
use Rattle.tatp_partition.specs.Sites.{SiteState, home_here}
use Rattle.tatp_debug.specs.declared.snapshot.Snapshot.{Snapshot}
use Rattle.tatp_debug.specs.Printing.{snapshot_text}
use Rattle.tatp_partition.specs.Looking.{Looks}
use Rattle.tatp_events.specs.declared.refusal.Refusal.TheVariants.{NoPartition, Site}
use Rattle.tatp_dispatch.specs.Worlds.{WorldState}
use Rattle.tatp_trace_lines.specs.AnswerText.{refused_text}
use Rattle.tatp_trace_lines.specs.HomeText.{home_text}

-- one line
abbrev pub told_line : List ℕ → List ℕ
told_line text = text ++ 10 ∷ []

-- where there is no such partition
abbrev pub no_partition_line : List ℕ
no_partition_line = told_line (refused_text NoPartition)

-- ---- the running call
abbrev pub seen_text : Result Snapshot SiteRefusal → List ℕ
seen_text (Ok snapshot) = told_line (snapshot_text snapshot)
seen_text (Err refusal) = told_line (refused_text (Site refusal))

-- what looking at the site answers
pub record TellsSeen (s : SiteState) (told : List ℕ) : Type 0 where
  pub seen : Result Snapshot SiteRefusal
  pub looks : Looks s seen
  pub told_so : told ≡ seen_text seen

-- what looking at the site of partition p answers
abbrev pub TellsLook : WorldState → ℕ → List ℕ → Type 0
TellsLook w p told =
    MatchOption (slice_get w.sites p) (told ≡ no_partition_line) (λ s. TellsSeen s told)

-- ---- the home of a subscriber
abbrev pub found_text : Option SubscriberRows → List ℕ
found_text None = told_line (refused_text (Site NotHere))
found_text (Some home) = home_text home.tables

-- what is answered of a subscriber's home at the site of partition p
abbrev pub home_told : WorldState → ℕ → ℕ → List ℕ
home_told w p s_id =
    option_map_or (λ (s : SiteState). found_text (home_here s s_id)) (slice_get w.sites p)
    no_partition_line
