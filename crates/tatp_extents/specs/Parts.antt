-- An extent's parts.
use Rattle.std.specs.Prelude.{ℕ, ◌+◌}
use Rattle.tatp_extents.specs.Extents.{ExtentState, first_subscriber}
use Rattle.tatp_extents.specs.Pinning.{PinnedState}
use Rattle.tatp_extents.specs.declared.parts.ExtentParts.{ExtentParts}

-- the extent that has these parts
abbrev pub state_of : ExtentParts → ExtentState
state_of parts = record {
  number = parts.number;
  moves = parts.moves;
  mixed = parts.mixed;
  chapters = parts.chapters;
  kept_stamp = parts.log.kept_stamp;
  opening = parts.opening;
  homes = parts.homes.items;
  log = parts.log.entries;
}

-- the extent that has these parts, pinned on the home of this subscriber
abbrev pub pinned_state_of : ExtentParts → ℕ → PinnedState
pinned_state_of parts s = record { extent = state_of parts; s_id = s }

-- the extent that has these parts, pinned on the home in this place
abbrev pub pinned_in : ExtentParts → ℕ → PinnedState
pinned_in parts place = pinned_state_of parts (first_subscriber parts.number + place)
