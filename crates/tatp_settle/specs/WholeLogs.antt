-- Whole logs, joined from their parts.
use Rattle.std.specs.Prelude.{◌≡◌, ℕ, ◌+◌, ◌-◌, List, [], ◌∷◌, length, Option, slice_get}
use Rattle.std.specs.List.{flat_map}
use Rattle.std.specs.Option.{option_and_then}
use Rattle.tatp_calls.specs.declared.entry.Entry.{Entry}
use Rattle.tatp_settle.specs.declared.log_parts.JoinedPart.{JoinedPart}

-- the entries of all parts, one after another
abbrev pub entries_of_parts : List JoinedPart → List Entry
entries_of_parts parts = flat_map (λ (part : JoinedPart). part.entries.now.entries) parts

-- each part says how many entries come before it, counted from `before` on; with those of all parts
-- there are `len`
abbrev pub AreJoined : ℕ → List JoinedPart → ℕ → Type 0
AreJoined before [] len = len ≡ before
AreJoined before (part ∷ more) len =
    (part.first ≡ before)
    × AreJoined (before + length part.entries.now.entries) more len

-- the entry of this place in all parts, if it is in this one
abbrev pub entry_in_part : Option JoinedPart → ℕ → Option Entry
entry_in_part part index =
    option_and_then (λ (p : JoinedPart). slice_get p.entries.now.entries (index - p.first)) part
