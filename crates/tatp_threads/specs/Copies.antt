-- What is copied out of a locked site.
use Rattle.std.specs.Prelude.{◌≡◌, ℕ}
use Rattle.tatp_extents.specs.Extents.{IsExtent}
use Rattle.tatp_extents.specs.Parts.{state_of}
use Rattle.tatp_extents.specs.declared.parts.ExtentParts.{ExtentParts}

-- these are the parts of extent e: it has the homes of its subscribers. Where it isn't mixed, its
-- log is the history that leads from those at the last checkpoint to those now
abbrev pub ArePartsOf : ℕ → ExtentParts → Type 0
ArePartsOf e parts = (parts.number ≡ e) × IsExtent (state_of parts)
