-- trusted: read it
-- One of `count` parts of a history: each `count`-th subscriber's calls; the first, also on none.
use Rattle.std.specs.Prelude.{ℕ, ◌-◌, ◌%◌, ◌≤◌, ◌==◌, Bool, if◌then◌else◌, List, map, Option, Some, None}
use Rattle.tatp_tables.specs.Database.{Database}
use Rattle.tatp_history.specs.declared.line.Line.{Line}
use Rattle.tatp_history.specs.declared.line.Line.TheVariants.{Ask, End, Abort, Lost}
use Rattle.tatp_history.specs.Locality.{subscriber_of}
use Rattle.tatp_judge.specs.declared.part.Part.{Part}

-- its number is one of those from 1 on
pub record IsPart (part : Part) : Type 0 where
  pub first : 1 ≤ part.number
  pub last : part.number ≤ part.count

-- whether calls on the subscriber are of the part: s_id modulo the number of parts is one less than
-- its own. Calls that name no subscriber are of the first
abbrev pub is_of_part : Part → Option ℕ → Bool
is_of_part part None = part.number == 1
is_of_part part (Some s) = s % part.count == part.number - 1

-- what a line says of the calls of the part. Where its client asks another call, the one that it
-- had open has no answer
abbrev pub line_of_part : Database → Part → Line → Line
line_of_part u part (Ask client call) =
    if is_of_part part (subscriber_of u call) then Ask client call else Lost client
line_of_part u part (End client recorded) = End client recorded
line_of_part u part (Abort client) = Abort client
line_of_part u part (Lost client) = Lost client

abbrev pub lines_of_part : Database → Part → List Line → List Line
lines_of_part u part lines = map (line_of_part u part) lines

-- the whole history as its only part; below, one of `count` parts of it
abbrev pub whole : Part
whole = record { number = 1; count = 1 }

abbrev pub part_of : ℕ → ℕ → Part
part_of count number = record { number = number; count = count }
