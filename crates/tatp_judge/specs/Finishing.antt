-- trusted: read it
-- What a verdict says of a history, or of a part of one, and of the rows at its end.
use Rattle.std.specs.Prelude.{◌≡◌, ℕ, ◌<◌, ◌≤◌, true, List, Some}
use Rattle.tatp_tables.specs.Database.{Database, of_subscriber}
use Rattle.tatp_history.specs.declared.line.Line.{Line}
use Rattle.tatp_history.specs.Histories.{IsStrictlySerializableTo}
use Rattle.tatp_history.specs.HistoryLines.{calls_of}
use Rattle.tatp_history.specs.Locality.{calls_on}
use Rattle.tatp_judge.specs.declared.aside.Undecided.{Undecided}
use Rattle.tatp_judge.specs.declared.finishing.FinalVerdict.{FinalVerdict}
use Rattle.tatp_judge.specs.declared.finishing.FinalVerdict.TheVariants.{Reached, Unreached}
use Rattle.tatp_judge.specs.declared.part.Part.{Part}
use Rattle.tatp_judge.specs.Parts.{is_of_part}
use Rattle.tatp_judge.specs.Verdicts.{IsAside, IsLegalBut}

-- some order of the calls leads to the rows at the end
abbrev pub LeadsTo : Database → List Line → Database → Type 0
LeadsTo u lines after = IsStrictlySerializableTo u (calls_of lines) after

-- some order of the subscriber's calls results in these rows of it
abbrev pub Leaves : Database → ℕ → List Line → Database → Type 0
Leaves u s lines rows =
    IsStrictlySerializableTo (of_subscriber u s) (calls_on u s (calls_of lines)) rows

-- for each of the part's subscribers that isn't set aside, some order of its calls results in its
-- rows at the end
abbrev pub LeaveInPart : Database → Part → List Undecided → List Line → Database → Type 0
LeaveInPart u part aside lines after =
    (s : ℕ) → is_of_part part (Some s) ≡ true → (IsAside aside s → ⊥)
    → Leaves u s lines (of_subscriber after s)

-- the calls have an order, and lead to the rows at the end of the part's subscribers, but for those
-- that are set aside
pub record LeadsInPart (u : Database) (part : Part) (aside : List Undecided) (lines : List Line)
    (after : Database) : Type 0 where
  pub legal : IsLegalBut u aside lines
  pub leave : LeaveInPart u part aside lines after

-- no order of this subscriber's calls results in its rows at the end; and for each subscriber of
-- the part before it that isn't set aside, some order does
pub record IsFirstUnreached (u : Database) (part : Part) (aside : List Undecided)
    (lines : List Line) (after : Database) (s : ℕ) : Type 0 where
  pub first : 1 ≤ s
  pub own : is_of_part part (Some s) ≡ true
  pub other : IsAside aside s → ⊥
  pub here : Leaves u s lines (of_subscriber after s) → ⊥
  pub before : (t : ℕ) → 1 ≤ t → t < s → is_of_part part (Some t) ≡ true
      → (IsAside aside t → ⊥) → Leaves u t lines (of_subscriber after t)

abbrev pub IsFinalVerdictOn
    : Database → Part → List Undecided → List Line → Database → FinalVerdict → Type 0
IsFinalVerdictOn u part aside lines after Reached = LeaveInPart u part aside lines after
IsFinalVerdictOn u part aside lines after (Unreached s) =
    IsFirstUnreached u part aside lines after s
