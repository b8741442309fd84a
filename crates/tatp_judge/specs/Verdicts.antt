-- trusted: read it
-- What a verdict says of a history.
use Rattle.std.specs.Prelude.{◌≡◌, ◌⊎◌, ℕ, ◌≤◌, ◌-◌, List, [], ◌∷◌, take, length, Option, Some, None}
use Rattle.std.specs.List.{AllByRecursion}
use Rattle.tatp_tables.specs.Database.{Database, of_subscriber}
use Rattle.tatp_history.specs.declared.line.Line.{Line}
use Rattle.tatp_history.specs.Histories.{IsStrictlySerializable}
use Rattle.tatp_history.specs.HistoryLines.{calls_of}
use Rattle.tatp_history.specs.Locality.{calls_on, FailWithout}
use Rattle.tatp_history.specs.SubscriberEvents.{NothingIsOpen, events_of}
use Rattle.tatp_linearization.specs.Possible.{NeedMore}
use Rattle.tatp_judge.specs.declared.aside.Undecided.{Undecided}
use Rattle.tatp_judge.specs.declared.judge.Verdict.{Verdict}
use Rattle.tatp_judge.specs.declared.judge.Verdict.TheVariants.{Legal, Illegal}

-- what clients saw is strictly serializable
abbrev pub IsLegal : Database → List Line → Type 0
IsLegal u lines = IsStrictlySerializable u (calls_of lines)

-- ---- subscribers that are set aside
-- after some of the subscriber's events in the first lines, up to `line` at most, more than `most`
-- configurations are possible
pub record NeedMoreBy (u : Database) (most : ℕ) (lines : List Line) (line s : ℕ) : Type 0 where
  pub within : line ≤ length lines
  pub first : ℕ
  pub by : first ≤ line
  pub many : NeedMore most (of_subscriber u s) (events_of u s (take first lines))

-- their lines don't fall, and no subscriber is there twice
abbrev pub AreInOrder : List Undecided → Type 0
AreInOrder [] = Unit {0}
AreInOrder (one ∷ more) =
    AllByRecursion (λ other. (one.line ≤ other.line) × (one.s_id ≡ other.s_id → ⊥)) more
    × AreInOrder more

-- each needs more than `most` by its line, and they are in this order
pub record AreUndecided (u : Database) (most : ℕ) (lines : List Line) (aside : List Undecided)
    : Type 0 where
  pub each : AllByRecursion (λ one. NeedMoreBy u most lines one.line one.s_id) aside
  pub order : AreInOrder aside

-- the subscriber is one of them
abbrev pub IsAside : List Undecided → ℕ → Type 0
IsAside [] s = ⊥
IsAside (one ∷ more) s = (one.s_id ≡ s) ⊎ IsAside more s

-- the calls on each other subscriber are strictly serializable on its rows, and those that name
-- none failed with 1, if they were answered
pub record AreOthersLegal (u : Database) (aside : List Undecided) (lines : List Line)
    : Type 0 where
  pub each : (s : ℕ) → (IsAside aside s → ⊥)
      → IsStrictlySerializable (of_subscriber u s) (calls_on u s (calls_of lines))
  pub none : FailWithout u (calls_of lines)

-- what clients saw is legal, but for these subscribers
abbrev pub IsLegalBut : Database → List Undecided → List Line → Type 0
IsLegalBut u [] lines = IsLegal u lines
IsLegalBut u (one ∷ more) lines = AreOthersLegal u (one ∷ more) lines

-- ---- verdicts on all others
-- the first `n` lines are not legal, and those before the last of these are
pub record IsFirstIllegal (u : Database) (aside : List Undecided) (lines : List Line) (n : ℕ)
    : Type 0 where
  pub first : 1 ≤ n
  pub within : n ≤ length lines
  pub illegal : IsLegalBut u aside (take n lines) → ⊥
  pub before : IsLegalBut u aside (take (n - 1) lines)

-- the calls on each other subscriber that has no open call are strictly serializable on its rows
abbrev pub AreExplainedWhereClosed : Database → List Undecided → List Line → Type 0
AreExplainedWhereClosed u aside lines =
    (s : ℕ) → (IsAside aside s → ⊥) → NothingIsOpen u s lines
    → IsStrictlySerializable (of_subscriber u s) (calls_on u s (calls_of lines))

-- the calls on the subscriber in the first `n` lines are not strictly serializable. Where none is
-- given, a call in these lines that names none was answered, and not by FAILED 1
abbrev pub IsUnexplained : Database → List Line → ℕ → Option ℕ → Type 0
IsUnexplained u lines n None = FailWithout u (calls_of (take n lines)) → ⊥
IsUnexplained u lines n (Some s) =
    IsStrictlySerializable (of_subscriber u s) (calls_on u s (calls_of (take n lines))) → ⊥

-- the subscriber, if one is named, is none of those set aside
abbrev pub IsOther : List Undecided → Option ℕ → Type 0
IsOther aside None = Unit {0}
IsOther aside (Some s) = IsAside aside s → ⊥

abbrev pub IsVerdictOn : Database → List Undecided → List Line → Verdict → Type 0
IsVerdictOn u aside lines Legal = IsLegalBut u aside lines
IsVerdictOn u aside lines (Illegal n s_id) =
    IsFirstIllegal u aside lines n × IsUnexplained u lines n s_id × IsOther aside s_id

-- the verdict, and those that are set aside
pub record IsSaid (u : Database) (most : ℕ) (lines : List Line) (aside : List Undecided)
    (verdict : Verdict) : Type 0 where
  pub aside_are : AreUndecided u most lines aside
  pub verdict_is : IsVerdictOn u aside lines verdict
