-- What is said of a history by the numbers of its lines in the input.
use Rattle.std.specs.Prelude.{◌≡◌, ℕ, zero, suc, ◌+◌, ◌-◌, ◌<◌, ◌≤◌, List, [], length, map, take, slice_get, slice_index, Option, Some, None, IfSome, Ok}
use Rattle.std.specs.List.{AllByRecursion}
use Rattle.tatp_judge.specs.declared.aside.Undecided.{Undecided}
use Rattle.tatp_judge.specs.Verdicts.{AreInOrder, IsOther}
use Rattle.tatp_judged_inputs.specs.HistoryTexts.{Told, history_from, none_open}
use Rattle.tatp_judge.specs.declared.judge.Verdict.{Verdict}
use Rattle.tatp_judge.specs.declared.judge.Verdict.TheVariants as verdicts
use Rattle.tatp_judge.specs.declared.stakes.Stakes.{Stakes}
use Rattle.tatp_judged_inputs.specs.Views.{AreNumbersTold, AreRepliesTold, AreStakes, IsLegalBut, IsUnexplained, NeedMoreBy, View}
use Rattle.tatp_judged_inputs.specs.declared.judging.Judged.{Judged}
use Rattle.tatp_judged_inputs.specs.declared.judging.Window.{Window}
use Rattle.tatp_judged_inputs.specs.declared.judging.Judged.TheVariants.{Legal, Illegal, Unreached}

-- the texts, of which the first comes after `taken` lines of the input, hold a history of which
-- this is true
abbrev pub Tell : ℕ → List (List ℕ) → (Told → Type 0) → Type 0
Tell taken texts Holds =
    (told : Told) × (history_from none_open (taken + 1) texts ≡ Ok told) × Holds told

-- it is legal, or not, but for the subscribers that are set aside
abbrev pub TellLegal : View → List Undecided → ℕ → List (List ℕ) → Type 0
TellLegal u aside taken texts = Tell taken texts (λ told. IsLegalBut u aside told.lines)

abbrev pub TellIllegal : View → List Undecided → ℕ → List (List ℕ) → Type 0
TellIllegal u aside taken texts = Tell taken texts (λ told. IsLegalBut u aside told.lines → ⊥)

-- this was at stake in it
abbrev pub TellStakes : View → ℕ → List (List ℕ) → Stakes → Type 0
TellStakes u taken texts stakes = Tell taken texts (λ told. AreStakes u told.lines stakes)

-- the lines up to the one with this number in the input hold an illegal history, and those before
-- it a legal one
pub record IsIllegalAt (u : View) (aside : List Undecided) (taken : ℕ) (texts : List (List ℕ))
    (number : ℕ) : Type 0 where
  pub later : taken < number
  pub within : number ≤ taken + length texts
  pub illegal : TellIllegal u aside taken (take (number - taken) texts)
  pub before : TellLegal u aside taken (take (number - taken - 1) texts)

-- the lines up to the one with this number hold a history in which more than `most`
-- configurations of the subscriber are possible after some of its events
pub record IsUndecidedAt (u : View) (most taken : ℕ) (texts : List (List ℕ)) (number s : ℕ)
    : Type 0 where
  pub later : taken ≤ number
  pub within : number ≤ taken + length texts
  pub many : Tell taken (take (number - taken) texts)
      (λ told. NeedMoreBy u most told.lines (length told.lines) s)

-- so it is with each subscriber set aside. Their lines don't fall, and no subscriber is there twice
pub record AreUndecidedAt (u : View) (most taken : ℕ) (texts : List (List ℕ))
    (aside : List Undecided) : Type 0 where
  pub each : AllByRecursion (λ one. IsUndecidedAt u most taken texts one.line one.s_id) aside
  pub order : AreInOrder aside

-- in the lines up to the one with this number the calls on this subscriber aren't strictly
-- serializable. Where none is given, an answered call that names none didn't fail with 1
abbrev pub AreUnexplainedAt : View → ℕ → List (List ℕ) → ℕ → Option ℕ → Type 0
AreUnexplainedAt u taken texts number s_id = Tell taken (take (number - taken) texts)
    (λ told. IsUnexplained u told.lines (length told.lines) s_id)

-- what is said of all subscribers that aren't set aside
abbrev pub IsJudged : View → List Undecided → ℕ → List (List ℕ) → Judged → Type 0
IsJudged u aside taken texts (Legal stakes) =
    TellLegal u aside taken texts × TellStakes u taken texts stakes
IsJudged u aside taken texts (Illegal number s_id) =
    IsIllegalAt u aside taken texts number × AreUnexplainedAt u taken texts number s_id
    × IsOther aside s_id
IsJudged u aside taken texts (Unreached number s) = ⊥

-- it says what a verdict on the lines says, by their numbers in the input
abbrev pub IsTold : View → Told → Verdict → Judged → Type 0
IsTold u told verdicts.Legal judged =
    (stakes : Stakes) × AreStakes u told.lines stakes × (judged ≡ Legal stakes)
IsTold u told (verdicts.Illegal first s_id) judged = (number : ℕ)
    × (slice_get told.numbers (first - 1) ≡ Some number) × (judged ≡ Illegal number s_id)

-- the number that the history's line of this number has in the input; for 0, how many lines of the
-- input come before the history
abbrev pub number_after : ℕ → List ℕ → ℕ → ℕ
number_after taken numbers zero = taken
number_after taken numbers (suc n) = slice_index numbers n

-- those that are set aside, by these numbers
abbrev pub one_told : ℕ → List ℕ → Undecided → Undecided
one_told taken numbers one =
    record { line = number_after taken numbers one.line; s_id = one.s_id }

abbrev pub aside_told : ℕ → List ℕ → List Undecided → List Undecided
aside_told taken numbers aside = map (one_told taken numbers) aside

-- ---- the lines of an unexplained window
-- the numbers that lines of the history have in the input
abbrev pub in_input : List ℕ → List ℕ → List ℕ
in_input numbers lines = map (λ line. slice_index numbers (line - 1)) lines

-- the lines are those of the subscriber's window that ends with the last line; and where replies
-- are reported, they are those with which this line could have answered its call
pub record IsWindowTold (u : View) (s : ℕ) (told : Told) (window : Window) : Type 0 where
  pub lines : List ℕ
  pub numbers : AreNumbersTold u s told.lines lines
  pub lines_are : window.lines.items ≡ in_input told.numbers lines
  pub legal : IfSome window.legal
      (λ legal. AreRepliesTold u s told.lines legal.call legal.replies.items)

-- nothing is reported
pub record IsUntold (window : Window) : Type 0 where
  pub lines : window.lines.items ≡ []
  pub legal : window.legal ≡ None

-- what is reported with what is said of the texts, where that names a subscriber whose calls are
-- unexplained
abbrev pub IsWindowOf : View → ℕ → List (List ℕ) → Judged → Window → Type 0
IsWindowOf u taken texts (Legal stakes) window = IsUntold window
IsWindowOf u taken texts (Illegal number None) window = IsUntold window
IsWindowOf u taken texts (Illegal number (Some s)) window =
    Tell taken (take (number - taken) texts) (λ told. IsWindowTold u s told window)
IsWindowOf u taken texts (Unreached number s) window = IsUntold window

-- what is said of the texts, and what is reported with it
pub record IsJudgement (u : View) (most taken : ℕ) (texts : List (List ℕ)) (judged : Judged)
    (aside : List Undecided) (window : Window) : Type 0 where
  pub judged_is : IsJudged u aside taken texts judged
  pub aside_are : AreUndecidedAt u most taken texts aside
  pub window_is : IsWindowOf u taken texts judged window

-- the first `n` lines of a history, with their numbers
abbrev pub first_told : ℕ → Told → Told
first_told n told = record { numbers = take n told.numbers; lines = take n told.lines }

-- what is reported with a verdict on lines
abbrev pub IsWindowBy : View → Told → Verdict → Window → Type 0
IsWindowBy u told verdicts.Legal window = IsUntold window
IsWindowBy u told (verdicts.Illegal first None) window = IsUntold window
IsWindowBy u told (verdicts.Illegal first (Some s)) window =
    IsWindowTold u s (first_told first told) window
