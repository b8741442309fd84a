-- The subscribers that the judge set aside.
use Rattle.std.specs.Prelude.{◌≡◌, ◌⊎◌, ◌≤◌, ℕ, suc, true, List, ◌++◌, length, slice_get, Some}
use Rattle.std.specs.List.{AllByRecursion}
use Rattle.tatp_tables.specs.Database.{Database}
use Rattle.tatp_history.specs.declared.line.Line.{Line}
use Rattle.tatp_judge.specs.declared.aside.Undecided.{Undecided}
use Rattle.tatp_judge.specs.declared.judge.Judge.{Judge}
use Rattle.tatp_judge.specs.declared.window.Window.{Window}
use Rattle.tatp_judge.specs.Verdicts.{AreUndecided, IsAside}

-- the subscribers that it has set aside, as it reports them
abbrev pub undecided_in : Judge → List Undecided
undecided_in judge = judge.undecided.items

-- these subscribers exist; their windows, and no others, are marked; and each of them has more
-- possible configurations than may be kept
pub record AreSetAside (u : Database) (most : ℕ) (lines : List Line) (judge : Judge) : Type 0 where
  pub undecided : AreUndecided u most lines judge.undecided.items
  pub there : (s : ℕ) → IsAside judge.undecided.items s
      → (1 ≤ s) × (s ≤ length judge.windows.items)
  pub marked : (place : ℕ) (w : Window) → slice_get judge.windows.items place ≡ Some w
      → IsAside judge.undecided.items (suc place) → w.aside ≡ true
  pub listed : (place : ℕ) (w : Window) → slice_get judge.windows.items place ≡ Some w
      → w.aside ≡ true → IsAside judge.undecided.items (suc place)

-- all that is left of the window is how many calls are open
pub record IsReleased (w after : Window) : Type 0 where
  pub aside_is : after.aside ≡ true
  pub waiting_is : after.waiting ≡ w.waiting

-- the window of the subscriber with this s_id was released; the others are as they were
abbrev pub SetsAside : ℕ → ℕ → Window → Window → Type 0
SetsAside s_id place w after =
    ((suc place ≡ s_id) × IsReleased w after) ⊎ ((suc place ≡ s_id → ⊥) × (after ≡ w))

-- subscribers set aside anew follow those of before, each with the number of the lines followed
pub record AddsAside (old new : Judge) : Type 0 where
  pub more : List Undecided
  pub undecided_are : new.undecided.items ≡ old.undecided.items ++ more
  pub lines_are : AllByRecursion (λ one. one.line ≡ old.number) more
