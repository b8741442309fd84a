-- A search through the windows for the first illegal line.
use Rattle.std.specs.Prelude.{◌≡◌, ◌≤◌, ◌⊎◌, ℕ, Bool, IsTrue, List, length}
use Rattle.tatp_tables.specs.Database.{Database}
use Rattle.tatp_history.specs.declared.line.Line.{Line}
use Rattle.tatp_judge.specs.declared.judge.Judge.{Judge}
use Rattle.tatp_judge.specs.declared.window.Window.{Window}
use Rattle.tatp_judge.specs.Aside.{IsReleased}
use Rattle.tatp_judge.specs.Steps.{AreEach}
use Rattle.tatp_judge.specs.Windows.{IsExplainedBy, IsSpent, IsWindowAfter}

-- where the subscriber's calls are known to be unexplained by the last line, its window may be
-- spent
pub record IsSearchedFor (u : Database) (most s : ℕ) (lines : List Line) (known : Bool)
    (w : Window) : Type 0 where
  pub window : IsWindowAfter u most s lines w ⊎ (IsTrue known × IsSpent u s lines w)
  pub some : IsTrue known → 1 ≤ length lines
  pub unexplained : IsTrue known → IsExplainedBy u s lines (length lines) → ⊥

-- some of the windows were released; nothing else changed but the list of those set aside
pub record ReleasesSome (old new : Judge) : Type 0 where
  pub directory_is : new.directory ≡ old.directory
  pub asked_is : new.asked ≡ old.asked
  pub number_is : new.number ≡ old.number
  pub exact_is : new.exact ≡ old.exact
  pub windows_are : AreEach (λ place w after. (after ≡ w) ⊎ IsReleased w after)
      old.windows.items new.windows.items
