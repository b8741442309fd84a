-- Whether some order of one subscriber's calls results in given rows.
use Rattle.std.specs.Prelude.{◌≡◌, ℕ, List, length}
use Rattle.tatp_tables.specs.Database.{Database, of_subscriber}
use Rattle.tatp_history.specs.declared.line.Line.{Line}
use Rattle.tatp_history.specs.SubscriberEvents.{events_of}
use Rattle.tatp_linearization.specs.Reached.{AreOfSubscriber, AreReached}
use Rattle.tatp_linearization.specs.declared.explanations.Standing.{Standing}
use Rattle.tatp_linearization.specs.declared.explanations.Standing.TheVariants.{Explained, Unexplained, Undecided}
use Rattle.tatp_judge.specs.declared.window.Window.{Window}
use Rattle.tatp_judge.specs.Finishing.{Leaves}
use Rattle.tatp_judge.specs.Verdicts.{NeedMoreBy}

-- the configurations kept are those after all events on the subscriber
pub record IsAtEnd (u : Database) (most s : ℕ) (lines : List Line) (w : Window) : Type 0 where
  pub reached : AreReached (of_subscriber u s) (events_of u s lines) w.explanations
  pub own : AreOfSubscriber s w.explanations
  pub most_is : w.explanations.most ≡ most

-- what is said of a window that has followed its events
abbrev pub GoesToEnd : Database → ℕ → ℕ → List Line → Standing → Window → Type 0
GoesToEnd u most s lines Explained w = IsAtEnd u most s lines w
GoesToEnd u most s lines Unexplained w = (rows : Database) → Leaves u s lines rows → ⊥
GoesToEnd u most s lines Undecided w = NeedMoreBy u most lines (length lines) s

-- what is said of these rows
abbrev pub SaysLeft : Database → ℕ → ℕ → List Line → Database → Standing → Type 0
SaysLeft u most s lines rows Explained = Leaves u s lines rows
SaysLeft u most s lines rows Unexplained = Leaves u s lines rows → ⊥
SaysLeft u most s lines rows Undecided = NeedMoreBy u most lines (length lines) s
