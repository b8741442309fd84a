-- Replies in a list.
use Rattle.std.specs.Prelude.{◌≡◌, ◌⊎◌, List, [], ◌∷◌, ◌++◌}
use Rattle.tatp_tables.specs.Database.{Database}
use Rattle.tatp_calls.specs.declared.reply.Reply.{Reply}
use Rattle.tatp_history.specs.declared.event.Event.{Event}
use Rattle.tatp_history.specs.Histories.{IsStrictlySerializable}
use Rattle.tatp_history.specs.Events.{asked_in, TimesRise, HaveEnds}
use Rattle.tatp_linearization.specs.declared.explanations.Explanations.{Explanations}
use Rattle.tatp_linearization.specs.Reached.{AreReached}

abbrev pub IsListed : Reply → List Reply → Type 0
IsListed reply [] = ⊥
IsListed reply (other ∷ more) = (reply ≡ other) ⊎ IsListed reply more

-- each reply is in the list once
abbrev pub AreEachOnce : List Reply → Type 0
AreEachOnce [] = Unit {0}
AreEachOnce (reply ∷ more) = (IsListed reply more → ⊥) × AreEachOnce more

-- ---- replies that explain
-- a serial order explains all events before the window and these
abbrev pub IsExplainedBy : Explanations → List Event → Type 0
IsExplainedBy explanations events =
    (u : Database) (past : List Event) → AreReached u past explanations
    → TimesRise (past ++ events) → HaveEnds (past ++ events)
    → IsStrictlySerializable u (asked_in (past ++ events))

-- no serial order explains them
abbrev pub IsUnexplainedBy : Explanations → List Event → Type 0
IsUnexplainedBy explanations events =
    (u : Database) (past : List Event) → AreReached u past explanations
    → TimesRise (past ++ events) → HaveEnds (past ++ events)
    → IsStrictlySerializable u (asked_in (past ++ events)) → ⊥

-- `legal` are those of the replies with which a serial order explains the events, each once
pub record AreSifted (explanations : Explanations) (told : Reply → List Event)
    (replies legal : List Reply) : Type 0 where
  pub sound : (reply : Reply) → IsListed reply legal → IsExplainedBy explanations (told reply)
  pub found : (reply : Reply) → IsListed reply replies
      → IsListed reply legal ⊎ IsUnexplainedBy explanations (told reply)
  pub once : AreEachOnce legal
