use Rattle.std.proofs.Common.{◌+◌, ◌<◌, ◌≤◌, List, ◌++◌}
use Rattle.tatp_tables.specs.Database.{Database}
use Rattle.tatp_history.specs.declared.event.Event.{Event}
use Rattle.tatp_history.specs.Histories.{IsStrictlySerializable}
use Rattle.tatp_history.specs.Prefixes.{calls_by}
use Rattle.tatp_history.specs.Events.{asked_in}
use Rattle.tatp_linearization.specs.Reached.{AreReached}
use Rattle.tatp_linearization.specs.Cut.{AreWindow}
use Rattle.tatp_linearization.proofs.explanations.Explanations.first_unexplained.Given as goal

abbrev pub invariant-halves : goal.invariant-halves
invariant-halves l = record {
  from : l.from ≤ l.explained;
  by : l.unexplained ≤ l.by;
  less : l.explained < l.unexplained;
  nearer : l.unexplained + l.i ≤ l.by + l.explained;
  explains : (u : Database) (past : List Event) → AreReached u past l.self → AreWindow past l.events
      → IsStrictlySerializable u (asked_in past ++ calls_by l.explained (asked_in l.events));
  fails : (u : Database) (past : List Event) → AreReached u past l.self → AreWindow past l.events
      → IsStrictlySerializable u (asked_in past ++ calls_by l.unexplained (asked_in l.events)) → ⊥;
}
