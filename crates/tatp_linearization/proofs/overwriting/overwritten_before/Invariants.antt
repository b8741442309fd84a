use Rattle.std.proofs.Common.{◌≤◌, take}
use Rattle.tatp_linearization.specs.Overwritten.{AreOut, IsFirst}
use Rattle.tatp_linearization.proofs.overwriting.overwritten_before.Given as goal

abbrev pub invariant-calls : goal.invariant-calls
invariant-calls l = record {
  still : l.before ≤ l.first;
  others : AreOut l.home.tables l.x l.before l.first (take l.i l.opened);
  first : IsFirst l.home.tables l.x l.first l.opened;
}
