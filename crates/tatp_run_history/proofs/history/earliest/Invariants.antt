use Rattle.std.proofs.Common.{IfSome, IfNone, take}
use Rattle.tatp_run_history.specs.Interleaving.{HasFirst, AllAreEmpty}
use Rattle.tatp_run_history.specs.Parts.{rests_of}
use Rattle.tatp_run_history.proofs.history.earliest.Given as goal

abbrev pub invariant-loop-place : goal.invariant-loop-place
invariant-loop-place l = record {
  some : IfSome l.found (HasFirst (rests_of l.parts));
  none : IfNone l.found (AllAreEmpty (take l.place (rests_of l.parts)));
}
