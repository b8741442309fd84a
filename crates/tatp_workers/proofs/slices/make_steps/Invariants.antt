use Rattle.std.proofs.Common.{◌≡◌, None}
use Rattle.tatp_workers.proofs.SliceLaws.{WentOn}
use Rattle.tatp_workers.proofs.slices.make_steps.Given as goal

abbrev pub invariant-loop-made : goal.invariant-loop-made
invariant-loop-made g l = record {
  went_on : WentOn l._made l.initial.site l.site (g.O.Observer.observed l.initial.observer) (g.O.Observer.observed l.observer);
  going : l.buffer ≡ None;
}
