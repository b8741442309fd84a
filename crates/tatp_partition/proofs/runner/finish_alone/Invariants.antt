use Rattle.std.proofs.Common.{◌≡◌, ℕ, ◌-◌, false, None}
use Rattle.tatp_limits.specs.declared.limits.TheConstants.{MAX_STEPS}
use Rattle.tatp_partition.specs.Runners.{GoesOnAlone}
use Rattle.tatp_partition.proofs.runner.finish_alone.Given as goal

abbrev pub invariant-steps : goal.invariant-steps
invariant-steps l = record {
  gone : (k : ℕ) × GoesOnAlone k l.fn.machine l.machine;
  going : l.machine.ended ≡ false;
  home : l.machine.frame.home ≡ None;
}

abbrev pub decreases-steps : goal.decreases-steps
decreases-steps l = MAX_STEPS - l.machine.frame.steps
