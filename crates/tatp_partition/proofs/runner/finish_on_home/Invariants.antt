use Rattle.std.proofs.Common.{◌≡◌, ℕ, ◌-◌, false, Some}
use Rattle.tatp_limits.specs.declared.limits.TheConstants.{MAX_STEPS}
use Rattle.tatp_partition.specs.Runners.{GoesOnOnHome}
use Rattle.tatp_partition.proofs.runner.finish_on_home.Given as goal

abbrev pub invariant-steps : goal.invariant-steps
invariant-steps l = record {
  gone : (k : ℕ) × GoesOnOnHome k l.fn.machine l.fn.home l.machine l.home;
  going : l.machine.ended ≡ false;
  home : l.machine.frame.home ≡ Some l.home.s_id;
}

abbrev pub decreases-steps : goal.decreases-steps
decreases-steps l = MAX_STEPS - l.machine.frame.steps
