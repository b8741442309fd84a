use Rattle.std.proofs.Common.{◌≡◌, ◌-◌, false, Some}
use Rattle.tatp_homes.specs.Home.{IsHome}
use Rattle.tatp_limits.specs.declared.limits.TheConstants.{MAX_STEPS}
use Rattle.tatp_evaluation_tests.proofs.tests.machine.finish.Given as goal

abbrev pub invariant-steps : goal.invariant-steps
invariant-steps l = record {
  going : l.machine.ended ≡ false;
  at : l.machine.frame.home ≡ Some l.home.s_id;
  same : l.home.s_id ≡ l.fn.home.s_id;
  home : IsHome l.home;
}

abbrev pub decreases-steps : goal.decreases-steps
decreases-steps l = MAX_STEPS - l.machine.frame.steps
