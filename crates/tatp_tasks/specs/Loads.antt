-- Rows and calls that can be drawn and written.
use Rattle.std.specs.Prelude.{◌≤◌, ◌<◌}
use Rattle.tatp_limits.specs.declared.limits.TheConstants.{MAX_CLIENTS, MAX_DRAWN_CALLS, MAX_SUBSCRIBERS}
use Rattle.tatp_tasks.specs.declared.load.CallsPlan.{CallsPlan}
use Rattle.tatp_tasks.specs.declared.load.RowsPlan.{RowsPlan}

-- there can be this many subscribers
pub record IsRowsPlan (plan : RowsPlan) : Type 0 where
  pub some : 1 ≤ plan.subscribers
  pub few : plan.subscribers ≤ MAX_SUBSCRIBERS

-- there can be this many subscribers and calls, and a client of this number
pub record IsCallsPlan (plan : CallsPlan) : Type 0 where
  pub some_subscribers : 1 ≤ plan.subscribers
  pub few_subscribers : plan.subscribers ≤ MAX_SUBSCRIBERS
  pub some_calls : 1 ≤ plan.calls
  pub few_calls : plan.calls ≤ MAX_DRAWN_CALLS
  pub client : plan.client < MAX_CLIENTS
