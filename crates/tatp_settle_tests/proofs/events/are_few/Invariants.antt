use Rattle.std.proofs.Common.{◌≡◌, ◌+◌, ◌≤◌, drop, length}
use Rattle.tatp_logs.specs.Lists.{lists_of}
use Rattle.tatp_settle.specs.Runs.{joined}
use Rattle.tatp_settle_tests.proofs.events.are_few.Given as goal

abbrev pub invariant-lists : goal.invariant-lists
invariant-lists l = record {
  few : l.count ≤ 200;
  all : l.count + length (joined (lists_of (drop l.list-index l.calls))) ≡ length (joined (lists_of l.calls));
}
