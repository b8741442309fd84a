use Rattle.std.proofs.Common.{[], arith}
use Rattle.tatp_linearization_tests.proofs.tests.forwardings.first.Goals as goal

pub first_unexplained-requires : goal.first_unexplained-requires
first_unexplained-requires c = record {
  reached = (c.args.home.now.tables, [], c.in_ok-explanations.ensures.reached);
  accepted = c.are_accepted.ensures c.if-not-are_accepted.false;
  after = c.are_after.ensures c.if-not-are_after.false;
  times = omega arith;
}
