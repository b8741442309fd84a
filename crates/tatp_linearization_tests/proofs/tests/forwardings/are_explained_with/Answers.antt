use Rattle.std.proofs.Common.{[]}
use Rattle.tatp_linearization_tests.proofs.tests.forwardings.are_explained_with.Goals as goal

pub follow-requires : goal.follow-requires
follow-requires c = record {
  reached = (c.args.home.now.tables, [], c.in_ok-explanations.ensures.reached);
  some = c.requires;
  accepted = c.are_accepted.ensures c.if-not-are_accepted.false;
}
