use Rattle.std.proofs.Common.{[], refl, inl, inr}
use Rattle.tatp_linearization_tests.proofs.tests.forwardings.legal.Goals as goal

pub legal_replies-requires : goal.legal_replies-requires
legal_replies-requires c = record {
  reached = (c.args.home.now.tables, [], c.in_ok-explanations.ensures.reached);
  accepted = c.are_accepted.ensures c.if-not-are_accepted.false;
  there = inr (inl refl);
  answered = refl;
}
