use Rattle.tatp_linearization_tests.proofs.tests.forwardings.follow.Goals as goal

pub follow_alone-requires-clause-single : goal.follow_alone-requires-clause-single
follow_alone-requires-clause-single c = c.is_single.ensures.0 c.if-not-is_single.false
