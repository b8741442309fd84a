use Rattle.std.proofs.Common.{None}
use Rattle.tatp_settle.specs.CallPlaces.{IsFirstAmong}
use Rattle.tatp_settle.proofs.searches.first_in_turn.Given as goal

abbrev pub invariant-clients : goal.invariant-clients
invariant-clients g l = IsFirstAmong (g.S.Search.sought l.search) l.from l.client None
