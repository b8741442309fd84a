use Rattle.std.proofs.Common.{◌≡◌, ◌+◌, ◌≤◌, ◌++◌, All, map, reverse, vec_len}
use Rattle.std.specs.Vec.{vec_capacity}
use Rattle.tatp_settle.specs.Closings.{closed_site, IsClosedSite}
use Rattle.tatp_settle.proofs.gathering.close_all.Given as goal

abbrev pub invariant-loop-site : goal.invariant-loop-site
invariant-loop-site l = record {
  closed : map closed_site l.rest.items ++ reverse l.closed.items ≡ map closed_site l.initial.rest.items;
  holds : All IsClosedSite l.closed.items;
  room : vec_len l.rest + vec_len l.closed ≤ vec_capacity l.closed;
}

abbrev pub decreases-loop-site : goal.decreases-loop-site
decreases-loop-site l = vec_len l.rest
