use Rattle.std.proofs.Common.{◌≡◌, ◌==◌, drop, find}
use Rattle.tatp_extents.specs.Extents.{ExtentState}
use Rattle.tatp_settle.specs.Closings.{extents_at}
use Rattle.tatp_settle.proofs.logs.extent_at.Given as goal

abbrev pub invariant-sites : goal.invariant-sites
invariant-sites l =
    find (λ (x : ExtentState). x.number == l.number) (extents_at (drop l.site-index l.sites))
    ≡ find (λ (x : ExtentState). x.number == l.number) (extents_at l.sites)
