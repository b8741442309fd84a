use Rattle.std.proofs.Common.{All, take}
use Rattle.tatp_partition.specs.Sound.{IsSite}
use Rattle.tatp_settle.proofs.gathering.what_holds_of_these_sites.Given as goal

abbrev pub invariant-sites : goal.invariant-sites
invariant-sites l = All IsSite (take l.site-index l.sites)
