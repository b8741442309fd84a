use Rattle.std.proofs.Common.{All, subst}
use Rattle.std.proofs.lemmas.List.{take_all}
use Rattle.std.proofs.lemmas.List.Elements.{All-more}
use Rattle.tatp_partition.specs.Sound.{IsSite}
use Rattle.tatp_settle.proofs.gathering.what_holds_of_these_sites.Goals as goal

pub sites-preserved : goal.sites-preserved
sites-preserved c = All-more IsSite c.args.sites.now c.sites.site-index c.site-item.result c.sites-test.true c.sites.invariant (subst IsSite c.site-item.is c.what_holds_of_every_site.ensures)

pub returns : goal.returns
returns c = subst (All IsSite) (take_all c.sites.site-index c.args.sites.now c.sites-test.false) c.sites.invariant
