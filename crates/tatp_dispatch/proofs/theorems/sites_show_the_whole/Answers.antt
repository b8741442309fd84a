use Rattle.tatp_dispatch.proofs.SeenLaws.{call_seen, homes_seen}
use Rattle.tatp_dispatch.proofs.theorems.sites_show_the_whole.Goals as goal

pub returns : goal.returns
returns c = record { call = call_seen; homes = homes_seen }
