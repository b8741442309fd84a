use Rattle.std.proofs.Common.{vec_len}
use Rattle.tatp_settle_tests.proofs.sites.spend_site.Given as goal

abbrev pub decreases-loop-slot : goal.decreases-loop-slot
decreases-loop-slot l = vec_len l.slots
