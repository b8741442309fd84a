use Rattle.std.proofs.Common.{vec_len}
use Rattle.tatp_settle_tests.proofs.sites.spend_parcels.Given as goal

abbrev pub decreases-loop-parcel : goal.decreases-loop-parcel
decreases-loop-parcel l = vec_len l.rest
