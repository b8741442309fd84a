use Rattle.std.proofs.Common.{vec_len}
use Rattle.tatp_threads_tests.proofs.tests.threads.look.Given as goal

abbrev pub decreases-loop-site : goal.decreases-loop-site
decreases-loop-site g l = vec_len l.rest
