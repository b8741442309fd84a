use Rattle.std.proofs.Common.{vec_len}
use Rattle.tatp_threads_tests.proofs.tests.threads.spend_moved.Given as goal

abbrev pub decreases-loop-slot : goal.decreases-loop-slot
decreases-loop-slot l = vec_len l.slots
