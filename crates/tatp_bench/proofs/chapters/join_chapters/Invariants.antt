use Rattle.std.proofs.Common.{◌≡◌, ◌++◌, vec_len}
use Rattle.tatp_logs.specs.Lists.{lists_of}
use Rattle.tatp_settle.specs.Runs.{joined}
use Rattle.tatp_bench.proofs.chapters.join_chapters.Given as goal

abbrev pub invariant-loop-last : goal.invariant-loop-last
invariant-loop-last l = joined (lists_of l.rest.items) ++ l.all.items ≡ joined (lists_of l.fn.lists.items)

abbrev pub decreases-loop-last : goal.decreases-loop-last
decreases-loop-last l = vec_len l.rest
