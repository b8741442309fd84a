use Rattle.std.proofs.Common.{◌≡◌, ℕ, None}
use Rattle.tatp_partition.specs.Running.{GoesOnFor}
use Rattle.tatp_partition.proofs.FinishLaws.{left_at}
use Rattle.tatp_partition.proofs.site.Site.finish_by_steps.Given as goal

abbrev pub invariant-steps : goal.invariant-steps
invariant-steps l = record {
  gone : (k : ℕ) × GoesOnFor k l.fn.self l.self;
  empty : l.buffer ≡ None;
}

abbrev pub decreases-steps : goal.decreases-steps
decreases-steps l = left_at l.self
