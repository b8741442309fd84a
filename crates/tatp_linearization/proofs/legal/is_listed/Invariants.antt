use Rattle.std.proofs.Common.{◌≡◌, ℕ, ◌<◌, Some, slice_get}
use Rattle.tatp_calls.specs.declared.reply.Reply.{Reply}
use Rattle.tatp_linearization.proofs.legal.is_listed.Given as goal

abbrev pub invariant-loop-i : goal.invariant-loop-i
invariant-loop-i l = (k : ℕ) (other : Reply) → k < l.i → slice_get l.replies k ≡ Some other → l.reply ≡ other → ⊥
