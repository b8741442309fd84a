use Rattle.std.proofs.Common.{◌≡◌, ℕ, ◌<◌, Some, slice_get}
use Rattle.tatp_history.specs.declared.observed.Observed.{Observed}
use Rattle.tatp_linearization.proofs.effects.kind_at.Given as goal

abbrev pub invariant-loop-i : goal.invariant-loop-i
invariant-loop-i l = (k : ℕ) (x : Observed) → k < l.i → slice_get l.c.opened.items k ≡ Some x → x.asked ≡ l.asked → ⊥
