use Rattle.std.proofs.Common.{◌≡◌, ℕ, ◌<◌, false, Some, slice_get}
use Rattle.tatp_history.specs.declared.observed.Observed.{Observed}
use Rattle.tatp_linearization.specs.Doomed.{sets_location}
use Rattle.tatp_linearization.proofs.later.no_other_sets.Given as goal

abbrev pub invariant-loop-i : goal.invariant-loop-i
invariant-loop-i l = (k : ℕ) (x : Observed) → k < l.i → slice_get l.opened k ≡ Some x → (k ≡ l.place → ⊥) → sets_location l.location x.call ≡ false
