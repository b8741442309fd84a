use Rattle.std.proofs.Common.{◌≡◌, ℕ, ◌<◌, ◌≤◌, Some, slice_get}
use Rattle.tatp_linearization.specs.declared.configuration.Configuration.{Configuration as Held}
use Rattle.tatp_linearization.specs.Held.{seen}
use Rattle.tatp_linearization.proofs.covering.is_covered.Given as goal

abbrev pub invariant-loop-i : goal.invariant-loop-i
invariant-loop-i l = (k : ℕ) (b : Held) → k < l.i → slice_get l.set k ≡ Some b → b.home.s_id ≡ l.d.home.s_id → seen b ≡ seen l.d → l.d.overwritten ≤ b.overwritten → ⊥
