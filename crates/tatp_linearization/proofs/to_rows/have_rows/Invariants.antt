use Rattle.std.proofs.Common.{◌≡◌, ℕ, ◌<◌, Some, slice_get}
use Rattle.tatp_linearization.specs.declared.configuration.Configuration.{Configuration as Held}
use Rattle.tatp_linearization.proofs.to_rows.have_rows.Given as goal

abbrev pub invariant-loop-i : goal.invariant-loop-i
invariant-loop-i l = (k : ℕ) (b : Held) → k < l.i → slice_get l.set k ≡ Some b → b.home.s_id ≡ l.rows.s_id → b.home.tables ≡ l.rows.tables → ⊥
