use Rattle.std.proofs.Common.{◌≡◌, ℕ, ◌<◌, ◌↔◌, Some, slice_get}
use Rattle.tatp_history.specs.Configurations.{Configuration}
use Rattle.tatp_linearization.specs.declared.configuration.Configuration.{Configuration as Held}
use Rattle.tatp_linearization.specs.AtOnce.{FollowsAtOnce}
use Rattle.tatp_linearization.specs.Covering.{StandsFor}
use Rattle.tatp_linearization.proofs.following.leaves_all.Given as goal

abbrev pub invariant-loop-i : goal.invariant-loop-i
invariant-loop-i l = (k : ℕ) (b : Held) → k < l.i → slice_get l.set k ≡ Some b → (d : Configuration) → StandsFor b d → (e : Configuration) → (e ≡ d) ↔ FollowsAtOnce l.event d e
