use Rattle.std.proofs.Common.{◌≡◌, ◌<◌, ◌+◌, ℕ, [], ◌∷◌}
use Rattle.tatp_tables.specs.Clean.{count_of_key}
use Rattle.tatp_audits.proofs.ids.least_astray.Given as goal

abbrev pub invariant-loop-before : goal.invariant-loop-before
invariant-loop-before g l = (k : ℕ) → k < l.before → count_of_key ((k + 1) ∷ []) l.rows ≡ 1
