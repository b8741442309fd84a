use Rattle.std.proofs.Common.{◌≡◌, ℕ, ◌<◌, Some, slice_get}
use Rattle.tatp_calls.specs.Transactions.{transaction}
use Rattle.tatp_linearization.specs.declared.configuration.Configuration.{Configuration as Held}
use Rattle.tatp_linearization.specs.Listed.{IsListed}
use Rattle.tatp_linearization.proofs.legal.replies_on.Given as goal

abbrev pub invariant-rows : goal.invariant-rows
invariant-rows l = (k : ℕ) (d : Held) → k < l.i → slice_get l.rows k ≡ Some d → IsListed (transaction l.call d.home.tables).reply l.replies.items
