use Rattle.std.proofs.Common.{◌≡◌, ℕ, ◌<◌, get_or}
use Rattle.tatp_workers.specs.declared.client.Client.{Client}
use Rattle.tatp_workers.specs.declared.client.ClientState.TheVariants.{Ended}
use Rattle.tatp_workers.proofs.asking.have_ended.Given as goal

abbrev pub invariant-loop-client : goal.invariant-loop-client
invariant-loop-client g l = (k : ℕ) → k < l.client-index → (d : Client g.row.E.Denot) → (get_or l.clients k d).state ≡ Ended
