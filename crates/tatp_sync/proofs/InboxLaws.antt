-- Puts, takes and new ends keep the rule of an inbox.
use Rattle.std.proofs.Common.{◌≡◌, ℕ, List, [], ◌∷◌, ◌++◌, refl}
use Rattle.std.proofs.lemmas.List.Elements.{All-push, All-head, All-tail}
use Rattle.crossbeam_channel.specs.Fifo.{Pushes, Pops, Forks}
use Rattle.tatp_sync.specs.Inboxes.{IsRuled}

module _ {M : Type 0} (allows : M → Type 0) (port : ℕ) (history : List M) where
  -- an allowed message joins at the back
  pub puts : (room : ℕ) (message : M) → allows message
      → Pushes (IsRuled allows) room port history message (λ after. after ≡ history ++ message ∷ [])
  puts room message allowed messages known short all at =
      (history ++ message ∷ [], All-push allows messages message all allowed, refl)

  -- the message at the front leaves, which is allowed
  pub takes : Pops (IsRuled allows) port history (λ message after. (after ≡ history ++ message ∷ []) × allows message)
  takes message messages known all at =
      (history ++ message ∷ [], All-tail allows message messages all, (refl, All-head allows message messages all))

  -- one more end
  pub forks : Forks (IsRuled allows) port history history []
  forks messages known all at = all
