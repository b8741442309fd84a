-- One configuration with no open call.
use Rattle.std.specs.Prelude.{◌≡◌, ℕ, List, [], ◌∷◌}
use Rattle.tatp_calls.specs.declared.reply.Reply.{Reply}
use Rattle.tatp_history.specs.declared.event.Event.{Event}
use Rattle.tatp_history.specs.declared.event.Event.TheVariants.{Asks, Ends}
use Rattle.tatp_history.specs.declared.observed.Recorded.TheVariants.{Exactly}
use Rattle.tatp_history.specs.declared.observed.Outcome.TheVariants.{Answered}
use Rattle.tatp_history.specs.declared.observed.Observed.{Observed}
use Rattle.tatp_linearization.specs.declared.configuration.Configuration.{Configuration as Held}
use Rattle.tatp_linearization.specs.declared.explanations.Explanations.{Explanations}

-- just one configuration is kept, and no call is open there
abbrev pub IsSingle : Explanations → Type 0
IsSingle explanations =
    (c : Held) × (explanations.configurations.items ≡ c ∷ []) × (c.opened.items ≡ [])

-- the events of a call that is answered before anything else happens
abbrev pub events_alone : Observed → ℕ → List Event
events_alone x at = Asks x ∷ Ends x.asked at ∷ []

-- the call, answered at a time with this reply
abbrev pub answered_with : Observed → ℕ → Reply → Observed
answered_with x at reply = record {
  asked = x.asked;
  call = x.call;
  outcome = Answered at (Exactly reply);
}
