-- What executors and the debugger do, one thing after another.
use Rattle.std.specs.Prelude.{◌≡◌, ℕ, List, [], ◌∷◌, Bool, true, false, Result, Ok, Err}
use Rattle.tatp_partition.specs.declared.item.Item.{Item}
use Rattle.tatp_partition.specs.declared.item.Completion.{Completion}
use Rattle.tatp_partition.specs.declared.item.Stepped.{Stepped}
use Rattle.tatp_partition.specs.declared.item.Stepped.TheVariants.{Moved, Ended}
use Rattle.tatp_partition.specs.declared.refusal.SiteRefusal.{SiteRefusal}
use Rattle.tatp_logs.specs.declared.receipt.Receipt.{Receipt}
use Rattle.tatp_logs.specs.declared.receipt.Receipt.TheVariants.{Done, Refused}
use Rattle.tatp_workers.specs.declared.delivery.Delivery.TheVariants.{Got, Dropped}
use Rattle.tatp_workers.specs.declared.effects.Effect.{Effect}
use Rattle.tatp_workers.specs.declared.effects.Effect.TheVariants.{Sends, Answers, Tells}
use Rattle.tatp_workers.specs.declared.offers.Offered.{Offered}
use Rattle.tatp_workers.specs.declared.offers.Offered.TheVariants as offered

-- the receipt of a completed call: what its entry says, and in which extent's log the entry is
abbrev pub receipt_of : Completion → Receipt
receipt_of c = Done c.entry.client c.entry.number c.entry.reply c.extent c.entry.stamp

-- a call is completed: its client is answered, and then the gate is notified
abbrev pub concluding : ℕ → Completion → List Effect
concluding partition c =
    Answers c.entry.client (Got (receipt_of c)) ∷ Tells partition c.entry.client ∷ []

-- what follows on a step: where it ended a call, that is completed
abbrev pub effects_of_step : ℕ → Result Stepped SiteRefusal → List Effect
effects_of_step partition (Ok Moved) = []
effects_of_step partition (Ok (Ended completion)) = concluding partition completion
effects_of_step partition (Err refusal) = []

-- a call is sent on; where it comes back, its client gets the answer that it was dropped
abbrev pub effects_of_sending : Item → Bool → List Effect
effects_of_sending item true = Sends item true ∷ []
effects_of_sending item false = Sends item false ∷ Answers item.client Dropped ∷ []

-- what follows from what became of a call that was offered
abbrev pub Follows : Item → Offered → List Effect → Type 0
Follows item offered.Began effects = effects ≡ []
Follows item offered.Again effects = effects ≡ []
Follows item offered.Away effects = (is_sent : Bool) × (effects ≡ effects_of_sending item is_sent)
Follows item offered.Denied effects =
    effects ≡ Answers item.client (Got (Refused item.client item.number)) ∷ []
Follows item offered.Dropped effects = effects ≡ Answers item.client Dropped ∷ []
