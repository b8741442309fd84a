-- What was asked, where the arguments stand in a list, is the same where it is longer.
use Rattle.std.proofs.Common.{◌≡◌, ℕ, List, ◌++◌, refl, ap}
use Rattle.tatp_calls.specs.declared.ask.Ask.TheVariants as ask
use Rattle.tatp_logs.specs.declared.kept_ask.KeptAsk.{KeptAsk}
use Rattle.tatp_logs.specs.declared.kept_ask.KeptAsk.TheVariants.{Txn, Raw}
use Rattle.tatp_logs.specs.KeptAsks.{HasArgumentsIn, ask_in}
use Rattle.tatp_logs.proofs.PartLaws.{part_of_more}

pub same_ask : (values more : List ℕ) (x : KeptAsk) → HasArgumentsIn values x → ask_in (values ++ more) x ≡ ask_in values x
same_ask values more (Txn call) h = refl
same_ask values more (Raw procedure key first count) h = ap (λ (xs : List ℕ). ask.Raw (record { procedure = procedure; arguments = xs; key = key })) (part_of_more values more first count h.0)
