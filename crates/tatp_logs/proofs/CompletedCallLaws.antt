-- One more completed call is kept.
use Rattle.std.proofs.Common.{◌≡◌, ℕ, List, ◌++◌, append_assoc, ◌∙◌, ap}
use Rattle.tatp_calls.specs.declared.ask.Ask.{Ask}
use Rattle.tatp_logs.specs.declared.completed_call.CompletedCall.{CompletedCall}
use Rattle.tatp_logs.specs.declared.kept_ask.KeptAsk.{KeptAsk}
use Rattle.tatp_logs.specs.KeptAsks.{HasArgumentsIn, ask_in}
use Rattle.tatp_logs.specs.CompletedCalls.{StandsWith, entry_in}
use Rattle.tatp_logs.proofs.KeptReplyLaws.{same_reply}
use Rattle.tatp_logs.proofs.KeptAskLaws.{same_ask}

-- with more values behind its own, a call is the same
pub same_entry : (values more : List ℕ) (x : CompletedCall) → StandsWith values x → entry_in (values ++ more) x ≡ entry_in values x
same_entry values more x h =
    let asked = same_ask values more x.ask h.0 in
    let replied = same_reply values more x.reply h.1 in
    λ i. record { client = x.client; number = x.number; ask = asked i; reply = replied i; stamp = x.stamp }

-- what is kept behind what was kept stands behind all others
pub twice_behind : (values between values' : List ℕ) → (more : List ℕ) × (between ≡ values ++ more) → (more : List ℕ) × (values' ≡ between ++ more) → (more : List ℕ) × (values' ≡ values ++ more)
twice_behind values between values' first second = (first.0 ++ second.0, second.1 ∙ (ap (λ (xs : List ℕ). xs ++ second.0) first.1 ∙ append_assoc values first.0 second.0))

-- what was asked is the same where the outputs are kept behind the arguments
pub still_asks : (between values' : List ℕ) (x : KeptAsk) (asked : Ask) → HasArgumentsIn between x → (more : List ℕ) × (values' ≡ between ++ more) → ask_in between x ≡ asked → ask_in values' x ≡ asked
still_asks between values' x asked h behind same = ap (λ (xs : List ℕ). ask_in xs x) behind.1 ∙ (same_ask between behind.0 x h ∙ same)
