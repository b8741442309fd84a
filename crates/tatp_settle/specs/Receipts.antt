-- Receipts of a client's calls.
use Rattle.std.specs.Prelude.{◌≡◌, ℕ, ◌<◌, Bool, true, false}
use Rattle.tatp_logs.specs.declared.receipt.Receipt.{Receipt}
use Rattle.tatp_logs.specs.declared.receipt.Receipt.TheVariants.{Done, Refused}

-- whether the receipt is of a completed call
abbrev pub is_done : Receipt → Bool
is_done (Done client number reply extent stamp) = true
is_done (Refused client number) = false

-- the receipt is that of this client and call number
abbrev pub IsOf : ℕ → ℕ → Receipt → Type 0
IsOf client number (Done client' number' reply extent stamp) =
    (client' ≡ client) × (number' ≡ number)
IsOf client number (Refused client' number') = (client' ≡ client) × (number' ≡ number)

-- the second stamp is above the first, where both calls were completed
abbrev pub IsLater : Receipt → Receipt → Type 0
IsLater (Done client number reply extent stamp) (Done client' number' reply' extent' stamp') =
    stamp < stamp'
IsLater (Done client number reply extent stamp) (Refused client' number') = Unit {0}
IsLater (Refused client number) receipt = Unit {0}
