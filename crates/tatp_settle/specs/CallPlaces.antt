-- The order of clients and call numbers.
use Rattle.std.specs.Prelude.{◌≡◌, ℕ, ◌<◌, ◌≤◌, ◌⊎◌, Option, Some, None}
use Rattle.tatp_settle.specs.declared.places.CallPlace.{CallPlace}

-- the first call comes before the second: by client, and then by call number
abbrev pub IsSooner : ℕ → ℕ → ℕ → ℕ → Type 0
IsSooner client number client' number' =
    (client < client') ⊎ ((client ≡ client') × (number < number'))

-- `P` holds of the call, and of no call before it
pub record IsLeastCall (P : ℕ → ℕ → Type 0) (client number : ℕ) : Type 0 where
  pub holds : P client number
  pub least : (c n : ℕ) → IsSooner c n client number → P c n → ⊥

-- this holds of no call
abbrev pub HoldsNowhere : (ℕ → ℕ → Type 0) → Type 0
HoldsNowhere P = (client number : ℕ) → P client number → ⊥

-- the least call of which this holds, if it holds of any
abbrev pub IsFirstCall : (ℕ → ℕ → Type 0) → Option CallPlace → Type 0
IsFirstCall P None = HoldsNowhere P
IsFirstCall P (Some place) = IsLeastCall P place.client place.number

-- the least number of which this holds, if it holds of any
abbrev pub IsFirstNumber : (ℕ → Type 0) → Option ℕ → Type 0
IsFirstNumber P None = (number : ℕ) → P number → ⊥
IsFirstNumber P (Some number) = P number × ((n : ℕ) → n < number → P n → ⊥)

-- `P` holds of the call, which is one of these clients', and of no earlier call of theirs
pub record IsLeastAmong (P : ℕ → ℕ → Type 0) (from to client number : ℕ) : Type 0 where
  pub first : from ≤ client
  pub last : client < to
  pub holds : P client number
  pub least : (c n : ℕ) → from ≤ c → IsSooner c n client number → P c n → ⊥

-- the least call of these clients of which this holds, if it holds of any
abbrev pub IsFirstAmong : (ℕ → ℕ → Type 0) → ℕ → ℕ → Option CallPlace → Type 0
IsFirstAmong P from to None =
    (client number : ℕ) → from ≤ client → client < to → P client number → ⊥
IsFirstAmong P from to (Some place) = IsLeastAmong P from to place.client place.number
