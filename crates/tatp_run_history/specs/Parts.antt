-- What is left of clients' parts of a history.
use Rattle.std.specs.Prelude.{◌≡◌, ℕ, ◌||◌, Bool, true, false, nat_le, List, ◌∷◌, ◌++◌, drop, length, map}
use Rattle.tatp_run_history.specs.ClientLines.{client_lines}
use Rattle.tatp_run_history.specs.declared.part.Part.{Part}

-- whether no call is left
abbrev pub is_done : Part → Bool
is_done p =
    nat_le (length p.asks.now) p.call || nat_le (length p.receipts.now.receipts) p.call

-- the lines from a call on
abbrev pub lines_from : Part → List (List ℕ)
lines_from p = client_lines p.client (drop p.call p.asks.now) (drop p.call p.receipts.now.receipts)

-- these lines without the one that the first call is asked, where that is already written
abbrev pub without_asked : Bool → List (List ℕ) → List (List ℕ)
without_asked true lines = drop 1 lines
without_asked false lines = lines

-- the lines that are left
abbrev pub rest_of : Part → List (List ℕ)
rest_of p = without_asked p.is_asked (lines_from p)

abbrev pub rests_of : List Part → List (List (List ℕ))
rests_of parts = map rest_of parts

-- the first line that is left is appended, and isn't left any more
abbrev pub PushesFirst : Part → List ℕ → Part → List ℕ → Type 0
PushesFirst p old p' new =
    (line : List ℕ) × (rest_of p ≡ line ∷ rest_of p') × (new ≡ old ++ line)
