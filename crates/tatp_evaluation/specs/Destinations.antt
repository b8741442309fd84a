-- The number of one forwarding of a facility.
use Rattle.std.specs.Prelude.{ℕ, ◌&&◌, nat_lt, nat_le, Option, Some, None, if◌then◌else◌}
use Rattle.tatp_tables.specs.Tuples.{Tuple}
use Rattle.tatp_calls.specs.Transactions.{end_time_of, numberx_of}

-- the number of a forwarding with this start time, if there is one and it is in time
abbrev pub number_in_time : ℕ → ℕ → ℕ → Option Tuple → Option ℕ
number_in_time b e start None = None
number_in_time b e start (Some cf) =
    if nat_le start b && nat_lt e (end_time_of cf) then Some (numberx_of cf) else None
