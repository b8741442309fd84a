-- Stamps that rise.
use Rattle.std.specs.Prelude.{ℕ, nat_lt, Bool, true, List, [], ◌∷◌, Option, Some, None}
use Rattle.tatp_calls.specs.declared.entry.Entry.{Entry}

-- whether the stamp is above the last one, if there is one
abbrev pub is_above : Option ℕ → ℕ → Bool
is_above None stamp = true
is_above (Some last) stamp = nat_lt last stamp

-- whether the first stamp of these entries, if there is one, is above this
abbrev pub first_is_above : ℕ → List Entry → Bool
first_is_above last [] = true
first_is_above last (entry ∷ more) = nat_lt last entry.stamp
