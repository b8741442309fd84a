-- The numbers of refusals and faults.
use Rattle.std.specs.Prelude.{ℕ, zero, suc, Bool, nat_le, ◌&&◌, List, [], ◌∷◌, ◌++◌, if◌then◌else◌}

-- 1 to 57
abbrev pub is_explained : ℕ → Bool
is_explained number = nat_le 1 number && nat_le number 57

-- those below a number, in order
abbrev pub numbers_below : ℕ → List ℕ
numbers_below zero = []
numbers_below (suc n) = numbers_below n ++ (if is_explained n then n ∷ [] else [])

-- all of them
abbrev pub all_numbers : List ℕ
all_numbers = numbers_below 58
