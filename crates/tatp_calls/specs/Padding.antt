-- Values kept in a fixed place, with 0 after the last.
use Rattle.std.specs.Prelude.{◌≡◌, ℕ, ◌-◌, ◌≤◌, List, ◌++◌, take, length, replicate}
use Rattle.std.proofs.Common.{sym, subst}
use Rattle.std.proofs.lemmas.List.{length-take-le}

abbrev pub padded : ℕ → List ℕ → List ℕ
padded room xs = xs ++ replicate (room - length xs) 0

-- the first `count` of them are values, and the rest is 0
pub record ArePadded (room count : ℕ) (all : List ℕ) : Type 0 where
  pub room_is : length all ≡ room
  pub most : count ≤ room
  pub zeros : all ≡ padded room (take count all)

-- so the values give back what they are kept in
pub padded_count
    : (room count : ℕ) (all : List ℕ) → ArePadded room count all → length (take count all) ≡ count
padded_count room count all h =
    length-take-le count all (subst (λ n. count ≤ n) (sym h.room_is) h.most)

pub padded_values
    : (room count : ℕ) (all : List ℕ)
    → ArePadded room count all → padded room (take count all) ≡ all
padded_values room count all h = sym h.zeros
