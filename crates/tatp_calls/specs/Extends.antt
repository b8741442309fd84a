-- Texts that were appended to.
use Rattle.std.specs.Prelude.{◌≡◌, ℕ, ◌<◌, List, ◌++◌, slice_index}

-- the text before, and more after it; it may be cut between the two, since what is more begins with
-- an ASCII character
pub record Extends (before text : List ℕ) : Type 0 where
  pub more : List ℕ
  pub is : text ≡ before ++ more
  pub begins : slice_index more 0 < 128
