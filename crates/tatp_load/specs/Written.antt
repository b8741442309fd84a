-- What a run writes of a text that is known before it begins. Old and new are the bytes that a
-- writer holds.
use Rattle.std.specs.Prelude.{◌≡◌, ℕ, List, ◌++◌, Option}
use Rattle.std.specs.Io.KnownBytes.{Appends}

-- new is old and then a front of the text: none, some or all of its bytes
abbrev pub WritesFrontOf : List ℕ → Option (List ℕ) → Option (List ℕ) → Type 0
WritesFrontOf text old new =
    (front : List ℕ) × (rest : List ℕ) × (text ≡ front ++ rest) × Appends old new front
