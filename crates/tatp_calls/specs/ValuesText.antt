-- Values in text, one after another, each in the form of the column at its place.
use Rattle.std.specs.Prelude.{ℕ, Bool, true, false, ◌&&◌, List, [], ◌∷◌, ◌++◌, Option, Some, None, decimal}
use Rattle.std.specs.Option.{option_map, option_and_then}
use Rattle.tatp_texts.specs.Text.{value_of, value_text, is_printable}

-- exactly one value of each of these columns
unfoldable pub values_of : List ℕ → List (List ℕ) → Option (List ℕ)
values_of [] [] = Some []
values_of [] (field ∷ more) = None
values_of (c ∷ columns) [] = None
values_of (c ∷ columns) (field ∷ more) =
    option_and_then
    (λ v. option_map (λ rest. v ∷ rest) (values_of columns more))
    (value_of c field)

-- the values, each after a space; in decimal past the last column
unfoldable pub values_text : List ℕ → List ℕ → List ℕ
values_text columns [] = []
values_text [] (v ∷ more) = 32 ∷ decimal v ++ values_text [] more
values_text (c ∷ columns) (v ∷ more) = 32 ∷ value_text c v ++ values_text columns more

-- whether each column has a value that prints in its form
abbrev pub are_printable : List ℕ → List ℕ → Bool
are_printable [] [] = true
are_printable [] (v ∷ more) = false
are_printable (c ∷ columns) [] = false
are_printable (c ∷ columns) (v ∷ more) = is_printable c v && are_printable columns more
