-- The fields of a text.
use Rattle.std.specs.Prelude.{ℕ, ◌==◌, List}
use Rattle.std.specs.List.{slice_split}

-- the parts of a text between the bytes that separate them
abbrev pub fields_of : ℕ → List ℕ → List (List ℕ)
fields_of separator text = slice_split (λ byte. byte == separator) text
