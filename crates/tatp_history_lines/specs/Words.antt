-- Words of a text, and short numbers.
use Rattle.std.specs.Prelude.{ℕ, ◌==◌, ◌^◌, nat_lt, if◌then◌else◌, List, [], ◌∷◌, Option, Some, None}
use Rattle.std.specs.Option.{option_map, option_and_then}
use Rattle.tatp_lines.specs.Numbers.{number_of}

-- what comes before the first space of a text, and what follows it, where there is one
unfoldable pub split_word : List ℕ → Option (List ℕ × List ℕ)
split_word [] = None
split_word (b ∷ bs) =
    if b == 32
    then Some ([], bs)
    else option_map (λ (parts : List ℕ × List ℕ). (b ∷ parts.0, parts.1)) (split_word bs)

-- this, where it is below 2 ^ 32
abbrev pub if_short : ℕ → Option ℕ
if_short n = if nat_lt n (2 ^ 32) then Some n else None

-- the number below 2 ^ 32 that a text is
abbrev pub short_number_of : List ℕ → Option ℕ
short_number_of text = option_and_then if_short (number_of text)
