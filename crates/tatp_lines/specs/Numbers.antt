-- Numbers in decimal, and ranges of numbers.
use Rattle.std.specs.Prelude.{ℕ, ◌^◌, ◌==◌, nat_le, nat_lt, Bool, not, ◌&&◌, ◌||◌, if◌then◌else◌, List, length, slice_index, Option, Some, None}
use Rattle.std.specs.Str.{all_ascii_digits}
use Rattle.std.specs.Str.Parse.{digits_value}

-- from the least to the most, both among them
abbrev pub is_between : ℕ → ℕ → ℕ → Bool
is_between least most n = nat_le least n && nat_le n most

-- digits with no leading zero, of a number below 2 ^ 64
unfoldable pub is_number : List ℕ → Bool
is_number text =
    nat_lt 0 (length text)
    && (all_ascii_digits text
    && ((not (slice_index text 0 == 48) || (length text == 1))
    && nat_lt (digits_value 10 text) (2 ^ 64)))

-- the number that a text is
unfoldable pub number_of : List ℕ → Option ℕ
number_of text = if is_number text then Some (digits_value 10 text) else None
