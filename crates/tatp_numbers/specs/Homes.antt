-- The home of a key: the s_id of the subscriber that it names.
use Rattle.std.specs.Prelude.{ℕ, [], ◌∷◌, Option, slice_index}
use Rattle.std.specs.Option.{option_map}
use Rattle.tatp_tables.specs.Tuples.{Tuple, Tuples}
use Rattle.tatp_tables.specs.Keys.{row_at, row_with_number}
use Rattle.tatp_numbers.specs.declared.key.Key.{Key}
use Rattle.tatp_numbers.specs.declared.key.Key.TheVariants.{Id, Number}

abbrev pub s_id_of : Tuple → ℕ
s_id_of row = slice_index row 0

-- the s_id of the first Subscriber row with that s_id, or with that number; none where there is
-- none
abbrev pub home_of_key : Tuples → Key → Option ℕ
home_of_key u (Id s) = option_map s_id_of (row_at u (s ∷ []))
home_of_key u (Number n) = option_map s_id_of (row_with_number u n)
