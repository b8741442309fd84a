-- Finds: the row of a set that begins with a key, the subscriber with a number.
use Rattle.std.specs.Prelude.{ℕ, Bool, true, false, ◌&&◌, ◌==◌, List, [], ◌∷◌, Option, find, slice_index}
use Rattle.tatp_tables.specs.Tuples.{Tuple, Tuples, rows_of}

-- whether the first columns of the row are these
abbrev pub has_key : List ℕ → Tuple → Bool
has_key [] row = true
has_key (k ∷ ks) [] = false
has_key (k ∷ ks) (x ∷ xs) = x == k && has_key ks xs

-- the first row, in the order of the columns, that begins with this key
abbrev pub row_at : Tuples → List ℕ → Option Tuple
row_at u key = find (has_key key) (rows_of u)

-- whether a Subscriber row has this sub_nbr
abbrev pub has_number : ℕ → Tuple → Bool
has_number n row = slice_index row 1 == n

-- the first Subscriber row with this sub_nbr
abbrev pub row_with_number : Tuples → ℕ → Option Tuple
row_with_number u n = find (has_number n) (rows_of u)
