-- Lists of Subscriber rows: which s_ids and numbers are in them. Equal rows count twice.
use Rattle.std.specs.Prelude.{◌≡◌, ℕ, ◌≤◌, List, [], ◌∷◌, Option, length, find, count_by}
use Rattle.std.specs.Option.{option_map}
use Rattle.tatp_tables.specs.Tuples.{Tuple}
use Rattle.tatp_tables.specs.Keys.{has_number}
use Rattle.tatp_tables.specs.Clean.{count_of_key}
use Rattle.tatp_numbers.specs.Homes.{s_id_of}

-- each of 1 to the number of rows is the s_id of exactly one of them
abbrev pub IdsRunToLength : List Tuple → Type 0
IdsRunToLength rows = (s : ℕ) → 1 ≤ s → s ≤ length rows → count_of_key (s ∷ []) rows ≡ 1

-- no number occurs twice
abbrev pub NumbersStandOnce : List Tuple → Type 0
NumbersStandOnce rows = (n : ℕ) → count_by (has_number n) rows ≤ 1

-- some number occurs twice
abbrev pub NumberRepeats : List Tuple → Type 0
NumberRepeats rows = (n : ℕ) × (2 ≤ count_by (has_number n) rows)

-- the s_id of the first row with this number
abbrev pub s_id_at : List Tuple → ℕ → Option ℕ
s_id_at rows n = option_map s_id_of (find (has_number n) rows)
