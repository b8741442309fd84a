-- The s_ids of a list of rows: where each of 1 to its length stands once, no other stands there.
use Rattle.std.specs.Prelude.{◌≡◌, ℕ, ◌≤◌, ◌<◌, List, [], ◌∷◌, length}
use Rattle.std.proofs.Common.{arith}
use Rattle.std.proofs.Math.Nat.{le-max_right}
use Rattle.tatp_tables.specs.Tuples.{Tuple}
use Rattle.tatp_tables.specs.Keys.{has_key}
use Rattle.tatp_tables.specs.Clean.{count_of_key, IsClean}
use Rattle.tatp_tables.specs.declared.row.Rows.{Rows}
use Rattle.tatp_tables.proofs.CountLaws.{within, within_apart, count_by-apart, count-within}
use Rattle.tatp_numbers.specs.Lists.{IdsRunToLength, NumbersStandOnce}

pub no_other_id : (xs : List Tuple) (s : ℕ) → IdsRunToLength xs → (1 ≤ s → length xs < s) → count_of_key (s ∷ []) xs ≡ 0
no_other_id xs s ids out = omega (arith, count-within (length xs) xs ids, count_by-apart (within (length xs)) (has_key (s ∷ [])) (λ row. within_apart (length xs) s row out) xs)

-- of clean rows, the s_ids are those that a directory is built from, and no number stands twice
pub clean_ids : (r : Rows) → IsClean r → IdsRunToLength r.subscribers
clean_ids r clean s least most = clean.ids s least (omega (arith, most, le-max_right 1 (length r.subscribers)))

pub clean_numbers : (r : Rows) → IsClean r → NumbersStandOnce r.subscribers
clean_numbers r clean = clean.numbers
