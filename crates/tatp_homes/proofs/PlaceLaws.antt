-- Finds in a home's cells: what stands at the place of a key, and nothing where a key has no place.
use Rattle.std.specs.Prelude.{◌≡◌, ◌≢◌, ℕ, Bool, true, false, cond, List, [], ◌∷◌, Option, Some, None, IfNone, find, is_some, length, slice_get, slice_index, slice_index_or}
use Rattle.std.specs.List.{list_any}
use Rattle.std.proofs.Common.{refl, ap, ◌∙◌, arith}
use Rattle.tatp_tables.specs.Tuples.{Tuple, set_of}
use Rattle.tatp_tables.specs.Keys.{has_key, has_number, row_at, row_with_number}
use Rattle.tatp_homes.specs.Cells.{present, StandAt, subscriber_keys, type_keys, forwarding_keys}
use Rattle.tatp_homes.proofs.CellLaws.{row_at-place, row_at-nowhere, rows_of-present}

pub if_none : {A : Type 0} (o : Option A) (P Q : Type 0) → (P → Q) → IfNone o P → IfNone o Q
if_none None P Q f p = f p
if_none (Some x) P Q f p = tt

-- ---- subscribers
pub subscriber_at : (a s : ℕ) (cell : Option Tuple) → a ≡ s → StandAt s subscriber_keys (cell ∷ []) → row_at (set_of (present (cell ∷ []))) (a ∷ []) ≡ cell
subscriber_at a s cell e all = ap (λ x. row_at (set_of (present (cell ∷ []))) (x ∷ [])) e ∙ row_at-place s [] subscriber_keys (cell ∷ []) 0 refl all refl

pub subscriber_none : (a s : ℕ) (cell : Option Tuple) → a ≢ s → StandAt s subscriber_keys (cell ∷ []) → row_at (set_of (present (cell ∷ []))) (a ∷ []) ≡ None
subscriber_none a s cell n all = row_at-nowhere a s [] subscriber_keys (cell ∷ []) refl all refl (λ e. absurd (n e))

pub number_at : (s n : ℕ) (cell : Option Tuple) → StandAt s subscriber_keys (cell ∷ []) → row_with_number (set_of (present (cell ∷ []))) n ≡ find (has_number n) (present (cell ∷ []))
number_at s n cell all = ap (find (has_number n)) (rows_of-present s subscriber_keys (cell ∷ []) refl all)

one_found : (p : Tuple → Bool) (row : Tuple) → is_some (find p (row ∷ [])) ≡ p row
one_found p row = elim (p row) as (λ b. is_some (cond b (Some row) None) ≡ b) [ true ↦ refl | false ↦ refl ]

pub number_some : (n : ℕ) (cell : Option Tuple) (row : Tuple) → cell ≡ Some row → is_some (find (has_number n) (present (cell ∷ []))) ≡ has_number n row
number_some n cell row e = ap (λ o. is_some (find (has_number n) (present (o ∷ [])))) e ∙ one_found (has_number n) row

pub number_none : (n : ℕ) (cell : Option Tuple) → cell ≡ None → is_some (find (has_number n) (present (cell ∷ []))) ≡ false
number_none n cell e = ap (λ o. is_some (find (has_number n) (present (o ∷ [])))) e

-- ---- rows by type
pub type_at : (a s kind : ℕ) (cells : List (Option Tuple)) (i : ℕ) → a ≡ s → StandAt s type_keys cells → slice_get type_keys i ≡ Some (kind ∷ [])
    → row_at (set_of (present cells)) (a ∷ kind ∷ []) ≡ slice_index_or cells i None
type_at a s kind cells i e all k = ap (λ x. row_at (set_of (present cells)) (x ∷ kind ∷ [])) e ∙ row_at-place s (kind ∷ []) type_keys cells i refl all k

pub type_none : (a s kind : ℕ) (cells : List (Option Tuple)) → (a ≡ s → list_any (has_key (kind ∷ [])) type_keys ≡ false) → StandAt s type_keys cells
    → row_at (set_of (present cells)) (a ∷ kind ∷ []) ≡ None
type_none a s kind cells none all = row_at-nowhere a s (kind ∷ []) type_keys cells refl all refl none

-- ---- forwardings
-- a key of three parts is these
pub key_parts : (key : List ℕ) → length key ≡ 3 → key ≡ slice_index key 0 ∷ slice_index key 1 ∷ slice_index key 2 ∷ []
key_parts [] l = absurd (omega arith)
key_parts (a ∷ []) l = absurd (omega arith)
key_parts (a ∷ b ∷ []) l = absurd (omega arith)
key_parts (a ∷ b ∷ c ∷ []) l = refl
key_parts (a ∷ b ∷ c ∷ d ∷ more) l = absurd (omega arith)

pub forwarding_at : (key : List ℕ) (s : ℕ) (cells : List (Option Tuple)) (i : ℕ) → length key ≡ 3 → slice_index key 0 ≡ s → StandAt s forwarding_keys cells
    → slice_get forwarding_keys i ≡ Some (slice_index key 1 ∷ slice_index key 2 ∷ []) → row_at (set_of (present cells)) key ≡ slice_index_or cells i None
forwarding_at key s cells i l e all k =
    ap (row_at (set_of (present cells))) (key_parts key l)
    ∙ ap (λ x. row_at (set_of (present cells)) (x ∷ slice_index key 1 ∷ slice_index key 2 ∷ [])) e
    ∙ row_at-place s (slice_index key 1 ∷ slice_index key 2 ∷ []) forwarding_keys cells i refl all k

pub forwarding_none : (key : List ℕ) (s : ℕ) (cells : List (Option Tuple)) → length key ≡ 3 → (slice_index key 0 ≡ s → list_any (has_key (slice_index key 1 ∷ slice_index key 2 ∷ [])) forwarding_keys ≡ false)
    → StandAt s forwarding_keys cells → row_at (set_of (present cells)) key ≡ None
forwarding_none key s cells l none all =
    ap (row_at (set_of (present cells))) (key_parts key l)
    ∙ row_at-nowhere (slice_index key 0) s (slice_index key 1 ∷ slice_index key 2 ∷ []) forwarding_keys cells refl all refl none
