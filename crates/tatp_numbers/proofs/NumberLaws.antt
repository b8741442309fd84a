-- One row more in the look-up by number.
use Rattle.std.specs.Prelude.{◌≡◌, ◌==◌, ℕ, ◌<◌, ◌≤◌, ◌+◌, Bool, true, false, cond, List, [], ◌∷◌, ◌++◌, Option, Some, None, find, take, drop, length, slice_index, slice_index_or, count_by}
use Rattle.std.proofs.Common.{refl, sym, ap, subst, ◌∙◌, arith}
use Rattle.std.proofs.lemmas.Bool.{eqb-true, eq-eqb}
use Rattle.std.proofs.lemmas.List.{take_more, take-append-drop}
use Rattle.std.proofs.lemmas.List.Folds.{find-append}
use Rattle.std.specs.Option.{option_map, option_or}
use Rattle.tatp_tables.specs.Tuples.{Tuple}
use Rattle.tatp_tables.specs.Keys.{has_number}
use Rattle.tatp_tables.proofs.CountLaws.{count_by-append, count_by-cons}
use Rattle.tatp_numbers.specs.Homes.{s_id_of}
use Rattle.tatp_numbers.specs.Lists.{s_id_at, NumbersStandOnce, NumberRepeats}
use Rattle.tatp_numbers.proofs.FindLaws.{none_passes, one_passes}

late : (row : Tuple) (o : Option Tuple) (b : Bool) → (b ≡ true → option_map s_id_of o ≡ None) → option_map s_id_of (option_or o (cond b (Some row) None)) ≡ cond b (Some (s_id_of row)) (option_map s_id_of o)
late row None true h = refl
late row None false h = refl
late row (Some r) true h = let e = h refl in cc
late row (Some r) false h = refl

more_rows : (rows : List Tuple) (i : ℕ) (row : Tuple) → i < length rows → row ≡ slice_index_or rows i row → take (i + 1) rows ≡ take i rows ++ row ∷ []
more_rows rows i row lt is = take_more rows i row lt ∙ ap (λ r. take i rows ++ r ∷ []) (sym is)

pub one_more : (rows : List Tuple) (i : ℕ) (row : Tuple) (n : ℕ) → i < length rows → row ≡ slice_index_or rows i row → s_id_at (take i rows) (slice_index row 1) ≡ None
    → s_id_at (take (i + 1) rows) n ≡ cond (slice_index row 1 == n) (Some (s_id_of row)) (s_id_at (take i rows) n)
one_more rows i row n lt is none =
    ap (λ l. s_id_at l n) (more_rows rows i row lt is)
    ∙ ap (option_map s_id_of) (find-append (has_number n) (take i rows) (row ∷ []))
    ∙ late row (find (has_number n) (take i rows)) (slice_index row 1 == n) (λ e. ap (s_id_at (take i rows)) (sym (eqb-true (slice_index row 1) n e)) ∙ none)

-- ---- counts
count-more : (rows : List Tuple) (i : ℕ) (row : Tuple) (n : ℕ) → i < length rows → row ≡ slice_index_or rows i row
    → count_by (has_number n) (take (i + 1) rows) ≡ count_by (has_number n) (take i rows) + cond (slice_index row 1 == n) 1 0
count-more rows i row n lt is =
    ap (count_by (has_number n)) (more_rows rows i row lt is)
    ∙ count_by-append (has_number n) (take i rows) (row ∷ [])
    ∙ ap (λ k. count_by (has_number n) (take i rows) + k) (count_by-cons (has_number n) row [])
    ∙ omega arith

no_s_id : (o : Option Tuple) → option_map s_id_of o ≡ None → o ≡ None
no_s_id None e = refl
no_s_id (Some row) e = cc

pub differ_more : (rows : List Tuple) (i : ℕ) (row : Tuple) → i < length rows → row ≡ slice_index_or rows i row → s_id_at (take i rows) (slice_index row 1) ≡ None
    → NumbersStandOnce (take i rows) → NumbersStandOnce (take (i + 1) rows)
differ_more rows i row lt is none differ n =
    subst (λ k. k ≤ 1) (sym (count-more rows i row n lt is))
    (elim (slice_index row 1 == n) as (λ b. (slice_index row 1 == n) ≡ b → count_by (has_number n) (take i rows) + cond b 1 0 ≤ 1) [
      | true ↦ λ e. let new : count_by (has_number n) (take i rows) ≡ 0 = none_passes (has_number n) (take i rows) (no_s_id _ (ap (s_id_at (take i rows)) (sym (eqb-true (slice_index row 1) n e)) ∙ none)) in omega arith
      | false ↦ λ e. omega (arith, differ n)
    ] refl)

one_s_id : (p : Tuple → Bool) (xs : List Tuple) (s : ℕ) → option_map s_id_of (find p xs) ≡ Some s → 1 ≤ count_by p xs
one_s_id p xs s e = elim (find p xs) as (λ o. find p xs ≡ o → option_map s_id_of o ≡ Some s → 1 ≤ count_by p xs) [
  | None ↦ λ _ k. absurd (cc)
  | Some row ↦ λ f _. one_passes p xs row f
] refl e

-- a number that stood before stands twice
pub repeats : (rows : List Tuple) (i : ℕ) (row : Tuple) (s : ℕ) → i < length rows → row ≡ slice_index_or rows i row → s_id_at (take i rows) (slice_index row 1) ≡ Some s → NumberRepeats rows
repeats rows i row s lt is found =
    let n = slice_index row 1 in
    let before : 1 ≤ count_by (has_number n) (take i rows) = one_s_id (has_number n) (take i rows) s found in
    let here : cond {A = ℕ} (slice_index row 1 == n) 1 0 ≡ 1 = ap (λ b. cond b 1 0) (eq-eqb n n refl) in
    let all : count_by (has_number n) rows ≡ count_by (has_number n) (take (i + 1) rows) + count_by (has_number n) (drop (i + 1) rows) =
    ap (count_by (has_number n)) (sym (take-append-drop (i + 1) rows)) ∙ count_by-append (has_number n) (take (i + 1) rows) (drop (i + 1) rows) in
    (n, omega (arith, before, here, all, count-more rows i row n lt is))
