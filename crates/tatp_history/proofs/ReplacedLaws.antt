-- What a find gives once a row is in another's place.
use Rattle.std.proofs.Common.{◌≡◌, Bool, true, false, ◌||◌, ◌&&◌, not, Option, Some, None, find, refl, sym, ◌∙◌, ap}
use Rattle.std.proofs.lemmas.Bool.{both_ways}
use Rattle.tatp_tables.specs.Tuples.{Tuple, Tuples, rows_of, same, has, remove_row, replace_row}
use Rattle.tatp_tables.proofs.TupleLaws.{same_is, same_itself, same_tuples, has-rows_of, has-insert_row, has-remove_row}
use Rattle.tatp_tables.proofs.FindLaws.{found_in, none_in, not_found, found_passes}
use Rattle.tatp_tables.proofs.KeyLaws.{has-found, each-insert_row, has-from_remove_row, has-inserted, has-insert_row_there, has-remove_row_other, gone}

-- a row in its own place changes nothing
own_place : (v : Tuples) (row q : Tuple) → has v row ≡ true → (same q row || (not (same q row) && has v q)) ≡ has v q
own_place v row q there = elim (same q row) as (λ b. same q row ≡ b → (b || (not b && has v q)) ≡ has v q) [
  | true ↦ λ e. sym (ap (λ r. has v r) (same_is q row e) ∙ there)
  | false ↦ λ e. refl
] refl

pub replaced_itself : (v : Tuples) (row : Tuple) → has v row ≡ true → replace_row v row row ≡ v
replaced_itself v row there = same_tuples (replace_row v row row) v (λ q.
    has-insert_row (remove_row v row) row q
    ∙ (ap (λ b. same q row || b) (has-remove_row v row q) ∙ own_place v row q there))

-- the new row passes a test as the old one did, which at most one row passes
module _ (p : Tuple → Bool) (v : Tuples) (row new : Tuple) (there : has v row ≡ true) (alike : p new ≡ p row)
    (once : (a b : Tuple) → has v a ≡ true → has v b ≡ true → p a ≡ true → p b ≡ true → a ≡ b) where
  pub found_new : p row ≡ true → find p (rows_of (replace_row v row new)) ≡ Some new
  found_new passes = found_in p (replace_row v row new) new (has-inserted (remove_row v row) new) (alike ∙ passes)
      (each-insert_row (λ q. p q ≡ true → q ≡ new) (remove_row v row) new (λ _. refl)
      (λ q hq pq. absurd (gone v row q hq (once row q there (has-from_remove_row v row q hq) passes pq))))

  -- what is told of the row that passes is the same, where the same is told of both
  pub told_same : {X : Type 0} (tells : Option Tuple → X) → tells (Some new) ≡ tells (Some row) → tells (find p (rows_of (replace_row v row new))) ≡ tells (find p (rows_of v))
  told_same tells told = elim (find p (rows_of v)) as (λ o. find p (rows_of v) ≡ o → tells (find p (rows_of (replace_row v row new))) ≡ tells o) [
    | None ↦ λ e.
        let none : (q : Tuple) → has v q ≡ true → p q ≡ false = λ q h. not_found p (rows_of v) q e (sym (has-rows_of v q) ∙ h) in
        ap tells (none_in p (replace_row v row new) (each-insert_row (λ q. p q ≡ false) (remove_row v row) new (alike ∙ none row there) (λ q h. none q (has-from_remove_row v row q h))))
    | Some found ↦ λ e.
        let passes = found_passes p (rows_of v) found e in
        let is_in = has-found p v found e in
        elim (same found row) as (λ b. same found row ≡ b → tells (find p (rows_of (replace_row v row new))) ≡ tells (Some found)) [
          | true ↦ λ h.
              let is : found ≡ row = same_is found row h in
              ap tells (found_new (ap p (sym is) ∙ passes)) ∙ (told ∙ ap (λ (q : Tuple). tells (Some q)) (sym is))
          | false ↦ λ h. ap tells (found_in p (replace_row v row new) found (has-insert_row_there (remove_row v row) new found (has-remove_row_other v row found is_in h)) passes
              (each-insert_row (λ q. p q ≡ true → q ≡ found) (remove_row v row) new
              (λ pn. absurd (both_ways (same found row) h (ap (λ r. same found r) (once row found there is_in (sym alike ∙ pn) passes) ∙ same_itself found)))
              (λ q hq pq. once q found (has-from_remove_row v row q hq) is_in pq passes)))
        ] refl
  ] refl
