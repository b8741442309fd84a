-- A step of a scan for the least key of a row that isn't right.
use Rattle.std.specs.Prelude.{◌≡◌, ℕ, ◌≤◌, ◌<◌, ◌+◌, Bool, true, false, ◌&&◌, ◌||◌, not, List, Option, take, length}
use Rattle.std.proofs.Common.{refl, sym, ap, ◌∙◌, get_or, subst}
use Rattle.std.specs.List.{list_any}
use Rattle.std.proofs.lemmas.List.Folds.{list_any_more}
use Rattle.std.proofs.lemmas.List.{take_all}
use Rattle.tatp_tables.specs.Tuples.{Tuple, same}
use Rattle.tatp_audits.specs.Failing.{is_wrong, Finds}
use Rattle.tatp_audits.proofs.Order.{Finds-same}

or_false : (a : Bool) → (a || false) ≡ a
or_false true = refl
or_false false = refl

pub scan_right : (right : Tuple → Bool) (key : Tuple → Tuple) (rows : List Tuple) (i : ℕ) (row : Tuple) (best : Option Tuple) → i < length rows → row ≡ get_or rows i row → right row ≡ true
    → Finds (is_wrong right key (take i rows)) best → Finds (is_wrong right key (take (i + 1) rows)) best
scan_right right key rows i row best h is e found = Finds-same _ _ best (λ k. sym (list_any_more (λ r. not (right r) && same k (key r)) rows i row h
    ∙ ap (λ r. list_any (λ r. not (right r) && same k (key r)) (take i rows) || (not (right r) && same k (key r))) (sym is)
    ∙ ap (λ b. list_any (λ r. not (right r) && same k (key r)) (take i rows) || (not b && same k (key row))) e ∙ or_false _)) found

pub scan_wrong : (right : Tuple → Bool) (key : Tuple → Tuple) (rows : List Tuple) (i : ℕ) (row : Tuple) (best next : Option Tuple) → i < length rows → row ≡ get_or rows i row → right row ≡ false
    → (given : Tuple) → given ≡ key row → ((fails : Tuple → Bool) → Finds fails best → Finds (λ k. fails k || same k given) next)
    → Finds (is_wrong right key (take i rows)) best → Finds (is_wrong right key (take (i + 1) rows)) next
scan_wrong right key rows i row best next h is e given ge kept found = Finds-same _ _ next (λ k. sym (list_any_more (λ r. not (right r) && same k (key r)) rows i row h
    ∙ ap (λ r. list_any (λ r. not (right r) && same k (key r)) (take i rows) || (not (right r) && same k (key r))) (sym is)
    ∙ ap (λ b. list_any (λ r. not (right r) && same k (key r)) (take i rows) || (not b && same k (key row))) e ∙ ap (λ r. list_any (λ r. not (right r) && same k (key r)) (take i rows) || same k r) (sym ge))) (kept _ found)

pub scanned : (right : Tuple → Bool) (key : Tuple → Tuple) (rows : List Tuple) (i : ℕ) (best : Option Tuple) → length rows ≤ i → Finds (is_wrong right key (take i rows)) best → Finds (is_wrong right key rows) best
scanned right key rows i best h found = subst (λ l. Finds (is_wrong right key l) best) (take_all i rows h) found
