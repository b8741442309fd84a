-- The rows in cells, appended to a list one cell after another.
use Rattle.std.specs.Prelude.{◌≡◌, ℕ, ◌+◌, ◌<◌, List, [], ◌∷◌, ◌++◌, Option, Some, None, Result, Ok, Err, OnOk, length, take, slice_index_or}
use Rattle.std.proofs.Common.{refl, sym, ap, ◌∙◌, append_assoc, append-nil}
use Rattle.std.proofs.lemmas.List.{take_more}
use Rattle.tatp_tables.specs.Tuples.{Tuple}
use Rattle.tatp_tables.specs.Rows.{with_home}
use Rattle.tatp_homes.specs.Cells.{present, HoldHome, tables_in, subscriber_keys, type_keys, forwarding_keys}
use Rattle.tatp_homes.proofs.CellLaws.{rows_of-present}
use Rattle.tatp_tables.specs.declared.row.Rows.{Rows}

present-append : (xs ys : List (Option Tuple)) → present (xs ++ ys) ≡ present xs ++ present ys
present-append [] ys = refl
present-append (None ∷ xs) ys = present-append xs ys
present-append (Some row ∷ xs) ys = ap (λ more. row ∷ more) (present-append xs ys)

present_more : (cells : List (Option Tuple)) (i : ℕ) (c : Option Tuple) → i < length cells → c ≡ slice_index_or cells i c → present (take (i + 1) cells) ≡ present (take i cells) ++ present (c ∷ [])
present_more cells i c lt is = ap present (take_more cells i c lt) ∙ ap (λ o. present (take i cells ++ o ∷ [])) (sym is) ∙ present-append (take i cells) (c ∷ [])

pub row_appended : (rows before : List Tuple) (cells : List (Option Tuple)) (i : ℕ) (c : Option Tuple) (row : Tuple) → i < length cells → c ≡ slice_index_or cells i c → c ≡ Some row → rows ≡ before ++ present (take i cells)
    → rows ++ row ∷ [] ≡ before ++ present (take (i + 1) cells)
row_appended rows before cells i c row lt is some so_far =
    ap (λ xs. xs ++ row ∷ []) so_far ∙ append_assoc before (present (take i cells)) (row ∷ [])
    ∙ ap (λ o. before ++ (present (take i cells) ++ present (o ∷ []))) (sym some) ∙ ap (λ xs. before ++ xs) (sym (present_more cells i c lt is))

pub none_appended : (rows before : List Tuple) (cells : List (Option Tuple)) (i : ℕ) (c : Option Tuple) → i < length cells → c ≡ slice_index_or cells i c → c ≡ None → rows ≡ before ++ present (take i cells)
    → rows ≡ before ++ present (take (i + 1) cells)
none_appended rows before cells i c lt is none so_far =
    so_far ∙ ap (λ xs. before ++ xs) (sym (append-nil (present (take i cells)))
    ∙ ap (λ o. present (take i cells) ++ present (o ∷ [])) (sym none) ∙ sym (present_more cells i c lt is))

-- the rows in a home's cells are those of its tables, each by key
pub listed : (s : ℕ) (o : Option Tuple) (a f w : List (Option Tuple)) (r : Rows) → HoldHome s o a f w
    → record { subscribers = r.subscribers ++ present (o ∷ []); accesses = r.accesses ++ present a; facilities = r.facilities ++ present f; forwardings = r.forwardings ++ present w }
    ≡ with_home r (tables_in o a f w)
listed s o a f w r h = λ i. record {
  subscribers = r.subscribers ++ sym (rows_of-present s subscriber_keys (o ∷ []) refl h.subscriber_place) i;
  accesses = r.accesses ++ sym (rows_of-present s type_keys a refl h.access_places) i;
  facilities = r.facilities ++ sym (rows_of-present s type_keys f refl h.facility_places) i;
  forwardings = r.forwardings ++ sym (rows_of-present s forwarding_keys w refl h.forwarding_places) i;
}

pub on_ok : {A E : Type 0} (r : Result A E) (P Q : Type 0) → (P → Q) → OnOk r P → OnOk r Q
on_ok (Ok x) P Q f p = f p
on_ok (Err e) P Q f p = tt
