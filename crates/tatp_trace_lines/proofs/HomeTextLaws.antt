-- Lemmas on rows, appended line by line.
use Rattle.std.proofs.Common.{◌≡◌, ℕ, suc, ◌+◌, ◌<◌, ◌≤◌, ◌∙◌, sym, ap, List, [], ◌∷◌, ◌++◌, length, drop, get_or, refl, append_assoc, add-one, drop-cons}
use Rattle.std.proofs.lemmas.List.{append-nil, drop_all}
use Rattle.tatp_tables.specs.Tuples.{Tuple}
use Rattle.tatp_texts.specs.Text.{text_of}
use Rattle.tatp_tables.specs.declared.row.Row.{Row}
use Rattle.tatp_trace_lines.specs.HomeText.{rows_text}

-- a text that the rows from place i on complete
pub record AreRowsUpTo (row : Tuple → Row) (rows : List Tuple) (all : List ℕ) (i : ℕ) (text : List ℕ) : Type 0 where
  pub completed : text ++ rows_text row (drop i rows) ≡ all

pub no_rows : (row : Tuple → Row) (rows : List Tuple) (text : List ℕ) → AreRowsUpTo row rows (text ++ rows_text row rows) 0 text
no_rows row rows text = record { completed = refl }

regrouped : (text line rest : List ℕ) → (text ++ (line ++ 10 ∷ [])) ++ rest ≡ text ++ (line ++ 10 ∷ rest)
regrouped text line rest = append_assoc text (line ++ 10 ∷ []) rest ∙ ap (λ more. text ++ more) (append_assoc line (10 ∷ []) rest)

pub one_row : (row : Tuple → Row) (rows : List Tuple) (all : List ℕ) (i : ℕ) (columns : Tuple) (text longer : List ℕ) → AreRowsUpTo row rows all i text → i < length rows → columns ≡ get_or rows i columns
    → longer ≡ text ++ (text_of (row columns) ++ 10 ∷ []) → AreRowsUpTo row rows all (i + 1) longer
one_row row rows all i columns text longer p l k e =
    let rest = rows_text row (drop (suc i) rows) in
    let first : rows_text row (drop i rows) ≡ text_of (row columns) ++ 10 ∷ rest = ap (rows_text row) (drop-cons rows i columns l) ∙ ap (λ c. text_of (row c) ++ 10 ∷ rest) (sym k) in
    record { completed = ap (λ j. longer ++ rows_text row (drop j rows)) (add-one i) ∙ (ap (λ front. front ++ rest) e ∙ (regrouped text (text_of (row columns)) rest ∙ (ap (λ more. text ++ more) (sym first) ∙ p.completed))) }

pub all_rows : (row : Tuple → Row) (rows : List Tuple) (all : List ℕ) (i : ℕ) (text : List ℕ) → AreRowsUpTo row rows all i text → length rows ≤ i → text ≡ all
all_rows row rows all i text p l = sym (append-nil text) ∙ (ap (λ more. text ++ rows_text row more) (sym (drop_all i rows l)) ∙ p.completed)

-- four tables, one after another
pub four_tables : (s a f c old first second third all : List ℕ) → old ≡ [] → first ≡ old ++ s → second ≡ first ++ a → third ≡ second ++ f → all ≡ third ++ c → all ≡ s ++ (a ++ (f ++ c))
four_tables s a f c old first second third all o p q r e =
    e ∙ (ap (λ t. t ++ c) (r ∙ ap (λ t. t ++ f) (q ∙ ap (λ t. t ++ a) (p ∙ ap (λ t. t ++ s) o)))
    ∙ (append_assoc (s ++ a) f c ∙ append_assoc s a (f ++ c)))
