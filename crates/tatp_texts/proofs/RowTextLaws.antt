-- Lemmas on rows and their text: what is printed is read, and what is read is printed so.
use Rattle.std.proofs.Common.{◌≡◌, ◌≢◌, ℕ, zero, suc, ◌<◌, ◌^◌, ◌∙◌, sym, ap, subst, Bool, true, false, cond, List, [], ◌∷◌, ◌++◌, length, refl, arith, Option, Some, None, Result, Ok, Err, String, Global, codes, bytes_eq}
use Rattle.std.proofs.lemmas.Bool.{and_parts, false_from_ne_true}
use Rattle.std.proofs.lemmas.List.{append-nil}
use Rattle.std.proofs.lemmas.List.Elements.{All-nil, All-cons, All-head, All-tail}
use Rattle.std.proofs.lemmas.List.Splits.{slice_split_none, slice_split_at, join_with_byte-slice_split}
use Rattle.std.proofs.lemmas.Option.{none-some, same_Some, option_and_then_some}
use Rattle.std.proofs.lemmas.Slice.Eq.{bytes_eq-Decides}
use Rattle.std.specs.List.{All, join_with_byte}
use Rattle.std.specs.String.{string_bytes}
use Rattle.std.specs.Result.{IfOk}
use Rattle.std.specs.Option.{IfSome, option_map}
use Rattle.tatp_tables.specs.Tuples.{Tuple}
use Rattle.tatp_tables.specs.declared.row.Row.{Row}
use Rattle.tatp_tables.specs.declared.row.Row.TheVariants.{S, A, F, C}
use Rattle.tatp_texts.specs.Text.{value_of, value_text, is_printable, columns_text, text_of, fields_of, columns_of, row_of_fields, row_of, are_printable, is_printable_row}
use Rattle.tatp_texts.proofs.FieldLaws.{is_space}
use Rattle.tatp_texts.proofs.ValueLaws.{HasNoSpace, value_of-value_text, value_text-value_of}

-- the texts of the values of the columns from c on
abbrev texts_of : ℕ → Tuple → List (List ℕ)
texts_of c [] = []
texts_of c (v ∷ more) = value_text c v ∷ texts_of (suc c) more

-- ---- what is printed is read
-- values that print in their columns' forms
record ArePrintable (c : ℕ) (values : Tuple) : Type 0 where
  pub printable : are_printable c values ≡ true
  pub small : All (λ v. v < 2 ^ 64) values

head_printable : (c v : ℕ) (vs : Tuple) → ArePrintable c (v ∷ vs) → (is_printable c v ≡ true) × (v < 2 ^ 64)
head_printable c v vs p = ((and_parts (is_printable c v) (are_printable (suc c) vs) p.printable).0, All-head (λ n. n < 2 ^ 64) v vs p.small)

tail_printable : (c v : ℕ) (vs : Tuple) → ArePrintable c (v ∷ vs) → ArePrintable (suc c) vs
tail_printable c v vs p = record { printable = (and_parts (is_printable c v) (are_printable (suc c) vs) p.printable).1; small = All-tail (λ n. n < 2 ^ 64) v vs p.small }

value_written : (c v : ℕ) (vs : Tuple) → ArePrintable c (v ∷ vs) → value_of c (value_text c v) ≡ Some v
value_written c v vs p = let h = head_printable c v vs p in value_of-value_text c v h.0 h.1

no_space : (c v : ℕ) (vs : Tuple) → ArePrintable c (v ∷ vs) → HasNoSpace (value_text c v)
no_space c v vs p = (value_text-value_of c (value_text c v) v (value_written c v vs p)).2

-- the fields of a printed line are the values' texts
fields_of-columns_text : (c : ℕ) (vs : Tuple) (front : List ℕ) → HasNoSpace front → ArePrintable c vs → fields_of (front ++ columns_text c vs) ≡ front ∷ texts_of c vs
fields_of-columns_text c [] front n p = rw (append-nil front) (slice_split_none is_space front n)
fields_of-columns_text c (v ∷ vs) front n p =
    slice_split_at is_space front 32 (value_text c v ++ columns_text (suc c) vs) n refl ∙ ap (λ parts. front ∷ parts) (fields_of-columns_text (suc c) vs (value_text c v) (no_space c v vs p) (tail_printable c v vs p))

-- and these are read as the values
columns_of-texts_of : (k c : ℕ) (vs : Tuple) → length vs ≡ k → ArePrintable c vs → columns_of k c (texts_of c vs) ≡ Some vs
columns_of-texts_of zero c [] e p = refl
columns_of-texts_of zero c (v ∷ vs) e p = absurd (omega arith)
columns_of-texts_of (suc k) c [] e p = absurd (omega arith)
columns_of-texts_of (suc k) c (v ∷ vs) e p = rw (value_written c v vs p, columns_of-texts_of k (suc c) vs (omega arith) (tail_printable c v vs p)) refl

letter_no_space : (letter : ℕ) → is_space letter ≡ false → HasNoSpace (letter ∷ [])
letter_no_space letter h = All-cons (λ byte. is_space byte ≡ false) letter [] h (All-nil (λ byte. is_space byte ≡ false))

-- the bounds of a row that a program has
abbrev pub FitsRow : Row → Type 0
FitsRow (S columns) = (length columns ≡ 34) × All (λ v. v < 2 ^ 64) columns
FitsRow (A columns) = (length columns ≡ 6) × All (λ v. v < 2 ^ 64) columns
FitsRow (F columns) = (length columns ≡ 6) × All (λ v. v < 2 ^ 64) columns
FitsRow (C columns) = (length columns ≡ 5) × All (λ v. v < 2 ^ 64) columns

row_of-text_of : (row : Row) → FitsRow row → is_printable_row row ≡ true → row_of (text_of row) ≡ Some row
unfolding row_of
row_of-text_of (S columns) f h =
    let p : ArePrintable 0 columns = record { printable = h; small = f.1 } in
    rw (fields_of-columns_text 0 columns (codes "S") (letter_no_space 83 refl) p) (ap (option_map S) (columns_of-texts_of 34 0 columns f.0 p))
row_of-text_of (A columns) f h =
    let p : ArePrintable 34 columns = record { printable = h; small = f.1 } in
    rw (fields_of-columns_text 34 columns (codes "A") (letter_no_space 65 refl) p) (ap (option_map A) (columns_of-texts_of 6 34 columns f.0 p))
row_of-text_of (F columns) f h =
    let p : ArePrintable 40 columns = record { printable = h; small = f.1 } in
    rw (fields_of-columns_text 40 columns (codes "F") (letter_no_space 70 refl) p) (ap (option_map F) (columns_of-texts_of 6 40 columns f.0 p))
row_of-text_of (C columns) f h =
    let p : ArePrintable 46 columns = record { printable = h; small = f.1 } in
    rw (fields_of-columns_text 46 columns (codes "C") (letter_no_space 67 refl) p) (ap (option_map C) (columns_of-texts_of 5 46 columns f.0 p))

-- ---- what is read is printed so
option_map_some : {T U : Type 0} (f : T → U) (o : Option T) (y : U) → option_map f o ≡ Some y → (x : T) × (o ≡ Some x) × (f x ≡ y)
option_map_some f None y h = absurd (none-some y h)
option_map_some f (Some x) y h = (x, refl, same_Some (f x) y h)

-- the fields that are read are the values' texts
abbrev AreTexts : ℕ → List (List ℕ) → Tuple → Type 0
AreTexts c fields vs = (texts_of c vs ≡ fields) × (are_printable c vs ≡ true)

more_texts : (c : ℕ) (field : List ℕ) (more : List (List ℕ)) (v : ℕ) (rest vs : Tuple) → value_of c field ≡ Some v → AreTexts (suc c) more rest → v ∷ rest ≡ vs → AreTexts c (field ∷ more) vs
more_texts c field more v rest vs h r e =
    let value = value_text-value_of c field v h in
    subst (AreTexts c (field ∷ more)) e (rw (value.0, r.0) refl, rw (value.1, r.1) refl)

texts_of-columns_of : (k c : ℕ) (fields : List (List ℕ)) (vs : Tuple) → columns_of k c fields ≡ Some vs → AreTexts c fields vs
texts_of-columns_of zero c [] vs h = let e : [] ≡ vs = same_Some [] vs h in subst (AreTexts c []) e (refl, refl)
texts_of-columns_of zero c (field ∷ more) vs h = absurd (none-some vs h)
texts_of-columns_of (suc k) c [] vs h = absurd (none-some vs h)
texts_of-columns_of (suc k) c (field ∷ more) vs h =
    option_and_then_some (λ v. option_map (λ rest. v ∷ rest) (columns_of k (suc c) more)) (value_of c field) vs h (λ v is then.
    let rest = option_map_some (λ rest. v ∷ rest) (columns_of k (suc c) more) vs then in
    more_texts c field more v rest.0 vs is (texts_of-columns_of k (suc c) more rest.0 rest.1) rest.2)

-- the printed line is the fields joined by spaces
joined-columns_text : (c : ℕ) (vs : Tuple) (front : List ℕ) → front ++ columns_text c vs ≡ join_with_byte 32 (front ∷ texts_of c vs)
joined-columns_text c [] front = append-nil front
joined-columns_text c (v ∷ vs) front = ap (λ rest. front ++ (32 ∷ rest)) (joined-columns_text (suc c) vs (value_text c v))

-- a row that prints as these fields
abbrev PrintsAs : List (List ℕ) → Row → Type 0
PrintsAs fields row = (text_of row ≡ join_with_byte 32 fields) × (is_printable_row row ≡ true)

-- one table's choice, or the rest
by_letter : (P : Row → Type 0) (t : Bool) (V : Tuple → Row) (o : Option Tuple) (rest : Option Row) (row : Row) → cond t (option_map V o) rest ≡ Some row → (t ≡ true → (vs : Tuple) → o ≡ Some vs → P (V vs)) → (rest ≡ Some row → P row) → P row
by_letter P true V o rest row h f g = let some = option_map_some V o row h in subst P some.2 (f refl some.0 some.1)
by_letter P false V o rest row h f g = g h

same_bytes : (a b : List ℕ) → bytes_eq a b ≡ true → a ≡ b
same_bytes a b h = (bytes_eq-Decides a b).0 h

printed : (k c : ℕ) (letter code : List ℕ) (fields : List (List ℕ)) (vs : Tuple) → bytes_eq letter code ≡ true → columns_of k c fields ≡ Some vs → (code ++ columns_text c vs ≡ join_with_byte 32 (letter ∷ fields)) × (are_printable c vs ≡ true)
printed k c letter code fields vs t h =
    let texts = texts_of-columns_of k c fields vs h in
    (joined-columns_text c vs code ∙ (ap (λ parts. join_with_byte 32 (code ∷ parts)) texts.0 ∙ ap (λ first. join_with_byte 32 (first ∷ fields)) (sym (same_bytes letter code t))), texts.1)

fields_read : (fields : List (List ℕ)) (row : Row) → row_of_fields fields ≡ Some row → PrintsAs fields row
fields_read [] row h = absurd (none-some row h)
fields_read (letter ∷ fields) row h =
    by_letter (PrintsAs (letter ∷ fields)) _ S (columns_of 34 0 fields) _ row h (λ t vs e. printed 34 0 letter (codes "S") fields vs t e) (λ h₁.
    by_letter (PrintsAs (letter ∷ fields)) _ A (columns_of 6 34 fields) _ row h₁ (λ t vs e. printed 6 34 letter (codes "A") fields vs t e) (λ h₂.
    by_letter (PrintsAs (letter ∷ fields)) _ F (columns_of 6 40 fields) _ row h₂ (λ t vs e. printed 6 40 letter (codes "F") fields vs t e) (λ h₃.
    by_letter (PrintsAs (letter ∷ fields)) _ C (columns_of 5 46 fields) _ row h₃ (λ t vs e. printed 5 46 letter (codes "C") fields vs t e) (λ h₄. absurd (none-some row h₄)))))

text_of-row_of : (line : List ℕ) (row : Row) → row_of line ≡ Some row → (text_of row ≡ line) × (is_printable_row row ≡ true)
unfolding row_of
text_of-row_of line row h =
    let read = fields_read (fields_of line) row h in
    (read.0 ∙ join_with_byte-slice_split 32 line, read.1)

other_bytes : (a b : List ℕ) → a ≢ b → bytes_eq a b ≡ false
other_bytes a b h = false_from_ne_true (bytes_eq a b) (λ t. h (same_bytes a b t))

-- a line that begins with no table's letter
pub row_of_other : (line letter : List ℕ) (fields : List (List ℕ)) → fields_of line ≡ letter ∷ fields → letter ≢ codes "S" → letter ≢ codes "A" → letter ≢ codes "F" → letter ≢ codes "C" → row_of line ≡ None
unfolding row_of
row_of_other line letter fields e s a f c =
    rw (e, other_bytes letter (codes "S") s, other_bytes letter (codes "A") a, other_bytes letter (codes "F") f, other_bytes letter (codes "C") c) refl

-- the two, as the functions' clauses say them
pub printed_read_back : {E : Type 0} (r : Result (String Global) E) (row named : Row) → row ≡ named → FitsRow named → IfOk r (λ text. string_bytes text ≡ text_of named) → IfOk r (λ text. is_printable_row row ≡ true → row_of (string_bytes text) ≡ Some row)
printed_read_back (Err e) row named i f h = tt
printed_read_back (Ok text) row named i f h = λ p.
    let own : is_printable_row named ≡ true = ap is_printable_row (sym i) ∙ p in
    ap row_of h ∙ (row_of-text_of named f own ∙ ap Some (sym i))

pub text_of_read : (line : List ℕ) (result : Option Row) → result ≡ row_of line → IfSome result (λ row. text_of row ≡ line) × IfSome result (λ row. is_printable_row row ≡ true)
text_of_read line None e = (tt, tt)
text_of_read line (Some row) e = text_of-row_of line row (sym e)
