-- The text of a row, and the row of a text: docs/FORMATS.md.
use Rattle.std.specs.Prelude.{ℕ, zero, suc, ◌+◌, ◌-◌, ◌*◌, ◌/◌, ◌%◌, ◌==◌, Bool, true, false, ◌&&◌, ◌||◌, if◌then◌else◌, List, [], ◌∷◌, ◌++◌, length, replicate, Option, Some, None, codes, bytes_eq, decimal}
use Rattle.std.specs.List.{list_all}
use Rattle.std.specs.Option.{option_map, option_and_then}
use Rattle.std.specs.Str.{all_ascii_digits}
use Rattle.std.specs.Str.Parse.{digits_value}
use denote.Ref.{Bor}
use Rattle.tatp_lines.specs.Numbers.{is_between, number_of}
use Rattle.tatp_lines.specs.Fields as separated
use Rattle.tatp_tables.specs.Tuples.{Tuple}
use Rattle.tatp_tables.specs.Columns.{first_column, column_count}
use Rattle.tatp_tables.specs.Domains.{is_in_domain}
use Rattle.tatp_tables.specs.declared.table.Table.{Table}
use Rattle.tatp_tables.specs.declared.table.Table.TheVariants.{Subscriber, AccessInfo, SpecialFacility, CallForwarding}
use Rattle.tatp_tables.specs.declared.row.Row.{Row}
use Rattle.tatp_tables.specs.declared.row.Row.TheVariants.{S, A, F, C}
use Rattle.tatp_texts.specs.declared.form.Form.{Form}
use Rattle.tatp_texts.specs.declared.form.Form.TheVariants.{Decimal, FifteenDigits, Letters}

-- ---- one value
-- the last k decimal digits of n
unfoldable pub last_digits : ℕ → ℕ → List ℕ
last_digits zero n = []
last_digits (suc k) n = last_digits k (n / 10) ++ (48 + n % 10) ∷ []

-- a number of fifteen digits; with all its digits where it has more
abbrev pub fifteen_digits : ℕ → List ℕ
fifteen_digits n = replicate (15 - length (decimal n)) 48 ++ decimal n

-- exactly k digits
unfoldable pub digits_of : ℕ → List ℕ → Option ℕ
digits_of k text =
    if (length text == k) && all_ascii_digits text then Some (digits_value 10 text) else None

-- k letters packed as bytes, the first letter highest
unfoldable pub letters_text : ℕ → ℕ → List ℕ
letters_text zero v = []
letters_text (suc k) v = letters_text k (v / 256) ++ (v % 256) ∷ []

-- bytes after a number, packed into it
abbrev pub packed : ℕ → List ℕ → ℕ
packed before [] = before
packed before (byte ∷ more) = packed (256 * before + byte) more

-- exactly k letters A..Z
unfoldable pub letters_of : ℕ → List ℕ → Option ℕ
letters_of k text =
    if (length text == k) && list_all (is_between 65 90) text then Some (packed 0 text) else None

-- the form of a column's text: sub_nbr and numberx have 15 digits, data3 has 3 letters, data4 and
-- data_b have 5
abbrev pub form_of : ℕ → Form
form_of c =
    if c == 1 || c == 50 then FifteenDigits else
    if c == 38 then Letters 3 else
    if c == 39 || c == 45 then Letters 5 else
    Decimal

abbrev pub is_decimal : Form → Bool
is_decimal Decimal = true
is_decimal form = false

abbrev pub text_in : Form → ℕ → List ℕ
text_in Decimal v = decimal v
text_in FifteenDigits v = fifteen_digits v
text_in (Letters k) v = letters_text k v

-- the text of a column's value: in the column's form, and in decimal where it is outside its domain
unfoldable pub value_text : ℕ → ℕ → List ℕ
value_text c v = if is_in_domain c v then text_in (form_of c) v else decimal v

abbrev pub value_in : Form → List ℕ → Option ℕ
value_in Decimal text = number_of text
value_in FifteenDigits text = digits_of 15 text
value_in (Letters k) text = letters_of k text

-- the value of a column that a text is
unfoldable pub value_of : ℕ → List ℕ → Option ℕ
value_of c text = value_in (form_of c) text

-- whether the value prints in its column's form
abbrev pub is_printable : ℕ → ℕ → Bool
is_printable c v = is_decimal (form_of c) || is_in_domain c v

-- ---- one row
-- the columns from c on, each after a space
abbrev pub columns_text : ℕ → Tuple → List ℕ
columns_text c [] = []
columns_text c (v ∷ more) = 32 ∷ value_text c v ++ columns_text (suc c) more

-- the table's letter, and the columns
abbrev pub text_of : Row → List ℕ
text_of (S columns) = codes "S" ++ columns_text (first_column Subscriber) columns
text_of (A columns) = codes "A" ++ columns_text (first_column AccessInfo) columns
text_of (F columns) = codes "F" ++ columns_text (first_column SpecialFacility) columns
text_of (C columns) = codes "C" ++ columns_text (first_column CallForwarding) columns

-- the fields of a line, which spaces separate
abbrev pub fields_of : List ℕ → List (List ℕ)
fields_of line = separated.fields_of 32 line

-- the fields of what is left of a line, if anything is
abbrev pub fields_left : Option (Bor (List ℕ)) → List (List ℕ)
fields_left None = []
fields_left (Some rest) = fields_of rest.now

-- exactly k values, of the columns from c on
abbrev pub columns_of : ℕ → ℕ → List (List ℕ) → Option Tuple
columns_of zero c [] = Some []
columns_of zero c (field ∷ more) = None
columns_of (suc k) c [] = None
columns_of (suc k) c (field ∷ more) =
    option_and_then
    (λ v. option_map (λ rest. v ∷ rest) (columns_of k (suc c) more))
    (value_of c field)

-- exactly the values of a table's columns
abbrev pub columns_in : Table → List (List ℕ) → Option Tuple
columns_in t fields = columns_of (column_count t) (first_column t) fields

abbrev pub row_of_fields : List (List ℕ) → Option Row
row_of_fields [] = None
row_of_fields (letter ∷ fields) =
    if bytes_eq letter (codes "S") then option_map S (columns_in Subscriber fields) else
    if bytes_eq letter (codes "A") then option_map A (columns_in AccessInfo fields) else
    if bytes_eq letter (codes "F") then option_map F (columns_in SpecialFacility fields) else
    if bytes_eq letter (codes "C") then option_map C (columns_in CallForwarding fields) else
    None

-- the row that a line is
unfoldable pub row_of : List ℕ → Option Row
row_of line = row_of_fields (fields_of line)

abbrev pub are_printable : ℕ → Tuple → Bool
are_printable c [] = true
are_printable c (v ∷ more) = is_printable c v && are_printable (suc c) more

-- whether its letters and its 15-digit numbers are in their domains
abbrev pub is_printable_row : Row → Bool
is_printable_row (S columns) = are_printable (first_column Subscriber) columns
is_printable_row (A columns) = are_printable (first_column AccessInfo) columns
is_printable_row (F columns) = are_printable (first_column SpecialFacility) columns
is_printable_row (C columns) = are_printable (first_column CallForwarding) columns
