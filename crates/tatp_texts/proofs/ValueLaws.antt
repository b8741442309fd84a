-- Lemmas on one value in its column's form.
use Rattle.std.proofs.Common.{◌≡◌, ℕ, ◌<◌, ◌^◌, ◌∙◌, sym, subst, Bool, true, false, cond, List, [], ◌∷◌, refl, arith, eqb, Some, decimal, ◌||◌}
use Rattle.std.proofs.lemmas.Bool.{false≢true, eqb-true, and_parts}
use Rattle.std.proofs.lemmas.Bool.Decides.{nat_tests}
use Rattle.std.proofs.lemmas.Str.{IsUtf8-from_ascii}
use Rattle.std.proofs.lemmas.Str.Ascii.{IsAscii-from_all}
use Rattle.std.proofs.lemmas.List.Elements.{All-nil, All-cons, All-weaker}
use Rattle.std.proofs.lemmas.List.Sums.{AllPass-from_list_all}
use Rattle.std.specs.List.{list_all, All}
use Rattle.std.specs.Str.{IsAscii, IsUtf8, all_ascii_digits}
use Rattle.std.specs.Char.{is_ascii_digit}
use Rattle.tatp_lines.specs.Numbers.{is_between}
use Rattle.tatp_texts.specs.declared.form.Form.{Form}
use Rattle.tatp_texts.specs.declared.form.Form.TheVariants.{Decimal, FifteenDigits, Letters}
use Rattle.tatp_tables.specs.Domains.{is_in_domain, are_letters}
use Rattle.tatp_texts.specs.Text.{form_of, is_decimal, text_in, value_in, value_text, value_of, is_printable, last_digits, letters_text}
use Rattle.tatp_texts.proofs.FieldLaws.{is_space}
use Rattle.tatp_lines.proofs.NumberLaws.{number_of-decimal, decimal-number_of}
use Rattle.tatp_texts.proofs.NumberLaws.{last_digits-digits_of, digits-last_digits, digits_of-fifteen_digits, fifteen_digits_written}
use Rattle.tatp_texts.proofs.LetterLaws.{is_letter, letters_of-letters_text, letters_text-letters_of, letters-letters_text}

-- ---- which columns have which form
-- whether the value is in the domain of a column with this form, unless the form is decimal
abbrev fits_form : Form → ℕ → Bool
fits_form Decimal v = true
fits_form FifteenDigits v = is_between 0 999999999999999 v
fits_form (Letters k) v = are_letters k v

-- the form gives the column's domain, unless it is decimal
record IsColumnForm (c : ℕ) (form : Form) : Type 0 where
  pub domain : (v : ℕ) → is_decimal form ≡ false → is_in_domain c v ≡ fits_form form v

at_1 : IsColumnForm 1 FifteenDigits
unfolding is_in_domain
at_1 = record { domain = λ v d. refl }

at_50 : IsColumnForm 50 FifteenDigits
unfolding is_in_domain
at_50 = record { domain = λ v d. refl }

at_38 : IsColumnForm 38 (Letters 3)
unfolding is_in_domain
at_38 = record { domain = λ v d. refl }

at_39 : IsColumnForm 39 (Letters 5)
unfolding is_in_domain
at_39 = record { domain = λ v d. refl }

at_45 : IsColumnForm 45 (Letters 5)
unfolding is_in_domain
at_45 = record { domain = λ v d. refl }

elsewhere : (c : ℕ) → IsColumnForm c Decimal
elsewhere c = record { domain = λ v d. absurd (false≢true (sym d)) }

column_form : (c : ℕ) (a b d e f : Bool) → eqb c 1 ≡ a → eqb c 50 ≡ b → eqb c 38 ≡ d → eqb c 39 ≡ e → eqb c 45 ≡ f → IsColumnForm c (form_of c)
column_form c true b d e f p q r s t = subst (λ n. IsColumnForm n (form_of n)) (sym (eqb-true c 1 p)) at_1
column_form c false true d e f p q r s t = subst (λ n. IsColumnForm n (form_of n)) (sym (eqb-true c 50 q)) at_50
column_form c false false true e f p q r s t = subst (λ n. IsColumnForm n (form_of n)) (sym (eqb-true c 38 r)) at_38
column_form c false false false true f p q r s t = subst (λ n. IsColumnForm n (form_of n)) (sym (eqb-true c 39 s)) at_39
column_form c false false false false true p q r s t = subst (λ n. IsColumnForm n (form_of n)) (sym (eqb-true c 45 t)) at_45
column_form c false false false false false p q r s t = rw (p, q, r, s, t) (elsewhere c)

form_known : (c : ℕ) → IsColumnForm c (form_of c)
form_known c = column_form c (eqb c 1) (eqb c 50) (eqb c 38) (eqb c 39) (eqb c 45) refl refl refl refl refl

-- a value in the domain of a column of letters is that many letters
pub letters_in_domain : (c v k : ℕ) → form_of c ≡ Letters k → is_in_domain c v ≡ true → are_letters k v ≡ true
letters_in_domain c v k e h =
    let known = subst (IsColumnForm c) e (form_known c) in
    sym (known.domain v refl) ∙ h

fifteen_digits_small : (v : ℕ) → is_between 0 999999999999999 v ≡ true → v < 10 ^ 15
fifteen_digits_small v h = grind (arith, nat_tests)

-- a value in the domain of a column of fifteen digits has at most so many
pub fifteen_digits_in_domain : (c v : ℕ) → form_of c ≡ FifteenDigits → is_in_domain c v ≡ true → v < 10 ^ 15
fifteen_digits_in_domain c v e h =
    let known = subst (IsColumnForm c) e (form_known c) in
    fifteen_digits_small v (sym (known.domain v refl) ∙ h)

-- ---- bytes that are text
pub ascii_is_text : (bs : List ℕ) → IsAscii bs → IsUtf8 bs
ascii_is_text bs h = IsUtf8-from_ascii bs h

letter_ascii : (b : ℕ) → is_letter b ≡ true → b < 128
letter_ascii b h = grind (arith, nat_tests)

digit_ascii : (b : ℕ) → is_ascii_digit b ≡ true → b < 128
digit_ascii b h = grind (arith, nat_tests)

-- what holds of each letter and of each digit
each_letter : (P : ℕ → Type 0) → ((b : ℕ) → is_letter b ≡ true → P b) → (bs : List ℕ) → list_all is_letter bs ≡ true → All P bs
each_letter P f bs h = All-weaker (λ b. is_letter b ≡ true) P f bs (AllPass-from_list_all is_letter bs h)

each_digit : (P : ℕ → Type 0) → ((b : ℕ) → is_ascii_digit b ≡ true → P b) → (bs : List ℕ) → all_ascii_digits bs ≡ true → All P bs
each_digit P f [] h = All-nil P
each_digit P f (b ∷ bs) h = let p = and_parts (is_ascii_digit b) (all_ascii_digits bs) h in All-cons P b bs (f b p.0) (each_digit P f bs p.1)

pub ascii_digits : (bs : List ℕ) (k n : ℕ) → bs ≡ last_digits k n → IsAscii bs
ascii_digits bs k n e =
    subst IsAscii (sym e) (IsAscii-from_all (last_digits k n) (each_digit (λ b. b < 128) digit_ascii (last_digits k n) (digits-last_digits k n)))

pub ascii_letters : (bs : List ℕ) (k n v : ℕ) → are_letters k v ≡ true → n ≡ k → bs ≡ letters_text n v → IsAscii bs
ascii_letters bs k n v h m e =
    let own : are_letters n v ≡ true = rw m h in
    subst IsAscii (sym e) (IsAscii-from_all (letters_text n v) (each_letter (λ b. b < 128) letter_ascii (letters_text n v) (letters-letters_text n v own)))

-- ---- what is written is read, and what is read is written so
abbrev pub HasNoSpace : List ℕ → Type 0
HasNoSpace text = All (λ byte. is_space byte ≡ false) text

letter_no_space : (b : ℕ) → is_letter b ≡ true → is_space b ≡ false
letter_no_space b h = grind (arith, nat_tests)

digit_no_space : (b : ℕ) → is_ascii_digit b ≡ true → is_space b ≡ false
digit_no_space b h = grind (arith, nat_tests)

fifteen_digits_between : (v : ℕ) → v < 10 ^ 15 → is_between 0 999999999999999 v ≡ true
fifteen_digits_between v h = grind (arith, nat_tests)

-- the same by forms
value_in-text_in : (form : Form) (v : ℕ) → fits_form form v ≡ true → v < 2 ^ 64 → value_in form (text_in form v) ≡ Some v
value_in-text_in Decimal v f h = number_of-decimal v h
value_in-text_in FifteenDigits v f h = digits_of-fifteen_digits v (fifteen_digits_small v f)
value_in-text_in (Letters k) v f h = letters_of-letters_text k v f

text_in-value_in : (form : Form) (text : List ℕ) (v : ℕ) → value_in form text ≡ Some v → (text_in form v ≡ text) × (fits_form form v ≡ true) × HasNoSpace text
text_in-value_in Decimal text v h =
    let p = decimal-number_of text v h in
    (p.0, refl, each_digit (λ b. is_space b ≡ false) digit_no_space text p.2)
text_in-value_in FifteenDigits text v h =
    let p = last_digits-digits_of text v h in
    (sym (fifteen_digits_written v p.1) ∙ p.0, fifteen_digits_between v p.1, each_digit (λ b. is_space b ≡ false) digit_no_space text p.2)
text_in-value_in (Letters k) text v h =
    let p = letters_text-letters_of k text v h in
    (p.0, p.1, each_letter (λ b. is_space b ≡ false) letter_no_space text p.2)

-- a printable value prints in its column's form
in_form : (form : Form) (d : Bool) (v : ℕ) → (is_decimal form || d) ≡ true → cond d (text_in form v) (decimal v) ≡ text_in form v
in_form form true v h = refl
in_form Decimal false v h = refl
in_form FifteenDigits false v h = absurd (false≢true h)
in_form (Letters k) false v h = absurd (false≢true h)

value_text_in : (c v : ℕ) → is_printable c v ≡ true → value_text c v ≡ text_in (form_of c) v
unfolding value_text
value_text_in c v h = in_form (form_of c) (is_in_domain c v) v h

printable_fits : (form : Form) (d : Bool) (v : ℕ) → (is_decimal form ≡ false → d ≡ fits_form form v) → (is_decimal form || d) ≡ true → fits_form form v ≡ true
printable_fits Decimal d v k h = refl
printable_fits FifteenDigits d v k h = sym (k refl) ∙ h
printable_fits (Letters n) d v k h = sym (k refl) ∙ h

fits_printable : (form : Form) (d : Bool) (v : ℕ) → (is_decimal form ≡ false → d ≡ fits_form form v) → fits_form form v ≡ true → (is_decimal form || d) ≡ true
fits_printable Decimal d v k h = refl
fits_printable FifteenDigits d v k h = k refl ∙ h
fits_printable (Letters n) d v k h = k refl ∙ h

pub value_of-value_text : (c v : ℕ) → is_printable c v ≡ true → v < 2 ^ 64 → value_of c (value_text c v) ≡ Some v
unfolding value_of
value_of-value_text c v p h =
    let known = form_known c in
    rw (value_text_in c v p) (value_in-text_in (form_of c) v (printable_fits (form_of c) (is_in_domain c v) v (known.domain v) p) h)

pub value_text-value_of : (c : ℕ) (text : List ℕ) (v : ℕ) → value_of c text ≡ Some v → (value_text c v ≡ text) × (is_printable c v ≡ true) × HasNoSpace text
unfolding value_of
value_text-value_of c text v h =
    let known = form_known c in
    let read = text_in-value_in (form_of c) text v h in
    let p : is_printable c v ≡ true = fits_printable (form_of c) (is_in_domain c v) v (known.domain v) read.1 in
    (value_text_in c v p ∙ read.0, p, read.2)
