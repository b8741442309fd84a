-- Decimal numbers in text: what is read, and that it is what is written.
use Rattle.std.proofs.Common.{◌≡◌, ◌≢◌, ℕ, zero, suc, ◌<◌, ◌≤◌, ◌^◌, ◌+◌, ◌++◌, ◌∙◌, sym, ap, subst, Bool, true, false, not, List, [], ◌∷◌, length, get_or, refl, arith, eqb, ltb, Some, None, Result, Ok, Err, decimal, ◌&&◌, ◌||◌}
use Rattle.std.proofs.lemmas.Bool.Decides.{nat_tests}
use Rattle.std.proofs.lemmas.Fmt.{digits_decimal, digits_value-decimal, decimal-digits_value, decimal_nonempty, first_decimal, decimal_digit}
use Rattle.std.proofs.lemmas.Option.{cond_some}
use Rattle.std.proofs.Math.Utf8.{encode}
use Rattle.std.proofs.lemmas.Str.{encode_ascii}
use Rattle.std.proofs.lemmas.Str.Parse.{IsNumeralModel, numerals_by_value, tells_all_ascii_digits, parse_plain}
use Rattle.std.specs.Bool.{if◌then◌else◌}
use Rattle.std.specs.Result.{result_ok, is_ok, OkIff, OnOk}
use Rattle.std.specs.Str.{all_ascii_digits}
use Rattle.std.specs.Str.Parse.{ParsesUnsigned, digits_value}
use Rattle.tatp_lines.specs.Numbers.{is_number, number_of}

own : IsNumeralModel (λ ds. all_ascii_digits ds ≡ true) (digits_value 10)
own = numerals_by_value (λ ds. all_ascii_digits ds ≡ true) tells_all_ascii_digits

-- a sign stands in no digits
digits_first : (bs : List ℕ) → all_ascii_digits bs ≡ true → get_or bs 0 0 ≢ 43
digits_first [] h = omega arith
digits_first (b ∷ bs) h = grind (arith, nat_tests)

-- the test of a number, from its parts
number_test : (n v f m : ℕ) (d : Bool) → 0 < n → d ≡ true → (f ≡ 48 → n ≤ 1) → v < m → (ltb 0 n && (d && ((not (eqb f 48) || eqb n 1) && ltb v m))) ≡ true
number_test n v f m d a b c e = grind (arith, nat_tests)

-- and what it tells
number_test_parts : (n v f m : ℕ) (d : Bool) → (ltb 0 n && (d && ((not (eqb f 48) || eqb n 1) && ltb v m))) ≡ true → (0 < n) × (d ≡ true) × (f ≡ 48 → n ≡ 1) × (v < m)
number_test_parts n v f m d h = (grind (arith, nat_tests), grind (arith, nat_tests), grind (arith, nat_tests), grind (arith, nat_tests))

number_test_no : (n v f m : ℕ) (d : Bool) → ((d ≡ true) × (0 < n) × (v < m) → ⊥) → (ltb 0 n && (d && ((not (eqb f 48) || eqb n 1) && ltb v m))) ≡ false
number_test_no n v f m d h = grind (arith, nat_tests)

number_test_zero : (n v f m : ℕ) (d : Bool) → f ≡ 48 → 1 < n → (ltb 0 n && (d && ((not (eqb f 48) || eqb n 1) && ltb v m))) ≡ false
number_test_zero n v f m d h k = grind (arith, nat_tests)

number_cases : {E : Type 0} (bs : List ℕ) (r : Result ℕ E) → OkIff r ((all_ascii_digits bs ≡ true) × (0 < length bs) × (digits_value 10 bs < 2 ^ 64)) (digits_value 10 bs) → 0 < length bs → (get_or bs 0 0 ≡ 48 → length bs ≤ 1) → result_ok r ≡ number_of bs
unfolding number_of is_number
number_cases bs (Ok x) h n z = rw (number_test (length bs) (digits_value 10 bs) (get_or bs 0 0) (2 ^ 64) (all_ascii_digits bs) n h.0.0 z h.0.2) (ap Some h.1)
number_cases bs (Err e) h n z = rw (number_test_no (length bs) (digits_value 10 bs) (get_or bs 0 0) (2 ^ 64) (all_ascii_digits bs) h) refl

-- what `parse` reads of a text with no sign and no leading zero
pub number_parsed : {E : Type 0} (bs : List ℕ) (r : Result ℕ E) → ParsesUnsigned 64 10 bs r → 0 < length bs → get_or bs 0 0 ≢ 43 → (get_or bs 0 0 ≡ 48 → length bs ≤ 1) → result_ok r ≡ number_of bs
number_parsed bs r h n p z = number_cases bs r (parse_plain own 64 bs r h p) n z

pub no_number_signed : (bs : List ℕ) → get_or bs 0 0 ≡ 43 → number_of bs ≡ None
unfolding number_of is_number
no_number_signed bs h = rw (number_test_no (length bs) (digits_value 10 bs) (get_or bs 0 0) (2 ^ 64) (all_ascii_digits bs) (λ p. digits_first bs p.0 h)) refl

pub no_number_empty : (bs : List ℕ) → length bs ≡ 0 → number_of bs ≡ None
unfolding number_of is_number
no_number_empty [] h = refl
no_number_empty (b ∷ bs) h = absurd (omega arith)

pub no_number_zero : (bs : List ℕ) → get_or bs 0 0 ≡ 48 → 1 < length bs → number_of bs ≡ None
unfolding number_of is_number
no_number_zero bs h l = rw (number_test_zero (length bs) (digits_value 10 bs) (get_or bs 0 0) (2 ^ 64) (all_ascii_digits bs) h l) refl

-- a number that is written has no leading zero
first_digit : (n : ℕ) → n < 2 ^ 64 → get_or (decimal n) 0 0 ≡ 48 → length (decimal n) ≤ 1
first_digit zero h e = omega (arith, ap length (decimal_digit 0 (omega arith)))
first_digit (suc n) h e = absurd (omega (arith, first_decimal (suc n) (omega arith) h))

-- what is written is read
pub number_of-decimal : (n : ℕ) → n < 2 ^ 64 → number_of (decimal n) ≡ Some n
unfolding number_of is_number
number_of-decimal n h =
    let v : digits_value 10 (decimal n) ≡ n = digits_value-decimal own n h in
    rw (number_test (length (decimal n)) (digits_value 10 (decimal n)) (get_or (decimal n) 0 0) (2 ^ 64) (all_ascii_digits (decimal n)) (decimal_nonempty n h) (digits_decimal own n h) (first_digit n h) (subst (λ m. m < 2 ^ 64) (sym v) h)) (ap Some v)

-- what is read is written so
pub decimal-number_of : (bs : List ℕ) (n : ℕ) → number_of bs ≡ Some n → (decimal n ≡ bs) × (n < 2 ^ 64) × (all_ascii_digits bs ≡ true)
unfolding number_of is_number
decimal-number_of bs n h =
    let p = cond_some _ (digits_value 10 bs) n h in
    let parts = number_test_parts (length bs) (digits_value 10 bs) (get_or bs 0 0) (2 ^ 64) (all_ascii_digits bs) p.0 in
    (ap decimal (sym p.1) ∙ decimal-digits_value own bs parts.1 parts.0 parts.2 parts.3, subst (λ m. m < 2 ^ 64) p.1 parts.3, parts.1)

-- ---- a number of one digit, pushed as a character
pub digit_pushed : {E : Type 0} (r : Result (Unit {0}) E) (old text : List ℕ) (c n : ℕ) → n < 10 → c ≡ 48 + n → text ≡ (if is_ok r then old ++ encode c else old) → OnOk r (text ≡ old ++ decimal n)
digit_pushed (Err error) old text c n low is pushed = tt
digit_pushed (Ok done) old text c n low is pushed = pushed ∙ ap (λ digits. old ++ digits) (encode_ascii c (omega (arith, low, is)) ∙ ap (λ d. d ∷ []) is ∙ sym (decimal_digit n low))
