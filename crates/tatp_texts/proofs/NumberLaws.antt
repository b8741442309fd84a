-- Lemmas on fifteen digits: what is read, what is written, and that each gives the other back.
use Rattle.std.proofs.Common.{◌≡◌, ◌≢◌, ℕ, zero, suc, ◌+◌, ◌-◌, ◌*◌, ◌/◌, ◌%◌, ◌<◌, ◌≤◌, ◌^◌, ◌∙◌, sym, ap, subst, Bool, true, false, List, [], ◌∷◌, ◌++◌, length, drop, set, get_or, refl, arith, eqb, Some, None, Result, Ok, Err, decimal, append_assoc, length-append, replicate, add-one, sub-one, ◌&&◌}
use Rattle.std.proofs.lemmas.Bool.{and_parts}
use Rattle.std.proofs.lemmas.Bool.Decides.{nat_tests}
use Rattle.std.proofs.lemmas.Fmt.{digits_decimal, digits_value-decimal, length-decimal-le}
use Rattle.std.proofs.lemmas.Int.Digits.{digits_value_push}
use Rattle.std.proofs.lemmas.List.{append-nil, length-replicate}
use Rattle.std.proofs.lemmas.Nat.{div-mul-add, mod-mul-add}
use Rattle.std.proofs.lemmas.Option.{cond_some}
use Rattle.std.proofs.lemmas.Str.Parse.{IsNumeralModel, numerals_by_value, tells_all_ascii_digits, parse_plain, digits_value_short}
use Rattle.std.specs.Char.{digit_value, is_ascii_digit}
use Rattle.std.specs.Result.{result_ok, OkIff}
use Rattle.std.specs.Str.{all_ascii_digits}
use Rattle.std.specs.Str.Parse.{ParsesUnsigned, digits_value, digits_value_after}
use Rattle.tatp_texts.specs.Text.{digits_of, last_digits, fifteen_digits}

own : IsNumeralModel (λ ds. all_ascii_digits ds ≡ true) (digits_value 10)
own = numerals_by_value (λ ds. all_ascii_digits ds ≡ true) tells_all_ascii_digits

-- a sign stands in no digits
digits_first : (bs : List ℕ) → all_ascii_digits bs ≡ true → get_or bs 0 0 ≢ 43
digits_first [] h = omega arith
digits_first (b ∷ bs) h = grind (arith, nat_tests)

-- ---- exactly so many digits
-- the test of a length and one more test, from its parts
pub exact_test : (k n : ℕ) (t : Bool) → n ≡ k → t ≡ true → (eqb n k && t) ≡ true
exact_test k n t h e = grind (arith, nat_tests)

-- and what it tells
pub exact_test_parts : (k n : ℕ) (t : Bool) → (eqb n k && t) ≡ true → (n ≡ k) × (t ≡ true)
exact_test_parts k n t h = (grind (arith, nat_tests), grind (arith, nat_tests))

pub exact_test_no : (k n : ℕ) (t : Bool) → (n ≡ k → t ≡ true → ⊥) → (eqb n k && t) ≡ false
exact_test_no k n t h = grind (arith, nat_tests)

-- fifteen digits fit
digits_value_small : (bs : List ℕ) → length bs ≡ 15 → all_ascii_digits bs ≡ true → digits_value 10 bs < 10 ^ 15
digits_value_small bs n d = digits_value_short own bs 15 d (omega arith)

fifteen_cases : {E : Type 0} (bs : List ℕ) (r : Result ℕ E) → OkIff r ((all_ascii_digits bs ≡ true) × (0 < length bs) × (digits_value 10 bs < 2 ^ 64)) (digits_value 10 bs) → length bs ≡ 15 → result_ok r ≡ digits_of 15 bs
unfolding digits_of
fifteen_cases bs (Ok x) h n = rw (exact_test 15 (length bs) (all_ascii_digits bs) n h.0.0) (ap Some h.1)
fifteen_cases bs (Err e) h n = rw (exact_test_no 15 (length bs) (all_ascii_digits bs) (λ _ d. h (d, omega arith, (let small : digits_value 10 bs < 10 ^ 15 = digits_value_small bs n d in omega arith)))) refl

-- what `parse` reads of fifteen bytes with no sign
pub fifteen_parsed : {E : Type 0} (bs : List ℕ) (r : Result ℕ E) → ParsesUnsigned 64 10 bs r → length bs ≡ 15 → get_or bs 0 0 ≢ 43 → result_ok r ≡ digits_of 15 bs
fifteen_parsed bs r h n p = fifteen_cases bs r (parse_plain own 64 bs r h p) n

pub no_digits_length : (bs : List ℕ) → length bs ≢ 15 → digits_of 15 bs ≡ None
unfolding digits_of
no_digits_length bs h = rw (exact_test_no 15 (length bs) (all_ascii_digits bs) (λ n _. h n)) refl

pub no_digits_signed : (bs : List ℕ) → get_or bs 0 0 ≡ 43 → digits_of 15 bs ≡ None
unfolding digits_of
no_digits_signed bs h = rw (exact_test_no 15 (length bs) (all_ascii_digits bs) (λ _ d. digits_first bs d h)) refl

-- the digits from a place on, after one is written before them
pub drop_written : (k x : ℕ) (ds : List ℕ) → k < length ds → drop k (set ds k x) ≡ x ∷ drop (suc k) ds
drop_written k x [] h = absurd (omega arith)
drop_written zero x (d ∷ ds) h = refl
drop_written (suc k) x (d ∷ ds) h = drop_written k x ds (omega arith)

-- one digit goes from the number to the digits after it
digit_step : (k n : ℕ) (ds all : List ℕ) → k < length ds → last_digits (suc k) n ++ drop (suc k) ds ≡ all → last_digits k (n / 10) ++ drop k (set ds k (48 + n % 10)) ≡ all
unfolding last_digits
digit_step k n ds all h e = rw (drop_written k (48 + n % 10) ds h) (sym (append_assoc (last_digits k (n / 10)) ((48 + n % 10) ∷ []) (drop (suc k) ds)) ∙ e)

pub digit_moved : (k n : ℕ) (ds all : List ℕ) → 0 < k → k ≤ length ds → last_digits k n ++ drop k ds ≡ all → last_digits (k - 1) (n / 10) ++ drop (k - 1) (set ds (k - 1) (48 + n % 10)) ≡ all
digit_moved zero n ds all p h e = absurd (omega arith)
digit_moved (suc k) n ds all p h e = rw sub-one (digit_step k n ds all (omega arith) e)

digit_back : (d : ℕ) → d < 10 → digit_value (48 + d) ≡ d
digit_back d h = grind (arith, nat_tests)

length-last_digits : (k n : ℕ) → length (last_digits k n) ≡ k
unfolding last_digits
length-last_digits zero n = refl
length-last_digits (suc k) n = length-append (last_digits k (n / 10)) ((48 + n % 10) ∷ []) ∙ (ap (λ m. m + 1) (length-last_digits k (n / 10)) ∙ add-one k)

digits_value-last_digits : (k n : ℕ) → n < 10 ^ k → digits_value 10 (last_digits k n) ≡ n
unfolding last_digits
digits_value-last_digits zero n h = omega arith
digits_value-last_digits (suc k) n h =
    let before : n / 10 < 10 ^ k = grind arith in
    let value = digits_value_push 10 (last_digits k (n / 10)) (48 + n % 10) in
    let last : digit_value (48 + n % 10) ≡ n % 10 = digit_back (n % 10) (omega arith) in
    let front : digits_value 10 (last_digits k (n / 10)) ≡ n / 10 = digits_value-last_digits k (n / 10) before in
    value ∙ (rw (last, front) (omega arith))

all_digits_push : (ds : List ℕ) (d : ℕ) → all_ascii_digits ds ≡ true → d < 10 → all_ascii_digits (ds ++ (48 + d) ∷ []) ≡ true
all_digits_push [] d h l = grind (arith, nat_tests)
all_digits_push (c ∷ cs) d h l = let p = and_parts (is_ascii_digit c) (all_ascii_digits cs) h in rw p.0 (all_digits_push cs d p.1 l)

pub digits-last_digits : (k n : ℕ) → all_ascii_digits (last_digits k n) ≡ true
unfolding last_digits
digits-last_digits zero n = refl
digits-last_digits (suc k) n = all_digits_push (last_digits k (n / 10)) (n % 10) (digits-last_digits k (n / 10)) (omega arith)

-- what is written is read
pub digits_of-last_digits : (k n : ℕ) → n < 10 ^ k → digits_of k (last_digits k n) ≡ Some n
unfolding digits_of
digits_of-last_digits k n h = rw (exact_test k (length (last_digits k n)) (all_ascii_digits (last_digits k n)) (length-last_digits k n) (digits-last_digits k n)) (ap Some (digits_value-last_digits k n h))

digit_known : (d : ℕ) → is_ascii_digit d ≡ true → (digit_value d < 10) × (48 + digit_value d ≡ d)
digit_known d h = (grind (arith, nat_tests), grind (arith, nat_tests))

-- a digit that is read is the last digit that is written
last_digit : (j n d : ℕ) → is_ascii_digit d ≡ true → last_digits (suc j) (n * 10 + digit_value d) ≡ last_digits j n ++ d ∷ []
unfolding last_digits
last_digit j n d h =
    let k = digit_known d h in
    let front : (n * 10 + digit_value d) / 10 ≡ n = div-mul-add n 10 (digit_value d) k.0 in
    let back : 48 + (n * 10 + digit_value d) % 10 ≡ d = omega (arith, k.1, mod-mul-add n 10 (digit_value d) k.0) in
    rw (front, back) refl

-- digits that are read after a number are written after it
last_digits_after : (j k n : ℕ) (ds : List ℕ) → all_ascii_digits ds ≡ true → k ≡ j + length ds → last_digits k (digits_value_after 10 n ds) ≡ last_digits j n ++ ds
last_digits_after j k n [] h e = let same : k ≡ j = omega arith in rw (same, append-nil (last_digits j n)) refl
last_digits_after j k n (d ∷ ds) h e =
    let p = and_parts (is_ascii_digit d) (all_ascii_digits ds) h in
    last_digits_after (suc j) k (n * 10 + digit_value d) ds p.1 (omega arith) ∙ (ap (λ front. front ++ ds) (last_digit j n d p.0) ∙ append_assoc (last_digits j n) (d ∷ []) ds)

-- what is read is written so
pub last_digits-digits_of : (bs : List ℕ) (n : ℕ) → digits_of 15 bs ≡ Some n → (last_digits 15 n ≡ bs) × (n < 10 ^ 15) × (all_ascii_digits bs ≡ true)
unfolding digits_of last_digits
last_digits-digits_of bs n h =
    let p = cond_some _ (digits_value 10 bs) n h in
    let parts = exact_test_parts 15 (length bs) (all_ascii_digits bs) p.0 in
    (ap (last_digits 15) (sym p.1) ∙ last_digits_after 0 15 0 bs parts.1 (omega (arith, parts.0)), subst (λ m. m < 10 ^ 15) p.1 (digits_value_small bs parts.0 parts.1), parts.1)

-- ---- with leading zeros
zeros_before : (k : ℕ) (ds : List ℕ) → digits_value 10 (replicate k 48 ++ ds) ≡ digits_value 10 ds
zeros_before zero ds = refl
zeros_before (suc k) ds = zeros_before k ds

all_zeros_before : (k : ℕ) (ds : List ℕ) → all_ascii_digits ds ≡ true → all_ascii_digits (replicate k 48 ++ ds) ≡ true
all_zeros_before zero ds h = h
all_zeros_before (suc k) ds h = all_zeros_before k ds h

-- the zeros before a number
abbrev padding : ℕ → List ℕ
padding n = replicate (15 - length (decimal n)) 48

length-padding : (n : ℕ) → length (padding n) ≡ 15 - length (decimal n)
length-padding n = length-replicate (15 - length (decimal n)) 48

-- the text of a number of fifteen digits is read as it
pub digits_of-fifteen_digits : (n : ℕ) → n < 10 ^ 15 → digits_of 15 (fifteen_digits n) ≡ Some n
unfolding digits_of
digits_of-fifteen_digits n h =
    let small : n < 2 ^ 64 = omega arith in
    let short : length (decimal n) ≤ 15 = length-decimal-le 15 n (omega arith) h small in
    let long : length (fifteen_digits n) ≡ 15 = omega (arith, length-append (padding n) (decimal n), length-padding n) in
    rw (exact_test 15 (length (fifteen_digits n)) (all_ascii_digits (fifteen_digits n)) long (all_zeros_before (15 - length (decimal n)) (decimal n) (digits_decimal own n small)))
    (ap Some (zeros_before (15 - length (decimal n)) (decimal n) ∙ digits_value-decimal own n small))

-- and is its last fifteen digits
pub fifteen_digits_written : (n : ℕ) → n < 10 ^ 15 → last_digits 15 n ≡ fifteen_digits n
fifteen_digits_written n h = (last_digits-digits_of (fifteen_digits n) n (digits_of-fifteen_digits n h)).0
