-- Lemmas on options and on texts of bytes that pass a test.
use Rattle.std.proofs.Common.{◌≡◌, ℕ, zero, suc, ◌<◌, ◌^◌, ◌∙◌, ap, Bool, true, false, cond, not, ◌&&◌, eqb, ltb, List, [], ◌∷◌, ◌++◌, length, refl, arith, Option, Some, None, decimal}
use Rattle.std.specs.Option.{option_map, option_and_then}
use Rattle.std.specs.Str.{bytes_eq, all_ascii_digits, IsAscii}
use Rattle.std.specs.List.{slice_split, join_with_byte, list_all}
use Rattle.std.specs.Char.{is_ascii_digit}
use Rattle.std.proofs.lemmas.Bool.{eq-eqb, ltb-true}
use Rattle.std.proofs.lemmas.Bool.Decides.{nat_tests}
use Rattle.std.proofs.lemmas.Slice.Eq.{bytes_eq-Decides}
use Rattle.std.proofs.lemmas.Fmt.{digits_decimal}
use Rattle.tatp_encoding.specs.Modules.{is_name, is_name_byte}
use Rattle.tatp_asm.specs.Lines.{is_label, is_letter, is_label_byte}
use Rattle.std.proofs.lemmas.Str.Parse.{IsNumeralModel, numerals_by_value, tells_all_ascii_digits}
use Rattle.std.specs.Str.Parse.{digits_value}
use Rattle.tatp_limits.specs.declared.limits.TheConstants.{MAX_NAME_BYTES}
use Rattle.tatp_lines.specs.Numbers.{is_between}

-- ---- options and tests
pub some_is : {X : Type 0} (x y : X) → Some x ≡ Some y → x ≡ y
some_is x y e = cc

pub word_is : (w c : List ℕ) → bytes_eq w c ≡ true → w ≡ c
word_is w c e = (bytes_eq-Decides w c).0 e

pub same_bytes : (xs : List ℕ) → bytes_eq xs xs ≡ true
same_bytes xs = (bytes_eq-Decides xs xs).1 refl

pub mapped : {A B : Type 0} (f : A → B) (o : Option A) (y : B) → option_map f o ≡ Some y → (x : A) × (o ≡ Some x) × (f x ≡ y)
mapped f None y e = absurd cc
mapped f (Some x) y e = (x, refl, cc)

pub chained : {A B : Type 0} (f : A → Option B) (o : Option A) (y : B) → option_and_then f o ≡ Some y → (x : A) × (o ≡ Some x) × (f x ≡ Some y)
chained f None y e = absurd cc
chained f (Some x) y e = (x, refl, e)

pub guarded : {A : Type 0} (t : Bool) (o : Option A) (y : A) → cond t o None ≡ Some y → (t ≡ true) × (o ≡ Some y)
guarded true o y e = (refl, e)
guarded false o y e = absurd cc

pub both : (a b : Bool) → (a && b) ≡ true → (a ≡ true) × (b ≡ true)
both true b h = (refl, h)
both false b h = absurd cc

pub not_true : (b : Bool) → not b ≡ true → b ≡ false
not_true true h = absurd cc
not_true false h = refl

-- ---- bytes that are no space, no comma and no line feed
abbrev pub plain : ℕ → Bool
plain b = ltb 32 b && (ltb b 128 && not (eqb b 44))

abbrev pub ascii : ℕ → Bool
ascii b = ltb b 128

abbrev pub free : ℕ → ℕ → Bool
free c b = not (eqb b c)

pub mono : (p q : ℕ → Bool) → ((b : ℕ) → p b ≡ true → q b ≡ true) → (xs : List ℕ) → list_all p xs ≡ true → list_all q xs ≡ true
mono p q f [] h = refl
mono p q f (x ∷ xs) h = let r = both (p x) (list_all p xs) h in rw (f x r.0) (mono p q f xs r.1)

pub plain_ascii : (b : ℕ) → plain b ≡ true → ascii b ≡ true
plain_ascii b h = grind (arith, nat_tests)

pub plain_no_space : (b : ℕ) → plain b ≡ true → free 32 b ≡ true
plain_no_space b h = grind (arith, nat_tests)

pub plain_no_comma : (b : ℕ) → plain b ≡ true → free 44 b ≡ true
plain_no_comma b h = grind (arith, nat_tests)

pub plain_no_feed : (b : ℕ) → plain b ≡ true → free 10 b ≡ true
plain_no_feed b h = grind (arith, nat_tests)

letter_plain : (b : ℕ) → is_letter b ≡ true → plain b ≡ true
letter_plain b h = grind (arith, nat_tests)

label_byte_plain : (b : ℕ) → is_label_byte b ≡ true → plain b ≡ true
label_byte_plain b h = grind (arith, nat_tests)

name_byte_plain : (b : ℕ) → is_name_byte b ≡ true → plain b ≡ true
name_byte_plain b h = grind (arith, nat_tests)

digit_plain : (b : ℕ) → is_ascii_digit b ≡ true → plain b ≡ true
digit_plain b h = grind (arith, nat_tests)

digits_plain : (ds : List ℕ) → all_ascii_digits ds ≡ true → list_all plain ds ≡ true
digits_plain [] h = refl
digits_plain (d ∷ ds) h = let r = both (is_ascii_digit d) (all_ascii_digits ds) h in rw (digit_plain d r.0) (digits_plain ds r.1)

pub own : IsNumeralModel (λ ds. all_ascii_digits ds ≡ true) (digits_value 10)
own = numerals_by_value (λ ds. all_ascii_digits ds ≡ true) tells_all_ascii_digits

pub decimal_plain : (n : ℕ) → n < 2 ^ 64 → list_all plain (decimal n) ≡ true
decimal_plain n h = digits_plain (decimal n) (digits_decimal own n h)

pub label_plain : (l : List ℕ) → is_label l ≡ true → list_all plain l ≡ true
unfolding is_label
label_plain [] h = refl
label_plain (b ∷ bs) h =
    let r = both (is_letter b) (list_all is_label_byte bs && ltb (length bs) MAX_NAME_BYTES) h in
    let s = both (list_all is_label_byte bs) (ltb (length bs) MAX_NAME_BYTES) r.1 in
    rw (letter_plain b r.0) (mono is_label_byte plain label_byte_plain bs s.0)

pub name_plain : (name : List ℕ) → is_name name ≡ true → list_all plain name ≡ true
name_plain name h = mono is_name_byte plain name_byte_plain name (both (is_between 1 MAX_NAME_BYTES (length name)) (list_all is_name_byte name) h).1

pub label_short : (l : List ℕ) → is_label l ≡ true → length l < 25
unfolding is_label
label_short [] h = omega arith
label_short (b ∷ bs) h =
    let r = both (is_letter b) (list_all is_label_byte bs && ltb (length bs) MAX_NAME_BYTES) h in
    let s = both (list_all is_label_byte bs) (ltb (length bs) MAX_NAME_BYTES) r.1 in
    let t = ltb-true (length bs) MAX_NAME_BYTES s.1 in
    omega arith

-- ---- fields of such bytes, parted by a byte
abbrev pub Each : (ℕ → Bool) → List (List ℕ) → Type 0
Each p [] = Unit {0}
Each p (f ∷ fs) = (list_all p f ≡ true) × Each p fs

pub each_mono : (p q : ℕ → Bool) → ((b : ℕ) → p b ≡ true → q b ≡ true) → (fs : List (List ℕ)) → Each p fs → Each q fs
each_mono p q f [] h = tt
each_mono p q f (x ∷ fs) (h, k) = (mono p q f x h, each_mono p q f fs k)

pub all_append : (p : ℕ → Bool) (xs ys : List ℕ) → list_all p xs ≡ true → list_all p ys ≡ true → list_all p (xs ++ ys) ≡ true
all_append p [] ys h k = k
all_append p (x ∷ xs) ys h k = let r = both (p x) (list_all p xs) h in rw r.0 (all_append p xs ys r.1 k)

pub each_join : (p : ℕ → Bool) (c : ℕ) → p c ≡ true → (fs : List (List ℕ)) → Each p fs → list_all p (join_with_byte c fs) ≡ true
each_join p c e [] h = refl
each_join p c e (f ∷ []) (h, k) = h
each_join p c e (f ∷ g ∷ fs) (h, k) = all_append p f (c ∷ join_with_byte c (g ∷ fs)) h (rw e (each_join p c e (g ∷ fs) k))

split_none : (c : ℕ) (xs : List ℕ) → list_all (free c) xs ≡ true → slice_split (λ b. eqb b c) xs ≡ xs ∷ []
split_none c [] h = refl
split_none c (x ∷ xs) h = let r = both (free c x) (list_all (free c) xs) h in rw (not_true (eqb x c) r.0, split_none c xs r.1) refl

split_next : (c : ℕ) (xs ys : List ℕ) → list_all (free c) xs ≡ true → slice_split (λ b. eqb b c) (xs ++ (c ∷ ys)) ≡ xs ∷ slice_split (λ b. eqb b c) ys
split_next c [] ys h = rw (eq-eqb c c refl) refl
split_next c (x ∷ xs) ys h = let r = both (free c x) (list_all (free c) xs) h in rw (not_true (eqb x c) r.0, split_next c xs ys r.1) refl

pub split_join : (c : ℕ) (f : List ℕ) (fs : List (List ℕ)) → Each (free c) (f ∷ fs) → slice_split (λ b. eqb b c) (join_with_byte c (f ∷ fs)) ≡ f ∷ fs
split_join c f [] (h, k) = split_none c f h
split_join c f (g ∷ fs) (h, k) = split_next c f (join_with_byte c (g ∷ fs)) h ∙ ap (λ (x : List (List ℕ)). f ∷ x) (split_join c g fs k)

pub ascii_at : (bs : List ℕ) → list_all ascii bs ≡ true → IsAscii bs
ascii_at [] h i = omega arith
ascii_at (b ∷ bs) h zero = ltb-true b 128 (both (ascii b) (list_all ascii bs) h).0
ascii_at (b ∷ bs) h (suc i) = ascii_at bs (both (ascii b) (list_all ascii bs) h).1 i
