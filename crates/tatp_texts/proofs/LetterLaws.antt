-- Lemmas on letters in text: what is read, what is written, and that each gives the other back.
use Rattle.std.proofs.Common.{◌≡◌, ◌≢◌, ℕ, zero, suc, ◌+◌, ◌-◌, ◌*◌, ◌/◌, ◌%◌, ◌<◌, ◌≤◌, ◌^◌, ◌∙◌, sym, ap, subst, Bool, true, false, List, [], ◌∷◌, ◌++◌, length, take, drop, set, get_or, refl, arith, Some, None, append_assoc, length-append, add-one, sub-one}
use Rattle.std.proofs.lemmas.Bool.Decides.{nat_tests}
use Rattle.std.proofs.lemmas.Bool.{false≢true, and_parts, and_from}
use Rattle.std.proofs.lemmas.Grind.{pow_more}
use Rattle.std.proofs.lemmas.List.{append-nil, take_all, drop_all}
use Rattle.std.proofs.lemmas.List.Folds.{list_all-append, list_all_at, list_all_more}
use Rattle.std.proofs.lemmas.Option.{cond_some}
use Rattle.std.proofs.Math.Nat.{pow-le-pow_right}
use Rattle.std.specs.List.{list_all}
use Rattle.tatp_lines.specs.Numbers.{is_between}
use Rattle.tatp_tables.specs.Domains.{are_letters}
use Rattle.tatp_texts.specs.Text.{letters_of, letters_text, packed}
use Rattle.tatp_texts.proofs.NumberLaws.{drop_written, exact_test, exact_test_parts, exact_test_no}

abbrev pub is_letter : ℕ → Bool
is_letter byte = is_between 65 90 byte

letter_small : (b : ℕ) → is_letter b ≡ true → b < 256
letter_small b h = grind (arith, nat_tests)

-- ---- what the loops say
letter_step : (k n : ℕ) (ds all : List ℕ) → k < length ds → letters_text (suc k) n ++ drop (suc k) ds ≡ all → letters_text k (n / 256) ++ drop k (set ds k (n % 256)) ≡ all
unfolding letters_text
letter_step k n ds all h e = rw (drop_written k (n % 256) ds h) (sym (append_assoc (letters_text k (n / 256)) ((n % 256) ∷ []) (drop (suc k) ds)) ∙ e)

-- one letter goes from the value to the letters after it
pub letter_moved : (k n : ℕ) (ds all : List ℕ) → 0 < k → k ≤ length ds → letters_text k n ++ drop k ds ≡ all → letters_text (k - 1) (n / 256) ++ drop (k - 1) (set ds (k - 1) (n % 256)) ≡ all
letter_moved zero n ds all p h e = absurd (omega arith)
letter_moved (suc k) n ds all p h e = rw sub-one (letter_step k n ds all (omega arith) e)

pub no_letters_length : (k : ℕ) (bs : List ℕ) → length bs ≢ k → letters_of k bs ≡ None
unfolding letters_of
no_letters_length k bs h = rw (exact_test_no k (length bs) (list_all is_letter bs) (λ n _. h n)) refl

pub no_letters_at : (k : ℕ) (bs : List ℕ) (i : ℕ) → i < length bs → is_letter (get_or bs i 0) ≡ false → letters_of k bs ≡ None
unfolding letters_of
no_letters_at k bs i l h = rw (exact_test_no k (length bs) (list_all is_letter bs) (λ _ t. false≢true (sym (list_all_at is_letter bs i 0 l h) ∙ t))) refl

pub letters_of_all : (k : ℕ) (bs : List ℕ) (v : ℕ) → length bs ≡ k → list_all is_letter bs ≡ true → v ≡ packed 0 bs → letters_of k bs ≡ Some v
unfolding letters_of
letters_of_all k bs v n h e = rw (exact_test k (length bs) (list_all is_letter bs) n h) (ap Some (sym e))

-- a loop's letters so far, and the value that the rest makes of them
pub record IsReadUpTo (bs : List ℕ) (i v : ℕ) : Type 0 where
  pub letters : list_all is_letter (take i bs) ≡ true
  pub value : packed v (drop i bs) ≡ packed 0 bs
  pub small : v < 256 ^ i

pub nothing_read : (bs : List ℕ) → IsReadUpTo bs 0 0
nothing_read bs = record { letters = refl; value = refl; small = omega arith }

pub letter_fits : (bs : List ℕ) (i v b : ℕ) → IsReadUpTo bs i v → i < 8 → b < 256 → 256 * v + b < 2 ^ 64
letter_fits bs i v b r l s =
    let small : v < 256 ^ i = r.small in
    let most : 256 ^ i ≤ 256 ^ 7 = pow-le-pow_right {n = 256} (omega arith) {i = i} {j = 7} (omega arith) in
    omega arith

packed-drop : (bs : List ℕ) (i v : ℕ) → i < length bs → packed v (drop i bs) ≡ packed (256 * v + get_or bs i 0) (drop (suc i) bs)
packed-drop [] i v l = absurd (omega arith)
packed-drop (b ∷ bs) zero v l = refl
packed-drop (b ∷ bs) (suc i) v l = packed-drop bs i v (omega arith)

pub letter_read : (bs : List ℕ) (i v : ℕ) → IsReadUpTo bs i v → i < length bs → is_letter (get_or bs i 0) ≡ true → IsReadUpTo bs (i + 1) (256 * v + get_or bs i 0)
letter_read bs i v r l h =
    let small : v < 256 ^ i = r.small in
    let byte : get_or bs i 0 < 256 = letter_small (get_or bs i 0) h in
    record {
      letters = list_all_more is_letter bs i 0 l ∙ and_from (list_all is_letter (take i bs)) (is_letter (get_or bs i 0)) r.letters h;
      value = rw add-one (sym (packed-drop bs i v l) ∙ r.value);
      small = grind (arith, pow_more 256 i);
    }

pub all_read : (k : ℕ) (bs : List ℕ) (i v : ℕ) → IsReadUpTo bs i v → i ≡ length bs → length bs ≡ k → letters_of k bs ≡ Some v
all_read k bs i v r e n =
    letters_of_all k bs v n (subst (λ xs. list_all is_letter xs ≡ true) (take_all i bs (omega arith)) r.letters) (subst (λ xs. packed v xs ≡ packed 0 bs) (drop_all i bs (omega arith)) r.value)

-- ---- what is written is read
length-letters_text : (k v : ℕ) → length (letters_text k v) ≡ k
unfolding letters_text
length-letters_text zero v = refl
length-letters_text (suc k) v = length-append (letters_text k (v / 256)) ((v % 256) ∷ []) ∙ (ap (λ m. m + 1) (length-letters_text k (v / 256)) ∙ add-one k)

-- the letters of a value are letters
pub letters-letters_text : (k v : ℕ) → are_letters k v ≡ true → list_all is_letter (letters_text k v) ≡ true
unfolding letters_text
letters-letters_text zero v h = refl
letters-letters_text (suc k) v h =
    let p = and_parts (is_letter (v % 256)) (are_letters k (v / 256)) h in
    list_all-append is_letter (letters_text k (v / 256)) ((v % 256) ∷ []) ∙ and_from (list_all is_letter (letters_text k (v / 256))) (list_all is_letter ((v % 256) ∷ [])) (letters-letters_text k (v / 256) p.1) (and_from (is_letter (v % 256)) true p.0 refl)

packed_push : (n : ℕ) (bs : List ℕ) (b : ℕ) → packed n (bs ++ b ∷ []) ≡ 256 * packed n bs + b
packed_push n [] b = refl
packed_push n (x ∷ bs) b = packed_push (256 * n + x) bs b

-- and they pack to the value
packed-letters_text : (k v : ℕ) → are_letters k v ≡ true → packed 0 (letters_text k v) ≡ v
unfolding letters_text
packed-letters_text zero v h = grind (arith, nat_tests)
packed-letters_text (suc k) v h =
    let p = and_parts (is_letter (v % 256)) (are_letters k (v / 256)) h in
    let front : packed 0 (letters_text k (v / 256)) ≡ v / 256 = packed-letters_text k (v / 256) p.1 in
    packed_push 0 (letters_text k (v / 256)) (v % 256) ∙ (rw front (omega arith))

pub letters_of-letters_text : (k v : ℕ) → are_letters k v ≡ true → letters_of k (letters_text k v) ≡ Some v
unfolding letters_of
letters_of-letters_text k v h = rw (exact_test k (length (letters_text k v)) (list_all is_letter (letters_text k v)) (length-letters_text k v) (letters-letters_text k v h)) (ap Some (packed-letters_text k v h))

-- ---- what is read is written so
-- a letter that is read is the last letter that is written
last_letter : (j n b : ℕ) → b < 256 → letters_text (suc j) (256 * n + b) ≡ letters_text j n ++ b ∷ []
unfolding letters_text
last_letter j n b h =
    let front : (256 * n + b) / 256 ≡ n = omega arith in
    let back : (256 * n + b) % 256 ≡ b = omega arith in
    rw (front, back) refl

-- letters that are read after a value are written after it
letters_text_after : (j k n : ℕ) (bs : List ℕ) → list_all is_letter bs ≡ true → k ≡ j + length bs → letters_text k (packed n bs) ≡ letters_text j n ++ bs
letters_text_after j k n [] h e = let same : k ≡ j = omega arith in rw (same, append-nil (letters_text j n)) refl
letters_text_after j k n (b ∷ bs) h e =
    let p = and_parts (is_letter b) (list_all is_letter bs) h in
    letters_text_after (suc j) k (256 * n + b) bs p.1 (omega arith) ∙ (ap (λ front. front ++ bs) (last_letter j n b (letter_small b p.0)) ∙ append_assoc (letters_text j n) (b ∷ []) bs)

one_letter_more : (j n b : ℕ) → is_letter b ≡ true → are_letters j n ≡ true → are_letters (suc j) (256 * n + b) ≡ true
one_letter_more j n b p h =
    let small : b < 256 = letter_small b p in
    let front : (256 * n + b) / 256 ≡ n = omega arith in
    let back : (256 * n + b) % 256 ≡ b = omega arith in
    rw (front, back) (and_from (is_letter b) (are_letters j n) p h)

are_letters_after : (j k n : ℕ) (bs : List ℕ) → list_all is_letter bs ≡ true → are_letters j n ≡ true → k ≡ j + length bs → are_letters k (packed n bs) ≡ true
are_letters_after j k n [] h a e = let same : k ≡ j = omega arith in rw same a
are_letters_after j k n (b ∷ bs) h a e =
    let p = and_parts (is_letter b) (list_all is_letter bs) h in
    are_letters_after (suc j) k (256 * n + b) bs p.1 (one_letter_more j n b p.0 a) (omega arith)

pub letters_text-letters_of : (k : ℕ) (bs : List ℕ) (v : ℕ) → letters_of k bs ≡ Some v → (letters_text k v ≡ bs) × (are_letters k v ≡ true) × (list_all is_letter bs ≡ true)
unfolding letters_of letters_text
letters_text-letters_of k bs v h =
    let p = cond_some _ (packed 0 bs) v h in
    let parts = exact_test_parts k (length bs) (list_all is_letter bs) p.0 in
    (ap (letters_text k) (sym p.1) ∙ letters_text_after 0 k 0 bs parts.1 (omega (arith, parts.0)), subst (λ m. are_letters k m ≡ true) p.1 (are_letters_after 0 k 0 bs parts.1 refl (omega (arith, parts.0))), parts.1)
