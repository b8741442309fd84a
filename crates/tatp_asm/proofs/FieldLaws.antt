-- Fields that a separator parts, and what a text is not.
use Rattle.std.proofs.Common.{◌≡◌, ◌≢◌, ℕ, ◌<◌, ◌∙◌, ap, Bool, true, false, cond, eqb, List, [], ◌∷◌, ◌++◌, length, refl, arith, Some, None}
use Rattle.std.specs.Option.{option_map}
use Rattle.std.specs.List.{slice_split, position_or_len, before_first, after_first, onto_first}
use Rattle.std.proofs.lemmas.Bool.{ne_eqb}
use Rattle.std.proofs.lemmas.List.Splits.{slice_split_first, slice_split_none}
use Rattle.std.proofs.lemmas.List.Sums.{fails_before_first}
use Rattle.tatp_asm.specs.Words.{operand_of, instruction_with, before_colon, label_line, label_or_instruction, word_of, line_of, line_of_bytes}
use Rattle.std.specs.Prelude.{codes}
use Rattle.std.specs.Str.{bytes_eq, IsUtf8, is_utf8}
use Rattle.std.proofs.lemmas.Str.{IsUtf8-from_is_utf8, is_utf8-from_IsUtf8}

abbrev pub is : ℕ → ℕ → Bool
is c byte = eqb byte c

-- a field that ends at a separator, and what follows
pub fields_first : (c : ℕ) (bs front rest : List ℕ) → position_or_len (is c) bs < length bs → front ≡ before_first (is c) bs → rest ≡ after_first (is c) bs → slice_split (is c) bs ≡ front ∷ slice_split (is c) rest
fields_first c bs front rest h f r = rw (f, r) (slice_split_first (is c) bs 0 h)

-- the last field
pub fields_last : (c : ℕ) (bs : List ℕ) → position_or_len (is c) bs ≡ length bs → slice_split (is c) bs ≡ bs ∷ []
fields_last c bs h = slice_split_none (is c) bs (λ k d l. fails_before_first (is c) bs k d (omega arith))

-- a text that begins with none of the three marks
pub no_operand : (bs : List ℕ) → ((rest : List ℕ) → bs ≢ 114 ∷ rest) → ((rest : List ℕ) → bs ≢ 35 ∷ rest) → ((rest : List ℕ) → bs ≢ 64 ∷ rest) → operand_of bs ≡ None
unfolding operand_of
no_operand [] h i j = refl
no_operand (b ∷ bs) h i j =
    let p : eqb b 114 ≡ false = ne_eqb b 114 (λ e. h bs (ap (λ (x : ℕ). x ∷ bs) e)) in
    let q : eqb b 35 ≡ false = ne_eqb b 35 (λ e. i bs (ap (λ (x : ℕ). x ∷ bs) e)) in
    let r : eqb b 64 ≡ false = ne_eqb b 64 (λ e. j bs (ap (λ (x : ℕ). x ∷ bs) e)) in
    rw (p, q, r) refl

-- a colon at the end
pub colon_found : (front : List ℕ) → before_colon (front ++ (58 ∷ [])) ≡ Some front
unfolding before_colon
colon_found [] = refl
colon_found (b ∷ []) = refl
colon_found (b ∷ c ∷ bs) = ap (option_map (λ (front : List ℕ). b ∷ front)) (colon_found (c ∷ bs))

-- and none
pub no_colon : (bs : List ℕ) → ((front : List ℕ) → bs ≢ front ++ (58 ∷ [])) → before_colon bs ≡ None
unfolding before_colon
no_colon [] h = refl
no_colon (b ∷ []) h = let p : eqb b 58 ≡ false = ne_eqb b 58 (λ e. h [] (ap (λ (x : ℕ). x ∷ []) e)) in rw p refl
no_colon (b ∷ c ∷ bs) h = ap (option_map (λ (front : List ℕ). b ∷ front)) (no_colon (c ∷ bs) (λ front e. h (b ∷ front) (ap (λ (x : List ℕ). b ∷ x) e)))

-- a text has a field
pub some_field : (c : ℕ) (bs : List ℕ) → (f : List ℕ) × (fs : List (List ℕ)) × (slice_split (is c) bs ≡ f ∷ fs)
some_field c [] = ([], [], refl)
some_field c (b ∷ bs) = by (is c b) (some_field c bs)
  where
    by : (t : Bool) → (f : List ℕ) × (fs : List (List ℕ)) × (slice_split (is c) bs ≡ f ∷ fs)
        → (f : List ℕ) × (fs : List (List ℕ)) × (cond t ([] ∷ slice_split (is c) bs) (onto_first b (slice_split (is c) bs)) ≡ f ∷ fs)
    by true r = ([], slice_split (is c) bs, refl)
    by false r = (b ∷ r.0, r.1, ap (onto_first b) r.2)

-- a word that isn't `end`
pub word_other : (word : List ℕ) → bytes_eq word (codes "end") ≡ false → word_of word ≡ label_or_instruction word (before_colon word)
unfolding word_of
word_other word other = rw other refl

-- a word with a colon at its end
pub with_colon : (word front : List ℕ) → word ≡ front ++ (58 ∷ []) → label_or_instruction word (before_colon word) ≡ label_line front
with_colon word front e = ap (label_or_instruction word) (ap before_colon e ∙ colon_found front)

-- and one with none
pub with_no_colon : (word : List ℕ) → ((front : List ℕ) → word ≢ front ++ (58 ∷ [])) → label_or_instruction word (before_colon word) ≡ instruction_with word []
with_no_colon word h = ap (label_or_instruction word) (no_colon word h)

-- ---- bytes that are a text, and bytes that are none
pub text_yes : (bytes : List ℕ) → IsUtf8 bytes → line_of_bytes bytes ≡ line_of bytes
unfolding line_of_bytes
text_yes bytes h = rw (is_utf8-from_IsUtf8 bytes h) refl

pub text_no : (bytes : List ℕ) → (IsUtf8 bytes → ⊥) → line_of_bytes bytes ≡ None
unfolding line_of_bytes
text_no bytes h = by (is_utf8 bytes) refl
  where
    by : (t : Bool) → is_utf8 bytes ≡ t → cond t (line_of bytes) None ≡ None
    by true e = absurd (h (IsUtf8-from_is_utf8 bytes e))
    by false e = refl
