-- Lemmas on words of a text, and on short numbers.
use Rattle.std.proofs.Common.{◌≡◌, ℕ, ◌<◌, ◌^◌, ◌∙◌, sym, ap, subst, Bool, true, false, not, cond, List, [], ◌∷◌, ◌++◌, length, get_or, refl, arith, eqb, ltb, Option, Some, None, decimal, bytes_eq}
use Rattle.std.proofs.lemmas.Bool.{false≢true, eqb-true, and_parts}
use Rattle.std.proofs.lemmas.Bool.Decides.{nat_tests}
use Rattle.std.proofs.lemmas.List.{length-take-le, get_or-take}
use Rattle.std.proofs.lemmas.List.Elements.{All-nil, All-cons, All-head, All-tail}
use Rattle.std.proofs.lemmas.List.Sums.{split_at_first, passes_at_first, fails_before_first}
use Rattle.std.proofs.lemmas.Option.{none-some, same_Some, option_and_then_some}
use Rattle.std.proofs.lemmas.Slice.Eq.{bytes_eq-Decides}
use Rattle.std.specs.List.{list_all, position_or_len, before_first, after_first}
use Rattle.std.specs.Option.{option_map}
use Rattle.tatp_lines.specs.Numbers.{number_of}
use Rattle.tatp_lines.proofs.NumberLaws.{number_of-decimal, decimal-number_of}
use Rattle.tatp_texts.specs.Text.{value_of}
use Rattle.tatp_texts.proofs.FieldLaws.{is_space}
use Rattle.tatp_texts.proofs.ValueLaws.{HasNoSpace, value_text-value_of}
use Rattle.tatp_history_lines.specs.Words.{split_word, if_short, short_number_of}

pub option_map_some : {T U : Type 0} (f : T → U) (o : Option T) (y : U) → option_map f o ≡ Some y → (x : T) × (o ≡ Some x) × (f x ≡ y)
option_map_some f None y h = absurd (none-some y h)
option_map_some f (Some x) y h = (x, refl, same_Some (f x) y h)

-- ---- words
abbrev pub Parts : Type 0
Parts = List ℕ × List ℕ

-- a text that begins with no space
later_word : (b : ℕ) (bs front rest : List ℕ) → eqb b 32 ≡ false → split_word bs ≡ Some (front, rest) → split_word (b ∷ bs) ≡ Some (b ∷ front, rest)
unfolding split_word
later_word b bs front rest e h = rw (e, h) refl

no_later_word : (b : ℕ) (bs : List ℕ) → eqb b 32 ≡ false → split_word bs ≡ None → split_word (b ∷ bs) ≡ None
unfolding split_word
no_later_word b bs e h = rw (e, h) refl

no_word : split_word [] ≡ None
unfolding split_word
no_word = refl

abbrev no_front : List ℕ → Parts
no_front bs = ([], bs)

empty_word : (b : ℕ) (bs : List ℕ) → eqb b 32 ≡ true → split_word (b ∷ bs) ≡ Some ([], bs)
unfolding split_word
empty_word b bs e = rw e refl

-- a word, a space and what follows are these parts
pub split_at : (word rest : List ℕ) → HasNoSpace word → split_word (word ++ 32 ∷ rest) ≡ Some (word, rest)
split_at [] rest h = empty_word 32 rest refl
split_at (b ∷ word) rest h =
    later_word b (word ++ 32 ∷ rest) word rest (All-head (λ byte. is_space byte ≡ false) b word h)
    (split_at word rest (All-tail (λ byte. is_space byte ≡ false) b word h))

pub split_none : (word : List ℕ) → HasNoSpace word → split_word word ≡ None
split_none [] h = no_word
split_none (b ∷ word) h =
    no_later_word b word (All-head (λ byte. is_space byte ≡ false) b word h)
    (split_none word (All-tail (λ byte. is_space byte ≡ false) b word h))

-- a word that ends at a space, and what follows
before_space : (bs : List ℕ) → position_or_len is_space bs < length bs → HasNoSpace (before_first is_space bs)
before_space bs h = λ k d l.
    let inside : k < position_or_len is_space bs = subst (λ n. k < n) (length-take-le (position_or_len is_space bs) bs (omega arith)) l in
    ap is_space (get_or-take (position_or_len is_space bs) bs k d inside) ∙ fails_before_first is_space bs k d inside

split_before : (bs : List ℕ) → position_or_len is_space bs < length bs → split_word bs ≡ Some (before_first is_space bs, after_first is_space bs)
split_before bs h =
    let whole = split_at_first is_space bs 0 h in
    let space : get_or bs (position_or_len is_space bs) 0 ≡ 32 = eqb-true _ 32 (passes_at_first is_space bs 0 h) in
    ap split_word (whole ∙ ap (λ b. before_first is_space bs ++ b ∷ after_first is_space bs) space)
    ∙ split_at (before_first is_space bs) (after_first is_space bs) (before_space bs h)

pub split_first : (bs front rest : List ℕ) → position_or_len is_space bs < length bs → front ≡ before_first is_space bs → rest ≡ after_first is_space bs → split_word bs ≡ Some (front, rest)
split_first bs front rest h f r = split_before bs h ∙ (λ i. Some (sym f i, sym r i))

-- a text of one word
pub split_last : (bs : List ℕ) → position_or_len is_space bs ≡ length bs → split_word bs ≡ None
split_last bs h = split_none bs (λ k d l. fails_before_first is_space bs k d (omega arith))

-- the parts of a text are the text again
joined_again : (b : ℕ) (bs : List ℕ) (parts : Parts) (t : Bool) → eqb b 32 ≡ t → ((p : Parts) → split_word bs ≡ Some p → bs ≡ p.0 ++ 32 ∷ p.1) → split_word (b ∷ bs) ≡ Some parts → b ∷ bs ≡ parts.0 ++ 32 ∷ parts.1
unfolding split_word
joined_again b bs parts true e own h =
    let is : no_front bs ≡ parts = same_Some (no_front bs) parts (sym (empty_word b bs e) ∙ h) in
    subst (λ (p : Parts). b ∷ bs ≡ p.0 ++ 32 ∷ p.1) is (ap (λ x. x ∷ bs) (eqb-true b 32 e))
joined_again b bs parts false e own h =
    let more = option_map_some (λ (p : Parts). (b ∷ p.0, p.1)) (split_word bs) parts (rw e at h) in
    subst (λ (p : Parts). b ∷ bs ≡ p.0 ++ 32 ∷ p.1) more.2 (ap (λ xs. b ∷ xs) (own more.0 more.1))

pub joined : (text : List ℕ) (parts : Parts) → split_word text ≡ Some parts → text ≡ parts.0 ++ 32 ∷ parts.1
joined [] parts h = absurd (none-some parts (sym no_word ∙ h))
joined (b ∷ bs) parts h = joined_again b bs parts (eqb b 32) refl (joined bs) h

-- ---- short numbers
short_cases : (n m : ℕ) (t : Bool) → (t ≡ true → n < 2 ^ 32) → cond t (Some n) None ≡ Some m → (n ≡ m) × (m < 2 ^ 32)
short_cases n m true f h = let is : n ≡ m = same_Some n m h in (is, subst (λ k. k < 2 ^ 32) is (f refl))
short_cases n m false f h = absurd (none-some m h)

is_short : (n : ℕ) → ltb n (2 ^ 32) ≡ true → n < 2 ^ 32
is_short n h = grind (arith, nat_tests)

short_test : (n : ℕ) → n < 2 ^ 32 → ltb n (2 ^ 32) ≡ true
short_test n h = grind (arith, nat_tests)

pub short_read : (text : List ℕ) (n : ℕ) → short_number_of text ≡ Some n → (text ≡ decimal n) × (n < 2 ^ 32)
short_read text n h = option_and_then_some if_short (number_of text) n h (λ m is then.
    let short = short_cases m n (ltb m (2 ^ 32)) (is_short m) then in
    (sym (decimal-number_of text m is).0 ∙ ap decimal short.0, short.1))

pub short_written : (n : ℕ) → n < 2 ^ 32 → short_number_of (decimal n) ≡ Some n
short_written n h = rw (number_of-decimal n (omega arith), short_test n h) refl

-- ---- texts without a space
pub number_no_space : (text : List ℕ) (n : ℕ) → number_of text ≡ Some n → HasNoSpace text
unfolding value_of
number_no_space text n h = (value_text-value_of 0 text n h).2

pub decimal_no_space : (n : ℕ) → n < 2 ^ 64 → HasNoSpace (decimal n)
decimal_no_space n h = number_no_space (decimal n) n (number_of-decimal n h)

no_of_not : (b : Bool) → not b ≡ true → b ≡ false
no_of_not true h = absurd (false≢true h)
no_of_not false h = refl

pub word_no_space : (word : List ℕ) → list_all (λ byte. not (is_space byte)) word ≡ true → HasNoSpace word
word_no_space [] h = All-nil (λ byte. is_space byte ≡ false)
word_no_space (b ∷ bs) h =
    let p = and_parts (not (is_space b)) (list_all (λ byte. not (is_space byte)) bs) h in
    All-cons (λ byte. is_space byte ≡ false) b bs (no_of_not (is_space b) p.0) (word_no_space bs p.1)

-- ---- choices
-- one choice, or the rest
pub chosen : {A : Type 0} (P : A → Type 0) (t : Bool) (o rest : Option A) (x : A) → cond t o rest ≡ Some x → (t ≡ true → o ≡ Some x → P x) → (rest ≡ Some x → P x) → P x
chosen P true o rest x h f g = f refl h
chosen P false o rest x h f g = g h

pub same_bytes : (a b : List ℕ) → bytes_eq a b ≡ true → a ≡ b
same_bytes a b h = (bytes_eq-Decides a b).0 h
