-- The first line of a text, and what follows it.
use Rattle.std.specs.Prelude.{◌≡◌, ℕ, suc, ◌+◌, ◌-◌, ◌<◌, ◌≤◌, Bool, true, false, cond, not, List, [], ◌∷◌, length, take, drop}
use Rattle.std.specs.List.{position, position_or_len, before_first, after_first, onto_first}
use Rattle.std.specs.Option.{unwrap_or}
use Rattle.std.proofs.Common.{refl, ap, sym, ◌∙◌, arith, eqb, ltb, add-one, Some, None}
use Rattle.std.proofs.lemmas.Bool.Decides.{nat_tests}
use Rattle.std.proofs.lemmas.List.Sums.{prefix_len-le-length}
use Rattle.std.proofs.lemmas.List.{take_rest}
use Rattle.tatp_lines.specs.Lines.{lines_of}

abbrev pub is_line_feed : ℕ → Bool
is_line_feed byte = eqb byte 10

pub lines_of-cons : (b : ℕ) (bs : List ℕ) → lines_of (b ∷ bs) ≡ cond (is_line_feed b) ([] ∷ lines_of bs) (onto_first b (lines_of bs))
unfolding lines_of
lines_of-cons b bs = refl

pub lines_of-nil : lines_of [] ≡ []
unfolding lines_of
lines_of-nil = refl

pub lines_of_none : (bs : List ℕ) → length bs ≡ 0 → lines_of bs ≡ []
lines_of_none [] h = lines_of-nil
lines_of_none (b ∷ bs) h = absurd (omega arith)

first_more : (b : ℕ) (bs : List ℕ) (n m : ℕ) → m ≡ suc n → lines_of bs ≡ take n bs ∷ lines_of (drop (n + 1) bs)
    → onto_first b (lines_of bs) ≡ take m (b ∷ bs) ∷ lines_of (drop (m + 1) (b ∷ bs))
first_more b bs n m e h = rw (e, h) (simp add-one)

-- one byte more, which is a line feed or not
first_step : (b : ℕ) (bs : List ℕ) (t : Bool) (n : ℕ)
    → (n < length bs → lines_of bs ≡ take n bs ∷ lines_of (drop (n + 1) bs))
    → cond (not t) (1 + n) 0 < length (b ∷ bs)
    → cond t ([] ∷ lines_of bs) (onto_first b (lines_of bs)) ≡ take (cond (not t) (1 + n) 0) (b ∷ bs) ∷ lines_of (drop (cond (not t) (1 + n) 0 + 1) (b ∷ bs))
first_step b bs true n e h = refl
first_step b bs false n e h = first_more b bs n (1 + n) (omega arith) (e (omega arith))

-- a line that ends at a line feed, and what follows
first_line : (bs : List ℕ) → position_or_len is_line_feed bs < length bs → lines_of bs ≡ before_first is_line_feed bs ∷ lines_of (after_first is_line_feed bs)
first_line [] h = absurd (omega arith)
first_line (b ∷ bs) h = lines_of-cons b bs ∙ first_step b bs (is_line_feed b) (position_or_len is_line_feed bs) (first_line bs) h

pub lines_of_first : (bs line rest : List ℕ) → position_or_len is_line_feed bs < length bs → line ≡ before_first is_line_feed bs → rest ≡ after_first is_line_feed bs → lines_of bs ≡ line ∷ lines_of rest
lines_of_first bs line rest h l r = rw (l, r) (first_line bs h)

-- the same of slices, which say how long what follows is
pub lines_of_slices : (bs : List ℕ) (n : ℕ) → n ≡ position_or_len is_line_feed bs → n < length bs
    → lines_of bs ≡ take n bs ∷ lines_of (take (length bs - (n + 1)) (drop (n + 1) bs))
lines_of_slices bs n e h = rw (take_rest bs (n + 1), e) (first_line bs (omega arith))

-- a line that lacks it
last_step : (b : ℕ) (bs : List ℕ) (t : Bool) (n : ℕ)
    → (0 < length bs → length bs ≤ n → lines_of bs ≡ bs ∷ [])
    → length (b ∷ bs) ≤ cond (not t) (1 + n) 0
    → cond t ([] ∷ lines_of bs) (onto_first b (lines_of bs)) ≡ (b ∷ bs) ∷ []
last_step b bs true n e h = absurd (omega arith)
last_step b [] false n e h = ap (onto_first b) lines_of-nil
last_step b (x ∷ bs) false n e h = ap (onto_first b) (e (omega arith) (omega arith))

last_line : (bs : List ℕ) → 0 < length bs → length bs ≤ position_or_len is_line_feed bs → lines_of bs ≡ bs ∷ []
last_line [] h k = absurd (omega arith)
last_line (b ∷ bs) h k = lines_of-cons b bs ∙ last_step b bs (is_line_feed b) (position_or_len is_line_feed bs) (last_line bs) k

pub lines_of_last : (bs : List ℕ) → 0 < length bs → length bs ≤ position_or_len is_line_feed bs → lines_of bs ≡ bs ∷ lines_of []
lines_of_last bs h k = last_line bs h k ∙ ap (λ more. bs ∷ more) (sym lines_of-nil)

-- the place of the first line feed, or the length
place_cases : (n l : ℕ) → n ≤ l → unwrap_or (cond (ltb n l) (Some n) None) l ≡ n
place_cases n l h = grind (arith, nat_tests)

pub place_or_len : (bs : List ℕ) → unwrap_or (position is_line_feed bs) (length bs) ≡ position_or_len is_line_feed bs
place_or_len bs = place_cases (position_or_len is_line_feed bs) (length bs) (prefix_len-le-length (λ b. not (is_line_feed b)) bs)
