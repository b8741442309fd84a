-- Lemmas on a text that was appended to: it can be cut to what it was.
use Rattle.std.proofs.Common.{◌≡◌, ℕ, ◌+◌, ◌<◌, ◌∙◌, sym, ap, subst, List, [], ◌∷◌, ◌++◌, length, take, slice_index, append_assoc, arith, lit<, length-append}
use Rattle.std.proofs.lemmas.List.{take_at, get_or-append-add}
use Rattle.std.specs.String.Boundary.{IsSplitPoint}
use Rattle.tatp_calls.specs.Extends.{Extends}

Extends-by : (before text : List ℕ) (first : ℕ) (rest : List ℕ) → first < 128 → text ≡ before ++ first ∷ rest → Extends before text
Extends-by before text first rest lt e = record { more = first ∷ rest; is = e; begins = lt }

begins_then : (more other : List ℕ) → slice_index more 0 < 128 → slice_index other 0 < 128 → slice_index (more ++ other) 0 < 128
begins_then [] other h k = k
begins_then (x ∷ more) other h k = h

Extends-then : (before between text : List ℕ) → Extends before between → Extends between text → Extends before text
Extends-then before between text e f = record {
  more = e.more ++ f.more;
  is = f.is ∙ (ap (λ front. front ++ f.more) e.is ∙ append_assoc before e.more f.more);
  begins = begins_then e.more f.more e.begins f.begins;
}

-- a value after a space
pub Extends-printed : (before text longer value : List ℕ) → Extends before text → longer ≡ text ++ 32 ∷ value → Extends before longer
Extends-printed before text longer value e v = Extends-then before text longer e (Extends-by text longer 32 value (lit< tt) v)

-- so it may be cut there
pub may_be_cut : (before text : List ℕ) (n : ℕ) → n ≡ length before → Extends before text → IsSplitPoint text n
may_be_cut before text n same e = (omega (arith, ap length e.is, length-append before e.more, same), λ low high byte. omega (arith, byte, small))
  where
    place : length before + 0 ≡ n
    place = omega (arith, same)

    small : slice_index text n < 128
    small = subst (λ b. b < 128) (sym (ap (λ i. slice_index text i) (sym place) ∙ ap (λ t. slice_index t (length before + 0)) e.is ∙ get_or-append-add before e.more 0 0)) e.begins

pub cut_back : (before text : List ℕ) (n : ℕ) → n ≡ length before → Extends before text → take n text ≡ before
cut_back before text n same e = ap (take n) e.is ∙ take_at before e.more n (sym same)
