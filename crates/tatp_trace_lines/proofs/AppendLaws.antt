-- Lemmas on a text that was appended to, piece by piece.
use Rattle.std.proofs.Common.{◌≡◌, ℕ, ◌<◌, ◌∙◌, ap, List, [], ◌∷◌, ◌++◌, slice_index, length, arith, append_assoc, Result, Ok, Err}
use Rattle.std.specs.Result.{OnErr}
use Rattle.tatp_calls.specs.Extends.{Extends}

-- words extend it
pub words_extend : (before words text : List ℕ) → slice_index words 0 < 128 → text ≡ before ++ words → Extends before text
words_extend before words text h e = record { more = words; is = e; begins = h }

-- words, and a piece after them
pub words_and_number : (before words between text piece : List ℕ) → between ≡ before ++ words → text ≡ between ++ piece → text ≡ before ++ (words ++ piece)
words_and_number before words between text piece w e = e ∙ (ap (λ front. front ++ piece) w ∙ append_assoc before words piece)

begins_words : (words rest : List ℕ) → 0 < length words → slice_index words 0 < 128 → slice_index (words ++ rest) 0 < 128
begins_words [] rest l h = absurd (omega arith)
begins_words (x ∷ words) rest l h = h

-- words and a number, and a piece after them
pub more_extend : (before words number between piece text : List ℕ) → 0 < length words → slice_index words 0 < 128 → between ≡ before ++ (words ++ number) → text ≡ between ++ piece → Extends before text
more_extend before words number between piece text l h w e = record {
  more = words ++ (number ++ piece);
  is = e ∙ (ap (λ front. front ++ piece) w ∙ (append_assoc before (words ++ number) piece ∙ ap (λ rest. before ++ rest) (append_assoc words number piece)));
  begins = begins_words words (number ++ piece) l h;
}

pub on_err_always : {T E P : Type 0} (r : Result T E) → P → OnErr r P
on_err_always (Ok x) p = tt
on_err_always (Err e) p = p

-- words, a number and a space, and then nothing more
pub space_extends : (before words number between spaced text : List ℕ) → 0 < length words → slice_index words 0 < 128 → between ≡ before ++ (words ++ number) → spaced ≡ between ++ 32 ∷ [] → text ≡ spaced → Extends before text
space_extends before words number between spaced text l h w s e = more_extend before words number between (32 ∷ []) text l h w (e ∙ s)
