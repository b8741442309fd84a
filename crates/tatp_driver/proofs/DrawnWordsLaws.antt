-- Words taken one after another into an array.
use Rattle.std.specs.Prelude.{◌≡◌, ℕ, suc, ◌+◌, ◌<◌, List, [], ◌∷◌, ◌++◌, length, take}
use Rattle.std.proofs.Common.{refl, sym, ap, ◌∙◌, arith, add-one, set}
use Rattle.std.proofs.lemmas.Grind.{take-set_at}
use Rattle.std.proofs.lemmas.List.{take_all, length-set}
use Rattle.rand_core.specs.Stream.{Stream, next_u64}
use Rattle.tatp_driver.specs.DrawnWords.{next_words}

-- the first i of these n are the next i words, and this stream is left
pub record AreNext (before : Stream) (n i : ℕ) (words : List ℕ) (left : Stream) : Type 0 where
  pub all : length words ≡ n
  pub taken : (take i words, left) ≡ next_words i before

pub none_taken : (before : Stream) (words : List ℕ) → AreNext before (length words) 0 words before
unfolding next_words
none_taken before words = record { all = refl; taken = refl }

pub one_taken : (before : Stream) (n i : ℕ) (words : List ℕ) (left : Stream) (word : ℕ) (next : Stream)
    → AreNext before n i words left → i < n → (word, next) ≡ next_u64 left
    → AreNext before n (i + 1) (set words i word) next
unfolding next_words
one_taken before n i words left word next so_far lt one =
    let last : (word, next) ≡ next_u64 (next_words i before).1 = one ∙ ap next_u64 (λ j. (so_far.taken j).1) in
    let filled : take (suc i) (set words i word) ≡ take i words ++ word ∷ [] = take-set_at words i (suc i) word (omega arith) (omega (arith, so_far.all, lt)) in
    rw add-one (record {
      all = length-set words i word ∙ so_far.all;
      taken = λ j. ((filled ∙ (λ k. (so_far.taken k).0 ++ (last k).0 ∷ [])) j, (last j).1);
    })

pub all_taken : (before : Stream) (n i : ℕ) (words : List ℕ) (left : Stream) → i ≡ n → AreNext before n i words left → (words, left) ≡ next_words n before
all_taken before n i words left end so_far =
    ap (λ w. (w, left)) (sym (take_all i words (omega (arith, end, so_far.all)))) ∙ so_far.taken ∙ ap (λ k. next_words k before) end
