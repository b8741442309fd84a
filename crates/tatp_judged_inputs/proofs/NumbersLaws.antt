-- Numbers of lines in runs.
use Rattle.std.proofs.Common.{◌≡◌, ℕ, zero, suc, ◌+◌, ◌-◌, ◌<◌, ◌≤◌, List, [], ◌∷◌, ◌++◌, length, drop, Some, get_or, slice_get, slice_set, slice_index, refl, sym, ◌∙◌, ap, subst, arith}
use Rattle.std.proofs.lemmas.List.{append-nil, append_assoc, length-append}
use Rattle.std.specs.List.{AllByRecursion}
use Rattle.tatp_judged_inputs.specs.declared.line_numbers.Run.{Run}
use Rattle.tatp_judged_inputs.specs.LineNumbers.{count_from, numbers_in}

pub counted : (first n : ℕ) → length (count_from first n) ≡ n
counted first zero = refl
counted first (suc n) = ap suc (counted (suc first) n)

-- one more at the end of a run
pub count_more : (first n : ℕ) → count_from first (n + 1) ≡ count_from first n ++ (first + n) ∷ []
count_more first n = subst (λ k. count_from first k ≡ count_from first n ++ (first + n) ∷ []) next (more first n)
  where
    next : suc n ≡ n + 1
    next = omega arith

    more : (f k : ℕ) → count_from f (suc k) ≡ count_from f k ++ (f + k) ∷ []
    more f zero = let e : f ≡ f + 0 = omega arith in ap (λ v. v ∷ []) e
    more f (suc k) = ap (λ vs. f ∷ vs) (more (suc f) k ∙ (let e : suc f + k ≡ f + suc k = omega arith in ap (λ v. count_from (suc f) k ++ v ∷ []) e))

pub in_both : (xs ys : List Run) → numbers_in (xs ++ ys) ≡ numbers_in xs ++ numbers_in ys
in_both [] ys = refl
in_both (x ∷ xs) ys = ap (λ vs. count_from x.first x.count ++ vs) (in_both xs ys) ∙ sym (append_assoc (count_from x.first x.count) (numbers_in xs) (numbers_in ys))

-- ---- one number more
pub pushed : (runs : List Run) (run : Run) (number : ℕ) → run.first ≡ number → run.count ≡ 1 → numbers_in (runs ++ run ∷ []) ≡ numbers_in runs ++ number ∷ []
pushed runs run number first one =
    in_both runs (run ∷ []) ∙ ap (λ vs. numbers_in runs ++ vs) (append-nil (count_from run.first run.count) ∙ (λ i. count_from (first i) (one i)))

all_pushed : (P : Run → Type 0) (runs : List Run) (run : Run) → AllByRecursion P runs → P run → AllByRecursion P (runs ++ run ∷ [])
all_pushed P [] run h k = (k, tt)
all_pushed P (x ∷ xs) run h k = (h.0, all_pushed P xs run h.1 k)

-- the last run is longer by one
abbrev pub longer : Run → Run
longer run = record { first = run.first; count = run.count + 1 }

pub last_longer : (runs : List Run) (i : ℕ) (run : Run) → suc i ≡ length runs → slice_get runs i ≡ Some run → numbers_in (slice_set runs i (longer run)) ≡ numbers_in runs ++ (run.first + run.count) ∷ []
last_longer [] i run last at = absurd (omega (arith, last))
last_longer (x ∷ []) zero run last at =
    let is : x ≡ run = cc in
    ap (λ vs. vs ++ []) (count_more run.first run.count) ∙ (append-nil (count_from run.first run.count ++ (run.first + run.count) ∷ [])
    ∙ ap (λ vs. vs ++ (run.first + run.count) ∷ []) (sym (append-nil (count_from run.first run.count)) ∙ (λ j. count_from (sym is j).first (sym is j).count ++ [])))
last_longer (x ∷ []) (suc i) run last at = absurd (omega (arith, last))
last_longer (x ∷ y ∷ more) zero run last at = absurd (omega (arith, last))
last_longer (x ∷ y ∷ more) (suc i) run last at =
    ap (λ vs. count_from x.first x.count ++ vs) (last_longer (y ∷ more) i run (omega (arith, last)) at)
    ∙ sym (append_assoc (count_from x.first x.count) (numbers_in (y ∷ more)) ((run.first + run.count) ∷ []))

pub all_set : (P : Run → Type 0) (runs : List Run) (i : ℕ) (run : Run) → AllByRecursion P runs → P run → AllByRecursion P (slice_set runs i run)
all_set P [] i run h k = tt
all_set P (x ∷ xs) zero run h k = (k, h.1)
all_set P (x ∷ xs) (suc i) run h k = (h.0, all_set P xs i run h.1 k)

pub all_at : (P : Run → Type 0) (runs : List Run) (i : ℕ) (run : Run) → AllByRecursion P runs → slice_get runs i ≡ Some run → P run
all_at P [] i run h at = absurd cc
all_at P (x ∷ xs) zero run h at = let is : x ≡ run = cc in subst P is h.0
all_at P (x ∷ xs) (suc i) run h at = all_at P xs i run h.1 at

-- ---- the number at a place
in_run : (first n i : ℕ) (rest : List ℕ) → i < n → slice_index (count_from first n ++ rest) i ≡ first + i
in_run first zero i rest lt = absurd (omega (arith, lt))
in_run first (suc n) zero rest lt = omega arith
in_run first (suc n) (suc i) rest lt = in_run (suc first) n i rest (omega (arith, lt)) ∙ (let e : suc first + i ≡ first + suc i = omega arith in e)

past_run : (first n i : ℕ) (rest : List ℕ) → n ≤ i → slice_index (count_from first n ++ rest) i ≡ slice_index rest (i - n)
past_run first zero i rest le = let e : i ≡ i - 0 = omega arith in ap (slice_index rest) e
past_run first (suc n) zero rest le = absurd (omega (arith, le))
past_run first (suc n) (suc i) rest le = past_run (suc first) n i rest (omega (arith, le)) ∙ (let e : i - n ≡ suc i - suc n = omega arith in ap (slice_index rest) e)

run_at : (runs : List Run) (i : ℕ) (d : Run) → i < length runs → numbers_in (drop i runs) ≡ count_from (get_or runs i d).first (get_or runs i d).count ++ numbers_in (drop (i + 1) runs)
run_at [] i d lt = absurd (omega (arith, lt))
run_at (x ∷ xs) zero d lt = refl
run_at (x ∷ xs) (suc i) d lt =
    let next : suc i + 1 ≡ suc (i + 1) = omega arith in
    run_at xs i d (omega (arith, lt)) ∙ ap (λ k. count_from (get_or xs i d).first (get_or xs i d).count ++ numbers_in (drop k (x ∷ xs))) (sym next)

module _ (runs : List Run) (i left place : ℕ) (d : Run) (lt : i < length runs) (is : slice_index (numbers_in (drop i runs)) left ≡ slice_index (numbers_in runs) place) where
  pub found_here : left < (get_or runs i d).count → (get_or runs i d).first + left ≡ slice_index (numbers_in runs) place
  found_here within = sym (in_run (get_or runs i d).first (get_or runs i d).count left (numbers_in (drop (i + 1) runs)) within) ∙ (ap (λ ns. slice_index ns left) (sym (run_at runs i d lt)) ∙ is)

  pub found_later : (get_or runs i d).count ≤ left → slice_index (numbers_in (drop (i + 1) runs)) (left - (get_or runs i d).count) ≡ slice_index (numbers_in runs) place
  found_later past = sym (past_run (get_or runs i d).first (get_or runs i d).count left (numbers_in (drop (i + 1) runs)) past) ∙ (ap (λ ns. slice_index ns left) (sym (run_at runs i d lt)) ∙ is)

  pub still_within : left < length (numbers_in (drop i runs)) → (get_or runs i d).count ≤ left → left - (get_or runs i d).count < length (numbers_in (drop (i + 1) runs))
  still_within within past =
      let size : length (numbers_in (drop i runs)) ≡ length (count_from (get_or runs i d).first (get_or runs i d).count) + length (numbers_in (drop (i + 1) runs))
      = ap length (run_at runs i d lt) ∙ length-append (count_from (get_or runs i d).first (get_or runs i d).count) (numbers_in (drop (i + 1) runs)) in
      let own = counted (get_or runs i d).first (get_or runs i d).count in
      omega (arith, within, past, size, own)

pub one_run : (runs : List Run) (i : ℕ) (run other : Run) → slice_get runs i ≡ Some run → slice_get runs i ≡ Some other → run ≡ other
one_run runs i run other at there = let h : Some run ≡ Some other = sym at ∙ there in cc
