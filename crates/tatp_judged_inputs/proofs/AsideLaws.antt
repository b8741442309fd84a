-- Subscribers that are set aside, by the numbers of lines in the input.
use Rattle.std.proofs.Common.{◌≡◌, ℕ, zero, suc, ◌+◌, ◌-◌, ◌<◌, ◌≤◌, ◌∙◌, sym, ap, List, [], ◌∷◌, ◌++◌, length, map, take, drop, slice_index, refl, arith, Option, Some, None, inl, inr}
use Rattle.std.specs.List.{AllByRecursion}
use Rattle.std.proofs.lemmas.List.{length-append, take_all}
use Rattle.tatp_history.specs.declared.line.Line.{Line}
use Rattle.tatp_judge.specs.declared.aside.Undecided.{Undecided}
use Rattle.tatp_judge.specs.declared.judge.Verdict.{Verdict}
use Rattle.tatp_judge.specs.declared.judge.Verdict.TheVariants as verdicts
use Rattle.tatp_judge.specs.Verdicts.{AreInOrder, IsAside, IsLegalBut as AreLegalBut, IsOther}
use Rattle.tatp_judged_inputs.specs.Judged.{aside_told, number_after, one_told}
use Rattle.tatp_judged_inputs.specs.RowsAtEnd.{ids, told_at}
use Rattle.tatp_judged_inputs.specs.Views.{IsLegalBut, IsVerdictOn, View, seen}

-- ---- the subscribers alone
pub ids_told : (taken : ℕ) (numbers : List ℕ) (aside : List Undecided) → ids (aside_told taken numbers aside) ≡ ids aside
ids_told taken numbers [] = refl
ids_told taken numbers (one ∷ more) = ap (λ xs. one.s_id ∷ xs) (ids_told taken numbers more)

pub ids_at : (line : ℕ) (aside : List Undecided) → ids (told_at line aside) ≡ ids aside
ids_at line [] = refl
ids_at line (one ∷ more) = ap (λ xs. one.s_id ∷ xs) (ids_at line more)

pub ids_both : (xs ys : List Undecided) → ids (xs ++ ys) ≡ ids xs ++ ids ys
ids_both [] ys = refl
ids_both (one ∷ xs) ys = ap (λ zs. one.s_id ∷ zs) (ids_both xs ys)

pub first_same : (a b : ℕ) (xs ys : List ℕ) → a ∷ xs ≡ b ∷ ys → a ≡ b
first_same a b xs ys e = cc

pub rest_same : (a b : ℕ) (xs ys : List ℕ) → a ∷ xs ≡ b ∷ ys → xs ≡ ys
rest_same a b xs ys e = cc

pub some_none : (a : ℕ) (xs : List ℕ) → a ∷ xs ≡ [] → ⊥
some_none a xs e = let long : length (a ∷ xs) ≡ 0 = ap length e in omega (arith, long)

pub same_aside : (xs ys : List Undecided) (s : ℕ) → ids xs ≡ ids ys → IsAside xs s → IsAside ys s
same_aside [] ys s e h = absurd h
same_aside (one ∷ xs) [] s e h = absurd (some_none one.s_id (ids xs) e)
same_aside (one ∷ xs) (other ∷ ys) s e h = elim h [
  | inl here ↦ inl (sym (first_same one.s_id other.s_id (ids xs) (ids ys) e) ∙ here)
  | inr k ↦ inr (same_aside xs ys s (rest_same one.s_id other.s_id (ids xs) (ids ys) e) k)
]

but_rows : (u : View) (xs ys : List Undecided) (lines : List Line) → ids xs ≡ ids ys → AreLegalBut u.rows xs lines → AreLegalBut u.rows ys lines
but_rows u [] [] lines e h = h
but_rows u [] (other ∷ ys) lines e h = absurd (some_none other.s_id (ids ys) (sym e))
but_rows u (one ∷ xs) [] lines e h = absurd (some_none one.s_id (ids xs) e)
but_rows u (one ∷ xs) (other ∷ ys) lines e h = record { each = λ s apart. h.each s (λ k. apart (same_aside (one ∷ xs) (other ∷ ys) s e k)); none = h.none }

pub same_but : (u : View) (xs ys : List Undecided) (lines : List Line) → ids xs ≡ ids ys → IsLegalBut u xs lines → IsLegalBut u ys lines
same_but u xs ys lines e h = but_rows u xs ys (seen u lines) e h

same_other : (xs ys : List Undecided) (s_id : Option ℕ) → ids xs ≡ ids ys → IsOther xs s_id → IsOther ys s_id
same_other xs ys None e h = tt
same_other xs ys (Some s) e h = λ k. h (same_aside ys xs s (sym e) k)

pub same_verdict : (u : View) (xs ys : List Undecided) (lines : List Line) (verdict : Verdict) → ids xs ≡ ids ys → IsVerdictOn u xs lines verdict → IsVerdictOn u ys lines verdict
same_verdict u xs ys lines verdicts.Legal e h = same_but u xs ys lines e h
same_verdict u xs ys lines (verdicts.Illegal n s_id) e h = (
  record {
    first = h.0.first;
    within = h.0.within;
    illegal = λ legal. h.0.illegal (but_rows u ys xs (take n (seen u lines)) (sym e) legal);
    before = but_rows u xs ys (take (n - 1) (seen u lines)) e h.0.before;
  },
  h.1,
  same_other xs ys s_id e h.2,
)

-- ---- in order
abbrev pub AreRising : List ℕ → Type 0
AreRising [] = Unit {0}
AreRising (n ∷ more) = AllByRecursion (λ m. n ≤ m) more × AreRising more

at_all : (P : ℕ → Type 0) (xs : List ℕ) (k : ℕ) → AllByRecursion P xs → k < length xs → P (slice_index xs k)
at_all P [] k h lt = absurd (omega (arith, lt))
at_all P (x ∷ xs) zero h lt = h.0
at_all P (x ∷ xs) (suc k) h lt = at_all P xs k h.1 (omega (arith, lt))

rising_at : (xs : List ℕ) (i j : ℕ) → AreRising xs → i ≤ j → j < length xs → slice_index xs i ≤ slice_index xs j
rising_at [] i j h le lt = absurd (omega (arith, lt))
rising_at (x ∷ xs) zero zero h le lt = omega arith
rising_at (x ∷ xs) zero (suc j) h le lt = at_all (λ m. x ≤ m) xs j h.0 (omega (arith, lt))
rising_at (x ∷ xs) (suc i) zero h le lt = absurd (omega (arith, le))
rising_at (x ∷ xs) (suc i) (suc j) h le lt = rising_at xs i j h.1 (omega (arith, le)) (omega (arith, lt))

after_rises : (taken : ℕ) (numbers : List ℕ) (i j : ℕ) → AllByRecursion (λ n. taken < n) numbers → AreRising numbers → i ≤ j → j ≤ length numbers → number_after taken numbers i ≤ number_after taken numbers j
after_rises taken numbers zero zero later rise le within = omega arith
after_rises taken numbers zero (suc j) later rise le within = let lt : taken < slice_index numbers j = at_all (λ n. taken < n) numbers j later (omega (arith, within)) in omega (arith, lt)
after_rises taken numbers (suc i) zero later rise le within = absurd (omega (arith, le))
after_rises taken numbers (suc i) (suc j) later rise le within = rising_at numbers i j rise (omega (arith, le)) (omega (arith, within))

all_over : (P Q : Undecided → Type 0) (f : Undecided → Undecided) (xs : List Undecided) → ((x : Undecided) → P x → Q (f x)) → AllByRecursion P xs → AllByRecursion Q (map f xs)
all_over P Q f [] g h = tt
all_over P Q f (x ∷ xs) g h = (g x h.0, all_over P Q f xs g h.1)

all_both : (P Q : Undecided → Type 0) (xs : List Undecided) → AllByRecursion P xs → AllByRecursion Q xs → AllByRecursion (λ x. P x × Q x) xs
all_both P Q [] h k = tt
all_both P Q (x ∷ xs) h k = ((h.0, k.0), all_both P Q xs h.1 k.1)

pub order_told : (taken : ℕ) (numbers : List ℕ) (aside : List Undecided) → AllByRecursion (λ n. taken < n) numbers → AreRising numbers → AllByRecursion (λ one. one.line ≤ length numbers) aside → AreInOrder aside → AreInOrder (aside_told taken numbers aside)
order_told taken numbers [] later rise within h = tt
order_told taken numbers (one ∷ more) later rise within h = (
  all_over (λ other. ((one.line ≤ other.line) × (one.s_id ≡ other.s_id → ⊥)) × (other.line ≤ length numbers)) (λ other. (number_after taken numbers one.line ≤ other.line) × (one.s_id ≡ other.s_id → ⊥)) (one_told taken numbers) more
      (λ other k. (after_rises taken numbers one.line other.line later rise k.0.0 k.1, k.0.1))
      (all_both (λ other. (one.line ≤ other.line) × (one.s_id ≡ other.s_id → ⊥)) (λ other. other.line ≤ length numbers) more h.0 within.1),
  order_told taken numbers more later rise within.1 h.1,
)

pub each_told : (P : Undecided → Type 0) (Q : Undecided → Type 0) (taken : ℕ) (numbers : List ℕ) (aside : List Undecided) → ((one : Undecided) → P one → Q (one_told taken numbers one)) → AllByRecursion P aside → AllByRecursion Q (aside_told taken numbers aside)
each_told P Q taken numbers aside f h = all_over P Q (one_told taken numbers) aside f h

-- one more is told
pub one_told_more : (taken : ℕ) (numbers : List ℕ) (xs ys : List Undecided) → aside_told taken numbers (xs ++ ys) ≡ aside_told taken numbers xs ++ aside_told taken numbers ys
one_told_more taken numbers [] ys = refl
one_told_more taken numbers (x ∷ xs) ys = ap (λ zs. one_told taken numbers x ∷ zs) (one_told_more taken numbers xs ys)

pub at_both : (line : ℕ) (xs ys : List Undecided) → told_at line (xs ++ ys) ≡ told_at line xs ++ told_at line ys
at_both line [] ys = refl
at_both line (x ∷ xs) ys = ap (λ zs. record { line = line; s_id = x.s_id } ∷ zs) (at_both line xs ys)

dropped : (xs ys : List Undecided) → drop (length xs) (xs ++ ys) ≡ ys
dropped [] ys = refl
dropped (x ∷ xs) ys = dropped xs ys

-- those that are told for the rows at the end
pub told_more : (told longer old all more : List Undecided) (line named known : ℕ) → all ≡ old ++ more → known ≡ length old → named ≡ line → longer ≡ told ++ told_at named (take (length all - known) (drop known all)) → longer ≡ told ++ told_at line more
told_more told longer old all more line named known is count same h =
    let sum : length (old ++ more) ≡ length old + length more = length-append old more in
    h ∙ ap (λ xs. told ++ xs) ((λ i. told_at (same i) (take (length (is i) - count i) (drop (count i) (is i))))
    ∙ ap (told_at line) (ap (take (length (old ++ more) - length old)) (dropped old more) ∙ take_all (length (old ++ more) - length old) more (omega (arith, sum))))
