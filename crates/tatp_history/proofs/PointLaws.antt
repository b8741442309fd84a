-- Points in time at which calls take effect. An order that keeps real time has such points, which rise along it: the
-- point of a call is the latest time at which it, or one before it, was asked. Orders with points merge by them, and what
-- has rising points keeps real time.
use Rattle.std.proofs.Common.{◌≡◌, ℕ, ◌≤◌, Bool, true, false, cond, nat_lt, nat_le, List, [], ◌∷◌, map, filter, refl, sym, ◌∙◌, ap, subst, arith, le_refl, le_trans, zero-le, lt_of_lt_of_le, ltb-true, ltb-false, leb-true, leb-false, inl, inr}
use Rattle.std.specs.List.{AllByRecursion}
use Rattle.tatp_history.specs.declared.observed.Outcome.{Outcome}
use Rattle.tatp_history.specs.declared.observed.Observed.{Observed}
use Rattle.tatp_history.specs.Histories.{IsIn, IsAnsweredBefore, Precedes, AreAskedApart, KeepsRealTime}
use Rattle.tatp_history.specs.declared.observed.Outcome.TheVariants.{Answered, Aborted, Unknown}
use Rattle.tatp_history.proofs.OrderLaws.{all_map, all_both}

-- a point, and the call that takes effect there
abbrev pub Timed : Type 0
Timed = ℕ × Observed

abbrev pub calls_at : List Timed → List Observed
calls_at ps = map (λ (p : Timed). p.1) ps

abbrev pub RisesFrom : ℕ → List Timed → Type 0
RisesFrom m [] = Unit {0}
RisesFrom m (p ∷ ps) = (m ≤ p.0) × RisesFrom p.0 ps

-- the point is neither before the call was asked nor after it was answered
abbrev pub IsWithin : Timed → Type 0
IsWithin p = (p.1.asked ≤ p.0) × (IsAnsweredBefore p.0 p.1.outcome → ⊥)

abbrev pub later : ℕ → ℕ → ℕ
later m a = cond (nat_lt m a) a m

-- the points of an order
abbrev pub timed : ℕ → List Observed → List Timed
timed m [] = []
timed m (x ∷ xs) = (later m x.asked, x) ∷ timed (later m x.asked) xs

-- before the first whose point is no earlier
abbrev pub insert : Timed → List Timed → List Timed
insert p [] = p ∷ []
insert p (q ∷ qs) = cond (nat_le p.0 q.0) (p ∷ q ∷ qs) (q ∷ insert p qs)

abbrev pub merge : List Timed → List Timed → List Timed
merge [] qs = qs
merge (p ∷ ps) qs = insert p (merge ps qs)

-- those whose calls pass a test
abbrev pub picks : (Observed → Bool) → List Timed → List Timed
picks test ps = filter (λ (p : Timed). test p.1) ps

-- ---- points
later_least : (m a : ℕ) → m ≤ later m a
later_least m a = elim (nat_lt m a) as (λ b. nat_lt m a ≡ b → m ≤ cond b a m) [
  | true ↦ λ e. let h = ltb-true m a e in omega (arith, h)
  | false ↦ λ e. le_refl m
] refl

later_asked : (m a : ℕ) → a ≤ later m a
later_asked m a = elim (nat_lt m a) as (λ b. nat_lt m a ≡ b → a ≤ cond b a m) [
  | true ↦ λ e. le_refl a
  | false ↦ λ e. ltb-false m a e
] refl

not_later : (o : Outcome) (m a : ℕ) → (IsAnsweredBefore m o → ⊥) → (IsAnsweredBefore a o → ⊥) → IsAnsweredBefore (later m a) o → ⊥
not_later o m a f g = elim (nat_lt m a) as (λ b. IsAnsweredBefore (cond b a m) o → ⊥) [ true ↦ g | false ↦ f ]

answered_sooner : (o : Outcome) (m n : ℕ) → m ≤ n → IsAnsweredBefore m o → IsAnsweredBefore n o
answered_sooner (Answered at recorded) m n le h = lt_of_lt_of_le h le
answered_sooner (Aborted at) m n le h = h
answered_sooner Unknown m n le h = h

pub timed_rises : (m : ℕ) (xs : List Observed) → RisesFrom m (timed m xs)
timed_rises m [] = tt
timed_rises m (x ∷ xs) = (later_least m x.asked, timed_rises (later m x.asked) xs)

pub timed_calls : (m : ℕ) (xs : List Observed) → calls_at (timed m xs) ≡ xs
timed_calls m [] = refl
timed_calls m (x ∷ xs) = ap (λ ys. x ∷ ys) (timed_calls (later m x.asked) xs)

pub timed_all : (P : Observed → Type 0) (m : ℕ) (xs : List Observed) → AllByRecursion P xs → AllByRecursion (λ (p : Timed). P p.1) (timed m xs)
timed_all P m [] h = tt
timed_all P m (x ∷ xs) h = (h.0, timed_all P (later m x.asked) xs h.1)

pub timed_within : (m : ℕ) (xs : List Observed) → AllByRecursion (λ (x : Observed). IsAnsweredBefore m x.outcome → ⊥) xs → AllByRecursion (λ (x : Observed). Precedes x x → ⊥) xs → KeepsRealTime xs → AllByRecursion IsWithin (timed m xs)
timed_within m [] before own keeps = tt
timed_within m (x ∷ xs) before own keeps =
    let rest : AllByRecursion (λ (y : Observed). IsAnsweredBefore (later m x.asked) y.outcome → ⊥) xs =
    all_map (λ (y : Observed). (IsAnsweredBefore m y.outcome → ⊥) × (Precedes y x → ⊥)) (λ (y : Observed). IsAnsweredBefore (later m x.asked) y.outcome → ⊥)
    (λ y h. not_later y.outcome m x.asked h.0 h.1) xs
    (all_both (λ (y : Observed). IsAnsweredBefore m y.outcome → ⊥) (λ (y : Observed). Precedes y x → ⊥) xs before.1 keeps.0) in
    ((later_asked m x.asked, not_later x.outcome m x.asked before.0 own.0), timed_within (later m x.asked) xs rest own.1 keeps.1)

-- ---- lists with points
pub all_calls : (P : Observed → Type 0) (ps : List Timed) → AllByRecursion (λ (p : Timed). P p.1) ps → AllByRecursion P (calls_at ps)
all_calls P [] h = tt
all_calls P (p ∷ ps) h = (h.0, all_calls P ps h.1)

pub calls_all : (P : Observed → Type 0) (ps : List Timed) → AllByRecursion P (calls_at ps) → AllByRecursion (λ (p : Timed). P p.1) ps
calls_all P [] h = tt
calls_all P (p ∷ ps) h = (h.0, calls_all P ps h.1)

pub picks_calls : (test : Observed → Bool) (ps : List Timed) → filter test (calls_at ps) ≡ calls_at (picks test ps)
picks_calls test [] = refl
picks_calls test (p ∷ ps) = elim (test p.1) as (λ b. cond b (p.1 ∷ filter test (calls_at ps)) (filter test (calls_at ps)) ≡ calls_at (cond b (p ∷ picks test ps) (picks test ps))) [
  | true ↦ ap (λ ys. p.1 ∷ ys) (picks_calls test ps)
  | false ↦ picks_calls test ps
]

pub picks_none : (test : Observed → Bool) (ps : List Timed) → AllByRecursion (λ (p : Timed). test p.1 ≡ false) ps → picks test ps ≡ []
picks_none test [] h = refl
picks_none test (p ∷ ps) h = ap (λ b. cond b (p ∷ picks test ps) (picks test ps)) h.0 ∙ picks_none test ps h.1

rises_all : (m : ℕ) (ps : List Timed) → RisesFrom m ps → AllByRecursion (λ (p : Timed). m ≤ p.0) ps
rises_all m [] h = tt
rises_all m (p ∷ ps) h = (h.0, all_map (λ (q : Timed). p.0 ≤ q.0) (λ (q : Timed). m ≤ q.0) (λ q k. le_trans h.0 k) ps (rises_all p.0 ps h.1))

-- what has rising points keeps real time
pub rising_keeps : (m : ℕ) (ps : List Timed) → RisesFrom m ps → AllByRecursion IsWithin ps → KeepsRealTime (calls_at ps)
rising_keeps m [] h w = tt
rising_keeps m (p ∷ ps) h w = (
  all_calls (λ (y : Observed). Precedes y p.1 → ⊥) ps
      (all_map (λ (q : Timed). (p.0 ≤ q.0) × IsWithin q) (λ (q : Timed). Precedes q.1 p.1 → ⊥)
      (λ q k before. k.1.1 (answered_sooner q.1.outcome p.1.asked q.0 (le_trans w.0.0 k.0) before)) ps
      (all_both (λ (q : Timed). p.0 ≤ q.0) IsWithin ps (rises_all p.0 ps h.1) w.1)),
  rising_keeps p.0 ps h.1 w.1,
)

-- ---- merging
pub all_insert : (P : Timed → Type 0) (p : Timed) (qs : List Timed) → P p → AllByRecursion P qs → AllByRecursion P (insert p qs)
all_insert P p [] h k = (h, tt)
all_insert P p (q ∷ qs) h k = elim (nat_le p.0 q.0) as (λ b. AllByRecursion P (cond b (p ∷ q ∷ qs) (q ∷ insert p qs))) [
  | true ↦ (h, k)
  | false ↦ (k.0, all_insert P p qs h k.1)
]

pub all_merge : (P : Timed → Type 0) (ps qs : List Timed) → AllByRecursion P ps → AllByRecursion P qs → AllByRecursion P (merge ps qs)
all_merge P [] qs h k = k
all_merge P (p ∷ ps) qs h k = all_insert P p (merge ps qs) h.0 (all_merge P ps qs h.1 k)

rises_insert : (m : ℕ) (p : Timed) (qs : List Timed) → m ≤ p.0 → RisesFrom m qs → RisesFrom m (insert p qs)
rises_insert m p [] le h = (le, tt)
rises_insert m p (q ∷ qs) le h = elim (nat_le p.0 q.0) as (λ b. nat_le p.0 q.0 ≡ b → RisesFrom m (cond b (p ∷ q ∷ qs) (q ∷ insert p qs))) [
  | true ↦ λ e. (le, (leb-true p.0 q.0 e, h.1))
  | false ↦ λ e. let lt = leb-false p.0 q.0 e in (h.0, rises_insert q.0 p qs (omega (arith, lt)) h.1)
] refl

pub rises_merge : (ps qs : List Timed) → RisesFrom 0 qs → RisesFrom 0 (merge ps qs)
rises_merge [] qs h = h
rises_merge (p ∷ ps) qs h = rises_insert 0 p (merge ps qs) zero-le (rises_merge ps qs h)

insert_other : (test : Observed → Bool) (p : Timed) (qs : List Timed) → test p.1 ≡ false → picks test (insert p qs) ≡ picks test qs
insert_other test p [] e = ap (λ b. cond b (p ∷ []) []) e
insert_other test p (q ∷ qs) e = elim (nat_le p.0 q.0) as (λ b. picks test (cond b (p ∷ q ∷ qs) (q ∷ insert p qs)) ≡ picks test (q ∷ qs)) [
  | true ↦ ap (λ b. cond b (p ∷ picks test (q ∷ qs)) (picks test (q ∷ qs))) e
  | false ↦ ap (λ t. cond (test q.1) (q ∷ t) t) (insert_other test p qs e)
]

pub merge_other : (test : Observed → Bool) (ps qs : List Timed) → AllByRecursion (λ (p : Timed). test p.1 ≡ false) ps → picks test (merge ps qs) ≡ picks test qs
merge_other test [] qs h = refl
merge_other test (p ∷ ps) qs h = insert_other test p (merge ps qs) h.0 ∙ merge_other test ps qs h.1

insert_own : (test : Observed → Bool) (p : Timed) (qs : List Timed) → test p.1 ≡ true → RisesFrom p.0 (picks test qs) → picks test (insert p qs) ≡ p ∷ picks test qs
insert_own test p [] e rises = ap (λ b. cond b (p ∷ []) []) e
insert_own test p (q ∷ qs) e rises = elim (nat_le p.0 q.0) as (λ b. nat_le p.0 q.0 ≡ b → picks test (cond b (p ∷ q ∷ qs) (q ∷ insert p qs)) ≡ p ∷ picks test (q ∷ qs)) [
  | true ↦ λ _. ap (λ b. cond b (p ∷ picks test (q ∷ qs)) (picks test (q ∷ qs))) e
  | false ↦ λ le. elim (test q.1) as (λ c. RisesFrom p.0 (cond c (q ∷ picks test qs) (picks test qs)) → cond c (q ∷ picks test (insert p qs)) (picks test (insert p qs)) ≡ p ∷ cond c (q ∷ picks test qs) (picks test qs)) [
    | true ↦ λ r. let lt = leb-false p.0 q.0 le in let ge = r.0 in absurd (omega (arith, lt, ge))
    | false ↦ λ r. insert_own test p qs e r
  ] rises
] refl

pub merge_own : (test : Observed → Bool) (m : ℕ) (ps qs : List Timed) → AllByRecursion (λ (p : Timed). test p.1 ≡ true) ps → RisesFrom m ps → picks test qs ≡ [] → picks test (merge ps qs) ≡ ps
merge_own test m [] qs h r none = none
merge_own test m (p ∷ ps) qs h r none =
    let rest : picks test (merge ps qs) ≡ ps = merge_own test p.0 ps qs h.1 r.1 none in
    insert_own test p (merge ps qs) h.0 (subst (RisesFrom p.0) (sym rest) r.1) ∙ ap (λ t. p ∷ t) rest

-- ---- what stands in a merge
apart_insert : (p : Timed) (qs : List Timed) → AllByRecursion (λ (q : Timed). p.1.asked ≡ q.1.asked → ⊥) qs → AreAskedApart (calls_at qs) → AreAskedApart (calls_at (insert p qs))
apart_insert p [] h a = (tt, tt)
apart_insert p (q ∷ qs) h a = elim (nat_le p.0 q.0) as (λ b. AreAskedApart (calls_at (cond b (p ∷ q ∷ qs) (q ∷ insert p qs)))) [
  | true ↦ ((h.0, all_calls (λ (y : Observed). p.1.asked ≡ y.asked → ⊥) qs h.1), a)
  | false ↦ (
    all_calls (λ (y : Observed). q.1.asked ≡ y.asked → ⊥) (insert p qs)
        (all_insert (λ (w : Timed). q.1.asked ≡ w.1.asked → ⊥) p qs (λ e. h.0 (sym e)) (calls_all (λ (y : Observed). q.1.asked ≡ y.asked → ⊥) qs a.0)),
    apart_insert p qs h.1 a.1,
  )
]

pub apart_merge : (ps qs : List Timed) → AreAskedApart (calls_at ps) → AreAskedApart (calls_at qs) → AllByRecursion (λ (p : Timed). AllByRecursion (λ (q : Timed). p.1.asked ≡ q.1.asked → ⊥) qs) ps → AreAskedApart (calls_at (merge ps qs))
apart_merge [] qs a b h = b
apart_merge (p ∷ ps) qs a b h = apart_insert p (merge ps qs)
    (all_merge (λ (q : Timed). p.1.asked ≡ q.1.asked → ⊥) ps qs (calls_all (λ (y : Observed). p.1.asked ≡ y.asked → ⊥) ps a.0) h.0)
    (apart_merge ps qs a.1 b h.1)

in_insert_own : (p : Timed) (qs : List Timed) → IsIn p.1 (calls_at (insert p qs))
in_insert_own p [] = inl refl
in_insert_own p (q ∷ qs) = elim (nat_le p.0 q.0) as (λ b. IsIn p.1 (calls_at (cond b (p ∷ q ∷ qs) (q ∷ insert p qs)))) [
  | true ↦ inl refl
  | false ↦ inr (in_insert_own p qs)
]

in_insert_other : (x : Observed) (p : Timed) (qs : List Timed) → IsIn x (calls_at qs) → IsIn x (calls_at (insert p qs))
in_insert_other x p [] h = absurd h
in_insert_other x p (q ∷ qs) h = elim (nat_le p.0 q.0) as (λ b. IsIn x (calls_at (cond b (p ∷ q ∷ qs) (q ∷ insert p qs)))) [
  | true ↦ inr h
  | false ↦ elim h [ inl e ↦ inl e | inr k ↦ inr (in_insert_other x p qs k) ]
]

pub in_merge_first : (x : Observed) (ps qs : List Timed) → IsIn x (calls_at ps) → IsIn x (calls_at (merge ps qs))
in_merge_first x [] qs h = absurd h
in_merge_first x (p ∷ ps) qs h = elim h [
  | inl e ↦ subst (λ y. IsIn y (calls_at (insert p (merge ps qs)))) (sym e) (in_insert_own p (merge ps qs))
  | inr k ↦ in_insert_other x p (merge ps qs) (in_merge_first x ps qs k)
]

pub in_merge_second : (x : Observed) (ps qs : List Timed) → IsIn x (calls_at qs) → IsIn x (calls_at (merge ps qs))
in_merge_second x [] qs h = h
in_merge_second x (p ∷ ps) qs h = in_insert_other x p (merge ps qs) (in_merge_second x ps qs h)
