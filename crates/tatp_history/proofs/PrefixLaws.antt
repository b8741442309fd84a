-- What clients had seen by any time is strictly serializable where all that they saw is: of its order the part up to the
-- last call that had been answered is one.
use Rattle.std.proofs.Common.{◌≡◌, ℕ, ◌<◌, ◌≤◌, ◌||◌, nat_lt, nat_le, Bool, true, false, cond, List, [], ◌∷◌, map, filter, refl, sym, ◌∙◌, ap, subst, le_trans, leb-true, le-leb, ltb-true, ltb-false, true≢false, inl, inr}
use Rattle.std.specs.List.{AllByRecursion, list_any}
use Rattle.tatp_tables.specs.Database.{Database}
use Rattle.tatp_calls.specs.declared.reply.Reply.{Reply}
use Rattle.tatp_calls.specs.Transactions.{transaction}
use Rattle.tatp_history.specs.declared.observed.Outcome.{Outcome}
use Rattle.tatp_history.specs.declared.observed.Observed.{Observed}
use Rattle.tatp_history.specs.Histories.{IsIn, IsAnswered, IsAnsweredBefore, Precedes, AreAskedApart, KeepsRealTime, MayHaveReply, AreAnsweredInOrder, IsStrictlySerializable}
use Rattle.tatp_history.specs.declared.observed.Outcome.TheVariants.{Answered, Aborted, Unknown}
use Rattle.tatp_history.specs.Prefixes.{outcome_by, call_by, calls_by}
use Rattle.tatp_history.proofs.OrderLaws.{in_all, in_filter, of_filter}

-- ---- outcomes
abbrev pub answered_by : ℕ → Outcome → Bool
answered_by time (Answered at recorded) = nat_le at time
answered_by time (Aborted at) = false
answered_by time Unknown = false

by_is : (time : ℕ) (o : Outcome) → IsAnswered (outcome_by time o) → answered_by time o ≡ true
by_is time (Answered at recorded) h = elim (nat_le at time) as (λ b. IsAnswered (cond b (Answered at recorded) Unknown) → b ≡ true) [ true ↦ λ _. refl | false ↦ λ k. absurd k ] h
by_is time (Aborted at) h = elim (nat_le at time) as (λ b. IsAnswered (cond b (Aborted at) Unknown) → false ≡ true) [ true ↦ λ k. absurd k | false ↦ λ k. absurd k ] h
by_is time Unknown h = absurd h

was_answered : (time : ℕ) (o : Outcome) → answered_by time o ≡ true → IsAnswered o
was_answered time (Answered at recorded) h = tt
was_answered time (Aborted at) h = absurd (true≢false (sym h))
was_answered time Unknown h = absurd (true≢false (sym h))

by_before : (time t : ℕ) (o : Outcome) → IsAnsweredBefore t (outcome_by time o) → IsAnsweredBefore t o
by_before time t (Answered at recorded) h = elim (nat_le at time) as (λ b. IsAnsweredBefore t (cond b (Answered at recorded) Unknown) → at < t) [ true ↦ λ k. k | false ↦ λ k. absurd k ] h
by_before time t (Aborted at) h = elim (nat_le at time) as (λ b. IsAnsweredBefore t (cond b (Aborted at) Unknown) → ⊥) [ true ↦ λ k. k | false ↦ λ k. k ] h
by_before time t Unknown h = h

by_reply : (time : ℕ) (o : Outcome) (r : Reply) → MayHaveReply o r → MayHaveReply (outcome_by time o) r
by_reply time (Answered at recorded) r h = elim (nat_le at time) as (λ b. MayHaveReply (cond b (Answered at recorded) Unknown) r) [ true ↦ h | false ↦ tt ]
by_reply time (Aborted at) r h = absurd h
by_reply time Unknown r h = h

-- what was answered by the time and not before it was asked, was asked by then
asked_early : (time asked : ℕ) (o : Outcome) → answered_by time o ≡ true → (IsAnsweredBefore asked o → ⊥) → asked ≤ time
asked_early time asked (Answered at recorded) h not_before = elim (nat_lt at asked) as (λ b. nat_lt at asked ≡ b → asked ≤ time) [
  | true ↦ λ e. absurd (not_before (ltb-true at asked e))
  | false ↦ λ e. le_trans (ltb-false at asked e) (leb-true at time h)
] refl
asked_early time asked (Aborted at) h not_before = absurd (true≢false (sym h))
asked_early time asked Unknown h not_before = absurd (true≢false (sym h))

-- ---- the order up to the last that was answered by the time
abbrev pub some_by : ℕ → List Observed → Bool
some_by time xs = list_any (λ (x : Observed). answered_by time x.outcome) xs

abbrev pub trimmed : ℕ → List Observed → List Observed
trimmed time [] = []
trimmed time (x ∷ xs) = cond (some_by time (x ∷ xs)) (call_by time x ∷ trimmed time xs) []

any_in : (test : Observed → Bool) (xs : List Observed) → list_any test xs ≡ true → (x : Observed) × IsIn x xs × (test x ≡ true)
any_in test [] h = absurd (true≢false (sym h))
any_in test (x ∷ xs) h = elim (test x) as (λ b. test x ≡ b → (b || list_any test xs) ≡ true → (y : Observed) × IsIn y (x ∷ xs) × (test y ≡ true)) [
  | true ↦ λ e _. (x, inl refl, e)
  | false ↦ λ e k. let rest = any_in test xs k in (rest.0, inr rest.1, rest.2)
] refl h

in_any : (test : Observed → Bool) (x : Observed) (xs : List Observed) → IsIn x xs → test x ≡ true → list_any test xs ≡ true
in_any test x [] h t = absurd h
in_any test x (y ∷ ys) h t = elim h [
  | inl e ↦ ap (λ b. b || list_any test ys) (sym (ap test e) ∙ t)
  | inr k ↦ elim (test y) as (λ b. (b || list_any test ys) ≡ true) [ true ↦ refl | false ↦ in_any test x ys k t ]
]

pub in_map : (f : Observed → Observed) (x : Observed) (xs : List Observed) → IsIn x xs → IsIn (f x) (map f xs)
in_map f x [] h = h
in_map f x (y ∷ ys) h = elim h [ inl e ↦ inl (ap f e) | inr k ↦ inr (in_map f x ys k) ]

pub of_map : (f : Observed → Observed) (y : Observed) (xs : List Observed) → IsIn y (map f xs) → (x : Observed) × IsIn x xs × (y ≡ f x)
of_map f y [] h = absurd h
of_map f y (x ∷ xs) h = elim h [
  | inl e ↦ (x, inl refl, e)
  | inr k ↦ let rest = of_map f y xs k in (rest.0, inr rest.1, rest.2)
]

-- what holds of each that may be kept, as it was seen by the time
trimmed_all : (P Q : Observed → Type 0) (time : ℕ) → ((x : Observed) → P x → Q (call_by time x)) → (xs : List Observed) → AllByRecursion P xs → AllByRecursion Q (trimmed time xs)
trimmed_all P Q time f [] h = tt
trimmed_all P Q time f (x ∷ xs) h = elim (some_by time (x ∷ xs)) as (λ b. AllByRecursion Q (cond b (call_by time x ∷ trimmed time xs) [])) [
  | true ↦ (f x h.0, trimmed_all P Q time f xs h.1)
  | false ↦ tt
]

kept_early : (time : ℕ) (x : Observed) (xs : List Observed) → (Precedes x x → ⊥) → KeepsRealTime (x ∷ xs) → some_by time (x ∷ xs) ≡ true → x.asked ≤ time
kept_early time x xs own keeps h =
    let found = any_in (λ (z : Observed). answered_by time z.outcome) (x ∷ xs) h in
    elim found.1 [
      | inl e ↦ asked_early time x.asked x.outcome (ap (λ (w : Observed). answered_by time w.outcome) (sym e) ∙ found.2) own
      | inr k ↦ asked_early time x.asked found.0.outcome found.2 (in_all (λ (y : Observed). Precedes y x → ⊥) found.0 xs keeps.0 k)
    ]

module _ (time : ℕ) (calls : List Observed) (in_time : AllByRecursion (λ (x : Observed). Precedes x x → ⊥) calls) where
  trimmed_made : (xs : List Observed) → AllByRecursion (λ x. IsIn x calls) xs → KeepsRealTime xs → AllByRecursion (λ x. IsIn x (calls_by time calls)) (trimmed time xs)
  trimmed_made [] h keeps = tt
  trimmed_made (x ∷ xs) h keeps = elim (some_by time (x ∷ xs)) as (λ b. some_by time (x ∷ xs) ≡ b → AllByRecursion (λ y. IsIn y (calls_by time calls)) (cond b (call_by time x ∷ trimmed time xs) [])) [
    | true ↦ λ e. let early : x.asked ≤ time = kept_early time x xs (in_all (λ (y : Observed). Precedes y y → ⊥) x calls in_time h.0) keeps e in
        (in_map (call_by time) x (filter (λ (y : Observed). nat_le y.asked time) calls) (in_filter (λ (y : Observed). nat_le y.asked time) x calls h.0 (le-leb x.asked time early)), trimmed_made xs h.1 keeps.1)
    | false ↦ λ e. tt
  ] refl

trimmed_apart : (time : ℕ) (xs : List Observed) → AreAskedApart xs → AreAskedApart (trimmed time xs)
trimmed_apart time [] h = tt
trimmed_apart time (x ∷ xs) h = elim (some_by time (x ∷ xs)) as (λ b. AreAskedApart (cond b (call_by time x ∷ trimmed time xs) [])) [
  | true ↦ (trimmed_all (λ (y : Observed). x.asked ≡ y.asked → ⊥) (λ (y : Observed). x.asked ≡ y.asked → ⊥) time (λ y k. k) xs h.0, trimmed_apart time xs h.1)
  | false ↦ tt
]

trimmed_keeps : (time : ℕ) (xs : List Observed) → KeepsRealTime xs → KeepsRealTime (trimmed time xs)
trimmed_keeps time [] h = tt
trimmed_keeps time (x ∷ xs) h = elim (some_by time (x ∷ xs)) as (λ b. KeepsRealTime (cond b (call_by time x ∷ trimmed time xs) [])) [
  | true ↦ (trimmed_all (λ (y : Observed). Precedes y x → ⊥) (λ (y : Observed). Precedes y (call_by time x) → ⊥) time (λ y k before. k (by_before time x.asked y.outcome before)) xs h.0, trimmed_keeps time xs h.1)
  | false ↦ tt
]

trimmed_runs : (time : ℕ) (xs : List Observed) (u : Database) → AreAnsweredInOrder u xs → AreAnsweredInOrder u (trimmed time xs)
trimmed_runs time [] u h = tt
trimmed_runs time (x ∷ xs) u h = elim (some_by time (x ∷ xs)) as (λ b. AreAnsweredInOrder u (cond b (call_by time x ∷ trimmed time xs) [])) [
  | true ↦ (by_reply time x.outcome (transaction x.call u).reply h.0, trimmed_runs time xs (transaction x.call u).database h.1)
  | false ↦ tt
]

trimmed_has : (time : ℕ) (x : Observed) (xs : List Observed) → IsIn x xs → answered_by time x.outcome ≡ true → IsIn (call_by time x) (trimmed time xs)
trimmed_has time x [] h t = h
trimmed_has time x (y ∷ ys) h t = subst (λ b. IsIn (call_by time x) (cond b (call_by time y ∷ trimmed time ys) [])) (sym (in_any (λ (z : Observed). answered_by time z.outcome) x (y ∷ ys) h t))
    (elim h [ inl e ↦ inl (ap (call_by time) e) | inr k ↦ inr (trimmed_has time x ys k t) ])

-- ---- the law
pub prefixes : (time : ℕ) (u : Database) (calls : List Observed) → AllByRecursion (λ (x : Observed). Precedes x x → ⊥) calls → IsStrictlySerializable u calls → IsStrictlySerializable u (calls_by time calls)
prefixes time u calls in_time s = (
  trimmed time s.0,
  record {
    made = trimmed_made time calls in_time s.0 s.1.made s.1.real_time;
    once = trimmed_apart time s.0 s.1.once;
    all = λ y there answered.
        let found = of_map (call_by time) y (filter (λ (z : Observed). nat_le z.asked time) calls) there in
        let x : Observed = found.0 in
        let own : IsIn x calls = (of_filter (λ (z : Observed). nat_le z.asked time) x calls found.1).0 in
        let by : answered_by time x.outcome ≡ true = by_is time x.outcome (subst (λ (z : Observed). IsAnswered z.outcome) found.2 answered) in
        subst (λ z. IsIn z (trimmed time s.0)) (sym found.2) (trimmed_has time x s.0 (s.1.all x own (was_answered time x.outcome by)) by);
    real_time = trimmed_keeps time s.0 s.1.real_time;
    replies = trimmed_runs time s.0 u s.1.replies;
  },
)
