-- Strict serializability is local: orders of each subscriber's calls merge, by points in time, to one of all calls, and
-- an order of all calls has an order of each subscriber's.
use Rattle.std.proofs.Common.{◌≡◌, ◌≢◌, ℕ, zero, suc, ◌+◌, ◌<◌, ◌≤◌, Bool, true, false, ◌==◌, nat_lt, List, [], ◌∷◌, map, filter, Option, Some, None, Ok, refl, sym, ◌∙◌, ap, subst, arith, le_refl, lt_of_lt_of_le, eqb-true, eq-eqb, ne_eqb, ltb-true, ltb-false, true≢false}
use Rattle.std.specs.List.{AllByRecursion}
use Rattle.tatp_tables.specs.Database.{Database, of_subscriber}
use Rattle.tatp_calls.specs.declared.reply.Reply.TheVariants.{Failed}
use Rattle.tatp_calls.specs.Arguments.{arguments_accepted}
use Rattle.tatp_procs.specs.Consistent.{IsConsistent}
use Rattle.tatp_history.specs.declared.observed.Outcome.{Outcome}
use Rattle.tatp_history.specs.declared.observed.Observed.{Observed}
use Rattle.tatp_history.specs.Histories.{IsIn, IsAnswered, IsAnsweredBefore, Precedes, AreAskedApart, MayHaveReply, AreAnsweredInOrder, IsSerialOrder, IsStrictlySerializable}
use Rattle.tatp_history.specs.declared.observed.Outcome.TheVariants.{Answered, Aborted, Unknown}
use Rattle.tatp_history.specs.Locality.{subscriber_of, is_this, is_on, calls_on, AreAccepted, FailsWithout, AreCalls, IsSerializableAtEach}
use Rattle.tatp_history.proofs.OrderLaws.{all_map, all_both, all_filter, filter_tests, all_in, in_all, in_filter, of_filter, apart_filter, real_time_filter, apart_is}
use Rattle.tatp_history.proofs.PointLaws.{Timed, calls_at, RisesFrom, IsWithin, timed, merge, picks, timed_rises, timed_calls, timed_all, timed_within, all_calls, picks_calls, picks_none, rising_keeps, all_merge, rises_merge, merge_other, merge_own, apart_merge, in_merge_first, in_merge_second}
use Rattle.tatp_history.proofs.RunLaws.{FailsAlone, runs_at_each, runs_together, runs_fail}

-- whether a call is on the subscriber
abbrev pub is_of : Database → ℕ → Observed → Bool
is_of u s x = is_on u s x.call

-- ---- an order of all calls has one of each subscriber's
fails_without : (o : Option ℕ) (outcome : Outcome) → (IsAnswered outcome → o ≡ None → MayHaveReply outcome (Failed 1)) → FailsWithout o outcome
fails_without None outcome h = λ answered. h answered refl
fails_without (Some s) outcome h = tt

module _ (u : Database) (calls : List Observed) (is : IsConsistent u) (are : AreCalls calls) where
  pub all_accepted : (order : List Observed) → AllByRecursion (λ x. IsIn x calls) order → AreAccepted order
  all_accepted order made = all_map (λ x. IsIn x calls) (λ x. arguments_accepted x.call ≡ Ok tt) (λ x h. in_all (λ y. arguments_accepted y.call ≡ Ok tt) x calls are.accepted h) order made

  pub part : (order : List Observed) → IsSerialOrder u calls order → (s : ℕ) → IsSerialOrder (of_subscriber u s) (calls_on u s calls) (calls_on u s order)
  part order ok s = record {
    made = all_map (λ x. IsIn x calls × (is_of u s x ≡ true)) (λ x. IsIn x (calls_on u s calls)) (λ x h. in_filter (is_of u s) x calls h.0 h.1) (calls_on u s order)
        (all_both (λ x. IsIn x calls) (λ x. is_of u s x ≡ true) (calls_on u s order) (all_filter (λ x. IsIn x calls) (is_of u s) order ok.made) (filter_tests (is_of u s) order));
    once = apart_filter (is_of u s) order ok.once;
    all = λ x h answered. let there = of_filter (is_of u s) x calls h in in_filter (is_of u s) x order (ok.all x there.0 answered) there.1;
    real_time = real_time_filter (is_of u s) order ok.real_time;
    replies = runs_at_each u order u is (λ key. refl) (all_accepted order ok.made) ok.replies s;
  }

  pub parted : IsStrictlySerializable u calls → IsSerializableAtEach u calls
  parted whole = record {
    each = λ s. (calls_on u s whole.0, part whole.0 whole.1 s);
    none = all_in (λ x. FailsWithout (subscriber_of u x.call) x.outcome) calls (λ x h. fails_without (subscriber_of u x.call) x.outcome (λ answered.
        in_all (FailsAlone u) x whole.0 (runs_fail u whole.0 u is (λ key. refl) (all_accepted whole.0 whole.1.made) whole.1.replies) (whole.1.all x h answered)));
  }

-- ---- orders of each subscriber's calls merge to one of all
-- a subscriber below a bound, if there is any
abbrev pub IsBelow : ℕ → Option ℕ → Type 0
IsBelow b None = Unit {0}
IsBelow b (Some s) = s < b

abbrev pub height : Option ℕ → ℕ
height None = 0
height (Some s) = suc s

below_height : (o : Option ℕ) (b : ℕ) → IsBelow (height o + b) o
below_height None b = tt
below_height (Some s) b = omega arith

below_more : (o : Option ℕ) (b c : ℕ) → b ≤ c → IsBelow b o → IsBelow c o
below_more None b c le h = tt
below_more (Some s) b c le h = lt_of_lt_of_le h le

not_this : (s : ℕ) (o : Option ℕ) → IsBelow s o → is_this s o ≡ false
not_this s None h = refl
not_this s (Some t) h = ne_eqb t s (λ e. omega (arith, h, e))

is_some_this : (s : ℕ) (o : Option ℕ) → is_this s o ≡ true → o ≡ Some s
is_some_this s None h = absurd (true≢false (sym h))
is_some_this s (Some t) h = ap Some (eqb-true t s h)

other_this : (s b : ℕ) (o : Option ℕ) → s ≢ b → is_this b o ≡ true → is_this s o ≡ false
other_this s b None n h = refl
other_this s b (Some t) n h = let same : t ≡ b = eqb-true t b h in ne_eqb t s (λ e. n (sym e ∙ same))

-- whether it is answered and names no subscriber
abbrev pub is_answered : Outcome → Bool
is_answered (Answered at recorded) = true
is_answered (Aborted at) = false
is_answered Unknown = false

abbrev pub is_alone : Option ℕ → Outcome → Bool
is_alone None outcome = is_answered outcome
is_alone (Some s) outcome = false

alone_none : (o : Option ℕ) (outcome : Outcome) → is_alone o outcome ≡ true → o ≡ None
alone_none None outcome h = refl
alone_none (Some s) outcome h = absurd (true≢false (sym h))

answered_is : (outcome : Outcome) → IsAnswered outcome → is_answered outcome ≡ true
answered_is (Answered at recorded) h = refl
answered_is (Aborted at) h = absurd h
answered_is Unknown h = absurd h

is_answered_true : (outcome : Outcome) → is_answered outcome ≡ true → IsAnswered outcome
is_answered_true (Answered at recorded) h = tt
is_answered_true (Aborted at) h = absurd (true≢false (sym h))
is_answered_true Unknown h = absurd (true≢false (sym h))

alone_fails : (o : Option ℕ) (outcome : Outcome) → is_alone o outcome ≡ true → FailsWithout o outcome → o ≡ None → MayHaveReply outcome (Failed 1)
alone_fails None outcome h fails e = fails (is_answered_true outcome h)
alone_fails (Some s) outcome h fails e = absurd (true≢false (sym h))

some_fails : (s : ℕ) (o : Option ℕ) (outcome : Outcome) → is_this s o ≡ true → o ≡ None → MayHaveReply outcome (Failed 1)
some_fails s None outcome h e = absurd (true≢false (sym h))
some_fails s (Some t) outcome h e = absurd cc

-- a call's own time as its point
abbrev pub at_once : Observed → Timed
at_once x = (x.asked, x)

at_once_calls : (xs : List Observed) → calls_at (map at_once xs) ≡ xs
at_once_calls [] = refl
at_once_calls (x ∷ xs) = ap (λ ys. x ∷ ys) (at_once_calls xs)

at_once_all : (P : Timed → Type 0) (xs : List Observed) → AllByRecursion (λ (x : Observed). P (at_once x)) xs → AllByRecursion P (map at_once xs)
at_once_all P [] h = tt
at_once_all P (x ∷ xs) h = (h.0, at_once_all P xs h.1)

all_true : {X : Type 0} (P : X → Type 0) → ((x : X) → P x) → (xs : List X) → AllByRecursion P xs
all_true P f [] = tt
all_true P f (x ∷ xs) = (f x, all_true P f xs)

module _ (u : Database) (calls : List Observed) (is : IsConsistent u) (are : AreCalls calls) (at : IsSerializableAtEach u calls) where
  abbrev pub sigma : ℕ → List Observed
  sigma s = (at.each s).0

  abbrev ok : (s : ℕ) → IsSerialOrder (of_subscriber u s) (calls_on u s calls) (sigma s)
  ok s = (at.each s).1

  abbrev alone : List Observed
  alone = filter (λ (x : Observed). is_alone (subscriber_of u x.call) x.outcome) calls

  -- those that name none, and those of the first subscribers
  abbrev merged : ℕ → List Timed
  merged zero = merge (map at_once alone) []
  merged (suc b) = merge (timed 0 (sigma b)) (merged b)

  -- what is known of each: it is a call of theirs; if it names none it fails; it names none, or a subscriber below the bound
  record Stands (b : ℕ) (x : Observed) : Type 0 where
    pub made : IsIn x calls
    pub fails : FailsAlone u x
    pub below : IsBelow b (subscriber_of u x.call)

  own_calls : (s : ℕ) → AllByRecursion (λ x. IsIn x calls × (is_of u s x ≡ true)) (sigma s)
  own_calls s = all_map (λ x. IsIn x (calls_on u s calls)) (λ x. IsIn x calls × (is_of u s x ≡ true)) (λ x h. of_filter (is_of u s) x calls h) (sigma s) (ok s).made

  alone_calls : AllByRecursion (λ x. IsIn x calls × (is_alone (subscriber_of u x.call) x.outcome ≡ true)) alone
  alone_calls = all_in (λ x. IsIn x calls × (is_alone (subscriber_of u x.call) x.outcome ≡ true)) alone (λ x h. of_filter (λ (y : Observed). is_alone (subscriber_of u y.call) y.outcome) x calls h)

  alone_stands : (x : Observed) → IsIn x calls × (is_alone (subscriber_of u x.call) x.outcome ≡ true) → Stands 0 x
  alone_stands x h = record {
    made = h.0;
    fails = alone_fails (subscriber_of u x.call) x.outcome h.1 (in_all (λ (y : Observed). FailsWithout (subscriber_of u y.call) y.outcome) x calls at.none h.0);
    below = subst (IsBelow 0) (sym (alone_none (subscriber_of u x.call) x.outcome h.1)) tt;
  }

  own_stands : (b : ℕ) (x : Observed) → IsIn x calls × (is_of u b x ≡ true) → Stands (suc b) x
  own_stands b x h = record {
    made = h.0;
    fails = some_fails b (subscriber_of u x.call) x.outcome h.1;
    below = subst (IsBelow (suc b)) (sym (is_some_this b (subscriber_of u x.call) h.1)) (omega arith);
  }

  more_stands : (b : ℕ) (x : Observed) → Stands b x → Stands (suc b) x
  more_stands b x h = record { made = h.made; fails = h.fails; below = below_more (subscriber_of u x.call) b (suc b) (omega arith) h.below }

  stands : (b : ℕ) → AllByRecursion (λ (p : Timed). Stands b p.1) (merged b)
  stands zero = all_merge (λ (p : Timed). Stands 0 p.1) (map at_once alone) []
      (at_once_all (λ (p : Timed). Stands 0 p.1) alone (all_map (λ x. IsIn x calls × (is_alone (subscriber_of u x.call) x.outcome ≡ true)) (Stands 0) alone_stands alone alone_calls))
      tt
  stands (suc b) = all_merge (λ (p : Timed). Stands (suc b) p.1) (timed 0 (sigma b)) (merged b)
      (timed_all (Stands (suc b)) 0 (sigma b) (all_map (λ x. IsIn x calls × (is_of u b x ≡ true)) (Stands (suc b)) (own_stands b) (sigma b) (own_calls b)))
      (all_map (λ (p : Timed). Stands b p.1) (λ (p : Timed). Stands (suc b) p.1) (λ p h. more_stands b p.1 h) (merged b) (stands b))

  -- the points rise, each within its call
  rises : (b : ℕ) → RisesFrom 0 (merged b)
  rises zero = rises_merge (map at_once alone) [] tt
  rises (suc b) = rises_merge (timed 0 (sigma b)) (merged b) (rises b)

  not_before_zero : (o : Outcome) → IsAnsweredBefore 0 o → ⊥
  not_before_zero (Answered at recorded) h = omega (arith, h)
  not_before_zero (Aborted at) h = h
  not_before_zero Unknown h = h

  in_time : (x : Observed) → IsIn x calls → Precedes x x → ⊥
  in_time x h = in_all (λ (y : Observed). Precedes y y → ⊥) x calls are.in_time h

  within : (b : ℕ) → AllByRecursion IsWithin (merged b)
  within zero = all_merge IsWithin (map at_once alone) []
      (at_once_all IsWithin alone (all_map (λ x. IsIn x calls × (is_alone (subscriber_of u x.call) x.outcome ≡ true)) (λ x. IsWithin (at_once x)) (λ x h. (le_refl x.asked, in_time x h.0)) alone alone_calls))
      tt
  within (suc b) = all_merge IsWithin (timed 0 (sigma b)) (merged b)
      (timed_within 0 (sigma b)
      (all_true (λ (x : Observed). IsAnsweredBefore 0 x.outcome → ⊥) (λ x. not_before_zero x.outcome) (sigma b))
      (all_map (λ x. IsIn x calls × (is_of u b x ≡ true)) (λ x. Precedes x x → ⊥) (λ x h. in_time x h.0) (sigma b) (own_calls b))
      (ok b).real_time)
      (within b)

  -- no call stands twice
  none_left : (ps : List Timed) → AllByRecursion (λ (p : Timed). AllByRecursion (λ (q : Timed). p.1.asked ≡ q.1.asked → ⊥) []) ps
  none_left [] = tt
  none_left (p ∷ ps) = (tt, none_left ps)

  differ : (b : ℕ) (x y : Observed) → IsIn x calls × (is_of u b x ≡ true) → Stands b y → x.asked ≡ y.asked → ⊥
  differ b x y h k e =
      let same : x ≡ y = apart_is calls x y are.apart h.0 k.made e in
      true≢false (sym h.1 ∙ ap (is_of u b) same ∙ not_this b (subscriber_of u y.call) k.below)

  apart : (b : ℕ) → AreAskedApart (calls_at (merged b))
  apart zero = apart_merge (map at_once alone) [] (subst AreAskedApart (sym (at_once_calls alone)) (apart_filter (λ (x : Observed). is_alone (subscriber_of u x.call) x.outcome) calls are.apart)) tt (none_left (map at_once alone))
  apart (suc b) = apart_merge (timed 0 (sigma b)) (merged b) (subst AreAskedApart (sym (timed_calls 0 (sigma b))) (ok b).once) (apart b)
      (timed_all (λ (x : Observed). AllByRecursion (λ (q : Timed). x.asked ≡ q.1.asked → ⊥) (merged b)) 0 (sigma b)
      (all_map (λ x. IsIn x calls × (is_of u b x ≡ true)) (λ (x : Observed). AllByRecursion (λ (q : Timed). x.asked ≡ q.1.asked → ⊥) (merged b))
      (λ x h. all_map (λ (q : Timed). Stands b q.1) (λ (q : Timed). x.asked ≡ q.1.asked → ⊥) (λ q k. differ b x q.1 h k) (merged b) (stands b))
      (sigma b) (own_calls b)))

  -- of each subscriber the merged order has its own
  unpicked : (b s : ℕ) → b ≤ s → picks (is_of u s) (merged b) ≡ []
  unpicked b s le = picks_none (is_of u s) (merged b) (all_map (λ (p : Timed). Stands b p.1) (λ (p : Timed). is_of u s p.1 ≡ false) (λ p h. not_this s (subscriber_of u p.1.call) (below_more (subscriber_of u p.1.call) b s le h.below)) (merged b) (stands b))

  picked : (b s : ℕ) → s < b → picks (is_of u s) (merged b) ≡ timed 0 (sigma s)
  picked zero s lt = absurd (omega (arith, lt))
  picked (suc b) s lt = elim (s == b) as (λ c. (s == b) ≡ c → picks (is_of u s) (merged (suc b)) ≡ timed 0 (sigma s)) [
    | true ↦ λ e. let same : s ≡ b = eqb-true s b e in subst (λ k. picks (is_of u k) (merged (suc b)) ≡ timed 0 (sigma k)) (sym same)
        (merge_own (is_of u b) 0 (timed 0 (sigma b)) (merged b)
        (timed_all (λ x. is_of u b x ≡ true) 0 (sigma b) (all_map (λ x. IsIn x calls × (is_of u b x ≡ true)) (λ x. is_of u b x ≡ true) (λ x h. h.1) (sigma b) (own_calls b)))
        (timed_rises 0 (sigma b))
        (unpicked b b (le_refl b)))
    | false ↦ λ e. let other : s ≢ b = λ d. true≢false (sym (eq-eqb s b d) ∙ e) in
        merge_other (is_of u s) (timed 0 (sigma b)) (merged b)
        (timed_all (λ x. is_of u s x ≡ false) 0 (sigma b) (all_map (λ x. IsIn x calls × (is_of u b x ≡ true)) (λ x. is_of u s x ≡ false) (λ x h. other_this s b (subscriber_of u x.call) other h.1) (sigma b) (own_calls b)))
        ∙ picked b s (omega (arith, lt, other))
  ] refl

  -- each answered call stands
  has_own : (x : Observed) (b s : ℕ) → s < b → IsIn x (sigma s) → IsIn x (calls_at (merged b))
  has_own x zero s lt h = absurd (omega (arith, lt))
  has_own x (suc b) s lt h = elim (s == b) as (λ c. (s == b) ≡ c → IsIn x (calls_at (merged (suc b)))) [
    | true ↦ λ e. in_merge_first x (timed 0 (sigma b)) (merged b) (subst (IsIn x) (sym (timed_calls 0 (sigma b))) (subst (λ k. IsIn x (sigma k)) (eqb-true s b e) h))
    | false ↦ λ e. let other : s ≢ b = λ d. true≢false (sym (eq-eqb s b d) ∙ e) in in_merge_second x (timed 0 (sigma b)) (merged b) (has_own x b s (omega (arith, lt, other)) h)
  ] refl

  has_alone : (x : Observed) (b : ℕ) → IsIn x alone → IsIn x (calls_at (merged b))
  has_alone x zero h = in_merge_first x (map at_once alone) [] (subst (IsIn x) (sym (at_once_calls alone)) h)
  has_alone x (suc b) h = in_merge_second x (timed 0 (sigma b)) (merged b) (has_alone x b h)

  has : (x : Observed) (b : ℕ) → IsIn x calls → IsAnswered x.outcome → IsBelow b (subscriber_of u x.call) → IsIn x (calls_at (merged b))
  has x b h answered below = elim (subscriber_of u x.call) as (λ o. subscriber_of u x.call ≡ o → IsBelow b o → IsIn x (calls_at (merged b))) [
    | None ↦ λ e k. has_alone x b (in_filter (λ (y : Observed). is_alone (subscriber_of u y.call) y.outcome) x calls h (ap (λ o. is_alone o x.outcome) e ∙ answered_is x.outcome answered))
    | Some s ↦ λ e k. has_own x b s k ((ok s).all x (in_filter (is_of u s) x calls h (ap (is_this s) e ∙ eq-eqb s s refl)) answered)
  ] refl below

  -- above all subscribers of the calls
  abbrev bound : List Observed → ℕ
  bound [] = 0
  bound (x ∷ xs) = height (subscriber_of u x.call) + bound xs

  bounded : (xs : List Observed) → AllByRecursion (λ x. IsBelow (bound xs) (subscriber_of u x.call)) xs
  bounded [] = tt
  bounded (x ∷ xs) = (below_height (subscriber_of u x.call) (bound xs), all_map (λ y. IsBelow (bound xs) (subscriber_of u y.call)) (λ y. IsBelow (height (subscriber_of u x.call) + bound xs) (subscriber_of u y.call)) (λ y h. below_more (subscriber_of u y.call) (bound xs) (height (subscriber_of u x.call) + bound xs) (omega arith) h) xs (bounded xs))

  abbrev order : List Observed
  order = calls_at (merged (bound calls))

  no_calls : (s : ℕ) → bound calls ≤ s → sigma s ≡ []
  no_calls s le = elim (sigma s) as (λ xs. AllByRecursion (λ x. IsIn x calls × (is_of u s x ≡ true)) xs → xs ≡ []) [
    | [] ↦ λ h. refl
    | x ∷ xs ↦ λ h. absurd (true≢false (sym h.0.1 ∙ not_this s (subscriber_of u x.call) (below_more (subscriber_of u x.call) (bound calls) s le (in_all (λ y. IsBelow (bound calls) (subscriber_of u y.call)) x calls (bounded calls) h.0.0))))
  ] (own_calls s)

  ordered : (s : ℕ) → calls_on u s order ≡ sigma s
  ordered s = picks_calls (is_of u s) (merged (bound calls)) ∙ elim (nat_lt s (bound calls)) as (λ b. nat_lt s (bound calls) ≡ b → calls_at (picks (is_of u s) (merged (bound calls))) ≡ sigma s) [
    | true ↦ λ e. ap calls_at (picked (bound calls) s (ltb-true s (bound calls) e)) ∙ timed_calls 0 (sigma s)
    | false ↦ λ e. let le = ltb-false s (bound calls) e in ap calls_at (unpicked (bound calls) s le) ∙ sym (no_calls s le)
  ] refl

  stand : AllByRecursion (Stands (bound calls)) order
  stand = all_calls (Stands (bound calls)) (merged (bound calls)) (stands (bound calls))

  pub combined : IsStrictlySerializable u calls
  combined =
      let made : AllByRecursion (λ x. IsIn x calls) order = all_map (Stands (bound calls)) (λ x. IsIn x calls) (λ x h. h.made) order stand in (
        order,
        record {
          made = made;
          once = apart (bound calls);
          all = λ x h answered. has x (bound calls) h answered (in_all (λ y. IsBelow (bound calls) (subscriber_of u y.call)) x calls (bounded calls) h);
          real_time = rising_keeps 0 (merged (bound calls)) (rises (bound calls)) (within (bound calls));
          replies = runs_together u order u is (λ key. refl) (all_accepted u calls is are order made)
              (all_map (Stands (bound calls)) (FailsAlone u) (λ x h. h.fails) order stand)
              (λ s. subst (AreAnsweredInOrder (of_subscriber u s)) (sym (ordered s)) (ok s).replies);
        },
      )

  -- of each subscriber it has its own order
  pub combined_orders : (s : ℕ) → calls_on u s combined.0 ≡ sigma s
  unfolding combined
  combined_orders s = ordered s
