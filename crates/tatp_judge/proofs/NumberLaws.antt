-- The numbers of the lines of one subscriber's calls.
use Rattle.std.proofs.Common.{◌≡◌, ℕ, zero, suc, ◌+◌, ◌<◌, ◌≤◌, ◌∙◌, sym, ap, subst, Bool, true, false, cond, nat_lt, nat_le, le-leb, lt-ltb, le-ltb, List, [], ◌∷◌, ◌++◌, length, take, drop, map, filter, refl, arith, Option, Some, None, append_assoc, inl, inr}
use Rattle.std.specs.List.{AllByRecursion}
use Rattle.std.proofs.lemmas.Bool.{cases_lt, lt-leb}
use Rattle.std.proofs.lemmas.List.{append-nil, length-append, take_all}
use Rattle.tatp_tables.specs.Database.{Database}
use Rattle.tatp_history.specs.declared.line.Line.{Line}
use Rattle.tatp_history.specs.declared.line.Line.TheVariants.{Ask, End, Abort, Lost}
use Rattle.tatp_history.specs.declared.event.Event.TheVariants.{Asks}
use Rattle.tatp_history.specs.HistoryLines.{client_of, call_at}
use Rattle.tatp_history.specs.Events.{time_of}
use Rattle.tatp_history.specs.Locality.{is_on}
use Rattle.tatp_history.specs.SubscriberEvents.{OpenCalls, NothingIsOpen, no_calls, opened_by, opened_after}
use Rattle.tatp_judge.specs.declared.window.Window.{Window}
use Rattle.tatp_judge.specs.Explained.{number_of_end, number_on, numbers_on, numbers_since, AreWindowNumbers}
use Rattle.tatp_judge.specs.NextLine.{asks_of, number_closed_by}
use Rattle.tatp_judge.specs.Windows.{AreNumbersKept}
use Rattle.tatp_judge.proofs.FirstLinesLaws.{parts, taken, taken_less}

-- ---- lists of numbers in two parts
pub front : {X : Type 0} (k : ℕ) (xs ys : List X) → k ≤ length xs → take k (xs ++ ys) ≡ take k xs
front zero xs ys le = refl
front (suc k) [] ys le = absurd (omega (arith, le))
front (suc k) (x ∷ xs) ys le = ap (λ zs. x ∷ zs) (front k xs ys (omega (arith, le)))

filter_both : (test : ℕ → Bool) (xs ys : List ℕ) → filter test (xs ++ ys) ≡ filter test xs ++ filter test ys
filter_both test [] ys = refl
filter_both test (x ∷ xs) ys = elim (test x) as (λ b. cond b (x ∷ filter test (xs ++ ys)) (filter test (xs ++ ys)) ≡ cond b (x ∷ filter test xs) (filter test xs) ++ filter test ys) [
  | true ↦ ap (λ zs. x ∷ zs) (filter_both test xs ys)
  | false ↦ filter_both test xs ys
]

filter_all : (test : ℕ → Bool) (xs : List ℕ) → AllByRecursion (λ n. test n ≡ true) xs → filter test xs ≡ xs
filter_all test [] h = refl
filter_all test (x ∷ xs) h = ap (λ b. cond b (x ∷ filter test xs) (filter test xs)) h.0 ∙ ap (λ zs. x ∷ zs) (filter_all test xs h.1)

filter_none : (test : ℕ → Bool) (xs : List ℕ) → AllByRecursion (λ n. test n ≡ false) xs → filter test xs ≡ []
filter_none test [] h = refl
filter_none test (x ∷ xs) h = ap (λ b. cond b (x ∷ filter test xs) (filter test xs)) h.0 ∙ filter_none test xs h.1

all_weaker : (P Q : ℕ → Type 0) → ((n : ℕ) → P n → Q n) → (xs : List ℕ) → AllByRecursion P xs → AllByRecursion Q xs
all_weaker P Q f [] h = tt
all_weaker P Q f (x ∷ xs) h = (f x h.0, all_weaker P Q f xs h.1)

all_both : (P : ℕ → Type 0) (xs ys : List ℕ) → AllByRecursion P xs → AllByRecursion P ys → AllByRecursion P (xs ++ ys)
all_both P [] ys h k = k
all_both P (x ∷ xs) ys h k = (h.0, all_both P xs ys h.1 k)

all_filter : (P : ℕ → Type 0) (test : ℕ → Bool) (xs : List ℕ) → AllByRecursion P xs → AllByRecursion P (filter test xs)
all_filter P test [] h = tt
all_filter P test (x ∷ xs) h = elim (test x) as (λ b. AllByRecursion P (cond b (x ∷ filter test xs) (filter test xs))) [
  | true ↦ (h.0, all_filter P test xs h.1)
  | false ↦ all_filter P test xs h.1
]

-- of two parts, one test takes all of the first and none of the second, whatever the other takes
cut_off : (test other : ℕ → Bool) (xs ys : List ℕ) → AllByRecursion (λ n. test n ≡ true) xs → AllByRecursion (λ n. test n ≡ false) ys → filter test (filter other (xs ++ ys)) ≡ filter other xs
cut_off test other [] [] h k = refl
cut_off test other [] (y ∷ ys) h k = elim (other y) as (λ b. filter test (cond b (y ∷ filter other ys) (filter other ys)) ≡ []) [
  | true ↦ ap (λ b. cond b (y ∷ filter test (filter other ys)) (filter test (filter other ys))) k.0 ∙ cut_off test other [] ys tt k.1
  | false ↦ cut_off test other [] ys tt k.1
]
cut_off test other (x ∷ xs) ys h k = elim (other x) as (λ b. filter test (cond b (x ∷ filter other (xs ++ ys)) (filter other (xs ++ ys))) ≡ cond b (x ∷ filter other xs) (filter other xs)) [
  | true ↦ ap (λ b. cond b (x ∷ filter test (filter other (xs ++ ys))) (filter test (filter other (xs ++ ys)))) h.0 ∙ ap (λ zs. x ∷ zs) (cut_off test other xs ys h.1 k)
  | false ↦ cut_off test other xs ys h.1 k
]

module _ (u : Database) (s : ℕ) where
  -- ---- of lines in two parts
  numbers_both : (first second : List Line) (number next : ℕ) (opened : OpenCalls) → number + length first ≡ next
      → numbers_on u s number opened (first ++ second) ≡ numbers_on u s number opened first ++ numbers_on u s next (opened_after u s number opened first) second
  numbers_both [] second number next opened n = let at : number ≡ next = omega (arith, n) in ap (λ k. numbers_on u s k opened second) at
  numbers_both (line ∷ more) second number next opened n =
      let m : number + suc (length more) ≡ next = n in
      ap (λ ns. number_on u s number opened line ++ ns) (numbers_both more second (suc number) next (opened_by u s number opened line) (omega (arith, m)))
      ∙ sym (append_assoc (number_on u s number opened line) (numbers_on u s (suc number) (opened_by u s number opened line) more) (numbers_on u s next (opened_after u s (suc number) (opened_by u s number opened line) more) second))

  -- ---- bounds
  IsWithin : ℕ → ℕ → ℕ → Type 0
  IsWithin low high n = (low ≤ n) × (n < high)

  end_within : (one : Option ℕ) (number high : ℕ) → number < high → AllByRecursion (IsWithin number high) (number_of_end one number)
  unfolding IsWithin
  end_within None number high lt = tt
  end_within (Some asked) number high lt = ((omega arith, lt), tt)

  one_within : (number high : ℕ) (opened : OpenCalls) (line : Line) → number < high → AllByRecursion (IsWithin number high) (number_on u s number opened line)
  unfolding IsWithin
  one_within number high opened (Ask client call) lt = elim (is_on u s call) as (λ b. AllByRecursion (IsWithin number high) (cond b (number ∷ []) [])) [ true ↦ ((omega arith, lt), tt) | false ↦ tt ]
  one_within number high opened (End client recorded) lt = end_within (opened client) number high lt
  one_within number high opened (Abort client) lt = end_within (opened client) number high lt
  one_within number high opened (Lost client) lt = end_within (opened client) number high lt

  all_within : (lines : List Line) (number high : ℕ) (opened : OpenCalls) → number + length lines ≤ high → AllByRecursion (IsWithin number high) (numbers_on u s number opened lines)
  unfolding IsWithin
  all_within [] number high opened le = tt
  all_within (line ∷ more) number high opened le =
      let m : number + suc (length more) ≤ high = le in
      all_both (IsWithin number high) (number_on u s number opened line) (numbers_on u s (suc number) (opened_by u s number opened line) more)
      (one_within number high opened line (omega (arith, m)))
      (all_weaker (IsWithin (suc number) high) (IsWithin number high) (λ n h. (let le : suc number ≤ n = h.0 in omega (arith, le), h.1)) (numbers_on u s (suc number) (opened_by u s number opened line) more)
      (all_within more (suc number) high (opened_by u s number opened line) (omega (arith, m))))

  -- none come after the last
  pub none_since : (from : ℕ) (lines : List Line) → length lines ≤ from → numbers_since u s from lines ≡ []
  unfolding IsWithin
  none_since from lines le = filter_none (λ n. nat_lt from n) (numbers_on u s 1 no_calls lines)
      (all_weaker (IsWithin 1 (1 + length lines)) (λ n. nat_lt from n ≡ false) (λ n h. let lt : n < 1 + length lines = h.1 in le-ltb from n (omega (arith, lt, le))) (numbers_on u s 1 no_calls lines)
      (all_within lines 1 (1 + length lines) no_calls (omega arith)))

  -- all have a line
  pub since_within : (from : ℕ) (lines : List Line) (k : ℕ) → length lines ≤ k → AllByRecursion (λ n. (1 ≤ n) × (n ≤ k)) (numbers_since u s from lines)
  unfolding IsWithin
  since_within from lines k le = all_filter (λ n. (1 ≤ n) × (n ≤ k)) (λ n. nat_lt from n) (numbers_on u s 1 no_calls lines)
      (all_weaker (IsWithin 1 (1 + length lines)) (λ n. (1 ≤ n) × (n ≤ k)) (λ n h. let lt : n < 1 + length lines = h.1 in (h.0, omega (arith, lt, le))) (numbers_on u s 1 no_calls lines)
      (all_within lines 1 (1 + length lines) no_calls (omega arith)))

  -- ---- one line more
  since_next : (from : ℕ) (lines : List Line) (line : Line) → from ≤ length lines
      → numbers_since u s from (lines ++ line ∷ []) ≡ numbers_since u s from lines ++ number_on u s (suc (length lines)) (opened_after u s 1 no_calls lines) line
  unfolding IsWithin
  since_next from lines line le =
      let number = suc (length lines) in
      let last = number_on u s number (opened_after u s 1 no_calls lines) line in
      let all : numbers_on u s 1 no_calls (lines ++ line ∷ []) ≡ numbers_on u s 1 no_calls lines ++ last
      = numbers_both lines (line ∷ []) 1 number no_calls (omega arith) ∙ ap (λ ns. numbers_on u s 1 no_calls lines ++ ns) (append-nil last) in
      ap (filter (λ n. nat_lt from n)) all
      ∙ (filter_both (λ n. nat_lt from n) (numbers_on u s 1 no_calls lines) last
      ∙ ap (λ ns. numbers_since u s from lines ++ ns) (filter_all (λ n. nat_lt from n) last
      (all_weaker (IsWithin number (suc number)) (λ n. nat_lt from n ≡ true) (λ n h. let at : number ≤ n = h.0 in lt-ltb from n (omega (arith, at, le))) last
      (one_within number (suc number) (opened_after u s 1 no_calls lines) line (omega arith)))))

  -- the line's number, as it is noted
  pub number_noted : (number : ℕ) (opened : OpenCalls) (line : Line) → number_closed_by (opened (client_of line)) number line ++ map time_of (asks_of u s number line) ≡ number_on u s number opened line
  number_noted number opened (Ask client call) = asked (opened client) (is_on u s call)
    where
      asked : (one : Option ℕ) (b : Bool) → number_closed_by one number (Ask client call) ++ map time_of (cond b (Asks (call_at number client call []) ∷ []) []) ≡ cond b (number ∷ []) []
      asked None true = refl
      asked None false = refl
      asked (Some one) true = refl
      asked (Some one) false = refl
  number_noted number opened (End client recorded) = ends (opened client)
    where
      ends : (one : Option ℕ) → number_closed_by one number (End client recorded) ++ [] ≡ number_of_end one number
      ends None = refl
      ends (Some asked) = refl
  number_noted number opened (Abort client) = aborted (opened client)
    where
      aborted : (one : Option ℕ) → number_closed_by one number (Abort client) ++ [] ≡ number_of_end one number
      aborted None = refl
      aborted (Some asked) = refl
  number_noted number opened (Lost client) = lost (opened client)
    where
      lost : (one : Option ℕ) → number_closed_by one number (Lost client) ++ [] ≡ number_of_end one number
      lost None = refl
      lost (Some asked) = refl

  -- ---- what is kept
  pub kept_new : (w : Window) → w.from ≡ 0 → w.numbers.items ≡ [] → AreNumbersKept u s [] w
  kept_new w from none = record {
    numbers_are = none;
    none = subst (λ k. NothingIsOpen u s (take k [])) (sym from) (λ client. refl);
    last = λ later lt. absurd (omega (arith, lt));
  }

  pub kept_next : (lines : List Line) (line : Line) (w after : Window) → w.from ≤ length lines → after.from ≡ w.from
      → after.numbers.items ≡ w.numbers.items ++ number_on u s (suc (length lines)) (opened_after u s 1 no_calls lines) line → (NothingIsOpen u s lines → w.numbers.items ≡ [])
      → AreNumbersKept u s lines w → AreNumbersKept u s (lines ++ line ∷ []) after
  kept_next lines line w after within from numbers quiet kept =
      let longer : length (lines ++ line ∷ []) ≡ suc (length lines) = length-append lines (line ∷ []) ∙ omega arith in
      let still = sym from in record {
        numbers_are = numbers ∙ (ap (λ ns. ns ++ number_on u s (suc (length lines)) (opened_after u s 1 no_calls lines) line) kept.numbers_are
            ∙ (sym (since_next w.from lines line within) ∙ ap (λ k. numbers_since u s k (lines ++ line ∷ [])) still));
        none = subst (λ k. NothingIsOpen u s (take k (lines ++ line ∷ []))) still (subst (NothingIsOpen u s) (sym (front w.from lines (line ∷ []) within)) kept.none);
        last = λ later lt none. subst (λ k. numbers_since u s k (take later (lines ++ line ∷ [])) ≡ []) still (elim (cases_lt later (length lines)) [
          | inl before ↦
              let same : take later (lines ++ line ∷ []) ≡ take later lines = front later lines (line ∷ []) (omega (arith, before)) in
              ap (numbers_since u s w.from) same ∙ kept.last later before (subst (NothingIsOpen u s) same none)
          | inr at ↦
              let is : later ≡ length lines = omega (arith, at, lt, longer) in
              let same : take later (lines ++ line ∷ []) ≡ lines = front later lines (line ∷ []) (omega (arith, is)) ∙ take_all later lines at in
              ap (numbers_since u s w.from) same ∙ (sym kept.numbers_are ∙ quiet (subst (NothingIsOpen u s) same none))
        ]);
      }

  pub kept_closed : (lines : List Line) (after : Window) → after.from ≡ length lines → after.numbers.items ≡ [] → NothingIsOpen u s lines → AreNumbersKept u s lines after
  kept_closed lines after from numbers quiet =
      let still = sym from in record {
        numbers_are = numbers ∙ (sym (none_since (length lines) lines (omega arith)) ∙ ap (λ k. numbers_since u s k lines) still);
        none = subst (λ k. NothingIsOpen u s (take k lines)) still (subst (NothingIsOpen u s) (sym (take_all (length lines) lines (omega arith))) quiet);
        last = λ later lt none. subst (λ k. numbers_since u s k (take later lines) ≡ []) still
            (let few : length (take later lines) ≡ later = taken later lines (omega (arith, lt)) in none_since (length lines) (take later lines) (omega (arith, few, lt)));
      }

  -- ---- what is told
  pub window_told : (lines : List Line) (line : ℕ) (w : Window) → AreNumbersKept u s lines w → w.from < line → line ≤ length lines
      → AreWindowNumbers u s (take line lines) (filter (λ n. nat_le n line) w.numbers.items)
  unfolding IsWithin
  window_told lines line w kept began within =
      let count : length (take line lines) ≡ line = taken line lines within in
      let first = take line lines in
      let second = drop line lines in
      record {
        from = w.from;
        before = omega (arith, count, began);
        none = subst (NothingIsOpen u s) (sym (taken_less w.from line lines (omega (arith, began)))) kept.none;
        last = λ later lt none.
            let same : take later first ≡ take later lines = taken_less later line lines (omega (arith, lt, count)) in
            ap (numbers_since u s w.from) same ∙ kept.last later (omega (arith, lt, count, within)) (subst (NothingIsOpen u s) same none);
        numbers_are = ap (filter (λ n. nat_le n line)) (kept.numbers_are ∙ ap (filter (λ n. nat_lt w.from n)) (ap (numbers_on u s 1 no_calls) (sym (parts line lines)) ∙ numbers_both first second 1 (suc line) no_calls (omega (arith, count))))
            ∙ cut_off (λ n. nat_le n line) (λ n. nat_lt w.from n) (numbers_on u s 1 no_calls first) (numbers_on u s (suc line) (opened_after u s 1 no_calls first) second)
            (all_weaker (IsWithin 1 (suc line)) (λ n. nat_le n line ≡ true) (λ n h. let lt : n < suc line = h.1 in le-leb n line (omega (arith, lt))) (numbers_on u s 1 no_calls first) (all_within first 1 (suc line) no_calls (omega (arith, count))))
            (all_weaker (IsWithin (suc line) (suc line + length second)) (λ n. nat_le n line ≡ false) (λ n h. let le : suc line ≤ n = h.0 in lt-leb n line (omega (arith, le))) (numbers_on u s (suc line) (opened_after u s 1 no_calls first) second)
            (all_within second (suc line) (suc line + length second) (opened_after u s 1 no_calls first) (omega arith)));
      }
