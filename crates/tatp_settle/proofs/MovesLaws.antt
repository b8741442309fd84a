-- Moves counted number by number are those of all extents.
use Rattle.std.proofs.Common.{◌≡◌, ℕ, zero, suc, ◌+◌, ◌<◌, ◌≤◌, ◌==◌, ◌&&◌, nat_le, Bool, true, false, cond, if◌then◌else◌, List, [], ◌∷◌, ◌++◌, map, length, filter, find, count_by, sum_by, All, Some, None, is_some, slice_index_or, zero-add, add-zero, refl, sym, ◌∙◌, ap, arith, inl, inr}
use Rattle.std.specs.List.{range_with_len}
use Rattle.std.specs.Option.{option_map, option_map_or}
use Rattle.std.proofs.lemmas.Bool.{cases_eq, ne_eqb, eq-eqb, false≢true}
use Rattle.std.proofs.lemmas.Bool.Decides.{nat_tests}
use Rattle.std.proofs.lemmas.List.Elements.{All-head, All-tail, Contains-get_or}
use Rattle.std.proofs.lemmas.List.Sums.{sum_by-cons}
use Rattle.tatp_tables.specs.declared.row.Rows.{Rows}
use Rattle.tatp_extents.specs.Extents.{ExtentState, IsExtent}
use Rattle.tatp_extents.specs.Opening.{homes_of_extent}
use Rattle.tatp_tables.specs.Database.{database_of}
use Rattle.tatp_settle.specs.Closings.{ClosedSiteState, ClosedState, extents_of, log_of_homeless, log_of_extent, log_numbered, extents_numbered, moves_numbered, IsClosed}
use Rattle.tatp_settle.specs.Runs.{Run, extents_populated, homes_at_first, moves_left}
use Rattle.tatp_settle.specs.Settlements.{IsPopulationOnce, moves_made}
use Rattle.tatp_settle.proofs.StandingLaws.{has_number, count_cons, any_counted}
use Rattle.tatp_settle.proofs.TestLaws.{decides_passes}
use Rattle.tatp_settle.proofs.LogLaws.{log_has}
use Rattle.tatp_settle.proofs.NumberedLaws.{extent_log_numbered}
use Rattle.tatp_settle.proofs.FoundLaws.{first_counted, are_extents}

-- ---- sums over a range
sum_same : (f g : ℕ → ℕ) (es : List ℕ) → ((e : ℕ) → f e ≡ g e) → sum_by f es ≡ sum_by g es
sum_same f g [] same = refl
sum_same f g (e ∷ es) same = sum_by-cons f e es ∙ (λ i. same e i + sum_same f g es same i) ∙ sym (sum_by-cons g e es)

sum_both : (f g : ℕ → ℕ) (es : List ℕ) → sum_by (λ e. f e + g e) es ≡ sum_by f es + sum_by g es
sum_both f g [] = refl
sum_both f g (e ∷ es) =
    let both = sum_by-cons (λ k. f k + g k) e es in
    let one = sum_by-cons f e es in
    let other = sum_by-cons g e es in
    let rest = sum_both f g es in
    omega (arith, both, one, other, rest)

sum_nothing : (f : ℕ → ℕ) (a n : ℕ) → ((e : ℕ) → a ≤ e → f e ≡ 0) → sum_by f (range_with_len a n) ≡ 0
sum_nothing f a zero none = refl
sum_nothing f a (suc n) none = sum_by-cons f a (range_with_len (a + 1) n) ∙ (λ i. none a (omega arith) i + sum_nothing f (a + 1) n (λ e l. none e (omega (arith, l))) i)

abbrev value_at : ℕ → ℕ → ℕ → ℕ
value_at m v e = cond (m == e) v 0

-- one number of a range has a value
sum_one : (m v a n : ℕ) → a ≤ m → m < a + n → sum_by (value_at m v) (range_with_len a n) ≡ v
sum_one m v a zero l k = absurd (omega (arith, l, k))
sum_one m v a (suc n) l k = elim (cases_eq m a) [
  | inl same ↦
      let here : value_at m v a ≡ v = ap (λ b. cond b v 0) (eq-eqb m a same) in
      let rest : sum_by (value_at m v) (range_with_len (a + 1) n) ≡ 0 = sum_nothing (value_at m v) (a + 1) n (λ e after. ap (λ b. cond b v 0) (ne_eqb m e (λ z. omega (arith, same, after, z)))) in
      sum_by-cons (value_at m v) a (range_with_len (a + 1) n) ∙ (λ i. here i + rest i) ∙ add-zero v
  | inr other ↦
      let here : value_at m v a ≡ 0 = ap (λ b. cond b v 0) (ne_eqb m a other) in
      let rest : sum_by (value_at m v) (range_with_len (a + 1) n) ≡ v = sum_one m v (a + 1) n (grind (arith, l, other)) (omega (arith, k)) in
      sum_by-cons (value_at m v) a (range_with_len (a + 1) n) ∙ (λ i. here i + rest i) ∙ zero-add v
]

-- ---- extents by number
module _ (f : ExtentState → ℕ) where
  one_more : (e : ℕ) (x : ExtentState) (xs : List ExtentState) → sum_by f (filter (has_number e) (x ∷ xs)) ≡ value_at x.number (f x) e + sum_by f (filter (has_number e) xs)
  one_more e x xs = elim (x.number == e) as (λ b. sum_by f (cond b (x ∷ filter (has_number e) xs) (filter (has_number e) xs)) ≡ cond b (f x) 0 + sum_by f (filter (has_number e) xs)) [
    | true ↦ sum_by-cons f x (filter (has_number e) xs)
    | false ↦ sym (zero-add _)
  ]

  -- number by number, all of them are counted
  by_number : (a n : ℕ) (xs : List ExtentState) → All (λ (x : ExtentState). (a ≤ x.number) × (x.number < a + n)) xs → sum_by (λ e. sum_by f (filter (has_number e) xs)) (range_with_len a n) ≡ sum_by f xs
  by_number a n [] within = sum_nothing (λ e. 0) a n (λ e l. refl)
  by_number a n (x ∷ xs) within =
      let own = All-head (λ (y : ExtentState). (a ≤ y.number) × (y.number < a + n)) x xs within in
      let rest = by_number a n xs (All-tail (λ (y : ExtentState). (a ≤ y.number) × (y.number < a + n)) x xs within) in
      sum_same (λ e. sum_by f (filter (has_number e) (x ∷ xs))) (λ e. value_at x.number (f x) e + sum_by f (filter (has_number e) xs)) (range_with_len a n) (λ e. one_more e x xs)
      ∙ sum_both (value_at x.number (f x)) (λ e. sum_by f (filter (has_number e) xs)) (range_with_len a n)
      ∙ (λ i. sum_one x.number (f x) a n own.0 own.1 i + rest i)
      ∙ sym (sum_by-cons f x xs)

  none_pass : (p : ExtentState → Bool) (xs : List ExtentState) → length (filter p xs) ≡ 0 → sum_by f (filter p xs) ≡ 0
  none_pass p xs = by (filter p xs)
    where
      by : (ys : List ExtentState) → length ys ≡ 0 → sum_by f ys ≡ 0
      by [] h = refl
      by (y ∷ ys) h = absurd (omega (arith, h))

  -- where at most one passes, it is what is found
  only_one : (p : ExtentState → Bool) (xs : List ExtentState) → length (filter p xs) ≤ 1 → sum_by f (filter p xs) ≡ option_map_or f (find p xs) 0
  only_one p [] l = refl
  only_one p (x ∷ xs) l =
      elim (p x) as (λ b. length (cond b (x ∷ filter p xs) (filter p xs)) ≤ 1 → sum_by f (cond b (x ∷ filter p xs) (filter p xs)) ≡ option_map_or f (cond b (Some x) (find p xs)) 0) [
        | true ↦ λ l. sum_by-cons f x (filter p xs) ∙ ap (λ n. f x + n) (none_pass p xs (omega (arith, l))) ∙ add-zero (f x)
        | false ↦ λ l. only_one p xs l
      ] l

-- ---- the extents of a run
counted : (e : ℕ) (sites : List ClosedSiteState) (extents : List ExtentState) → length (filter (has_number e) extents) ≤ count_by (log_has e) (map log_of_homeless sites ++ map log_of_extent extents)
counted e [] [] = omega arith
counted e [] (x ∷ extents) =
    let more = count_cons (log_has e) (log_of_extent x) (map log_of_extent extents) in
    let rest = counted e [] extents in
    let here : length (filter (has_number e) (x ∷ extents)) ≡ cond (x.number == e) 1 0 + length (filter (has_number e) extents) =
    elim (x.number == e) as (λ b. length (cond b (x ∷ filter (has_number e) extents) (filter (has_number e) extents)) ≡ cond b 1 0 + length (filter (has_number e) extents)) [
      | true ↦ omega arith
      | false ↦ omega arith
    ] in
    omega (arith, more, rest, here)
counted e (s ∷ sites) extents =
    let more = count_cons (log_has e) (log_of_homeless s) (map log_of_homeless sites ++ map log_of_extent extents) in
    let rest = counted e sites extents in
    omega (arith, more, rest)

-- ---- where the extents stand
if_some : {A : Type 0} (b : Bool) (x : A) → is_some (if b then Some x else None) ≡ true → b ≡ true
if_some true x h = refl
if_some false x h = absurd (false≢true h)

passed_tests : (e n : ℕ) → (nat_le 1 e && nat_le e n) ≡ true → (1 ≤ e) × (e < 1 + n)
passed_tests e n h = (grind (arith, nat_tests, h), grind (arith, nat_tests, h))

within_populated : (population : Rows) (e : ℕ) → 1 ≤ e → is_some (homes_at_first population e) ≡ true → (1 ≤ e) × (e < 1 + extents_populated population)
within_populated population zero l h = absurd (omega (arith, l))
within_populated population (suc e) l h =
    passed_tests (suc e) (extents_populated population) (if_some (nat_le 1 (suc e) && nat_le (suc e) (extents_populated population)) (homes_of_extent (database_of population) (length population.subscribers) (suc e)) h)

-- each extent that stands is one of the population's
are_within : (run : Run) → IsClosed run.closed → IsPopulationOnce run → All (λ (x : ExtentState). (1 ≤ x.number) × (x.number < 1 + extents_populated run.population)) (extents_of run.closed)
are_within run closed once k d l =
    let c : ClosedState = run.closed in
    let x : ExtentState = slice_index_or (extents_of c) k d in
    let extent : IsExtent x = are_extents c closed k d l in
    let least : 1 ≤ x.number = extent.of_extent.numbered in
    let counted = (any_counted (has_number x.number) (extents_of c)).0 ((decides_passes (has_number x.number) (extents_of c)).1 (x, Contains-get_or (extents_of c) k d l, eq-eqb x.number x.number refl)) in
    let here = first_counted (has_number x.number) (extents_of c) counted in
    let log : log_numbered c x.number ≡ Some (log_of_extent here.0) = extent_log_numbered c x.number (λ z. omega (arith, least, z)) ∙ ap (option_map log_of_extent) here.1 in
    within_populated run.population x.number least (sym (once.stands x.number) ∙ ap is_some log)

-- each extent stands once: its moves are counted by its number
pub moves_by_number : (run : Run) → IsClosed run.closed → IsPopulationOnce run → moves_left run ≡ moves_made run
moves_by_number run closed once =
    sum_same (moves_numbered run.closed) (λ e. sum_by (λ (x : ExtentState). x.moves) (extents_numbered run.closed e)) (range_with_len 1 (extents_populated run.population))
    (λ e. sym (only_one (λ (x : ExtentState). x.moves) (has_number e) (extents_of run.closed) (at_most_once e)))
    ∙ by_number (λ (x : ExtentState). x.moves) 1 (extents_populated run.population) (extents_of run.closed) (are_within run closed once)
  where
    at_most_once : (e : ℕ) → length (extents_numbered run.closed e) ≤ 1
    at_most_once e =
        let least = counted e (filter (λ (s : ClosedSiteState). s.partition == 0) run.closed.sites) (extents_of run.closed) in
        let most = once.once e in
        omega (arith, least, most)
