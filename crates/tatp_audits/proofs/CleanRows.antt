-- The tests of each audit pass exactly where its statement holds, and all exactly where rows are clean.
use Rattle.std.specs.Prelude.{◌≡◌, ◌≢◌, ◌↔◌, ℕ, ◌≤◌, ◌+◌, ◌*◌, ◌==◌, max, nat_le, Bool, true, false, cond, not, ◌&&◌, ◌||◌, List, [], ◌∷◌, ◌++◌, map, take, length, count_by, All, slice_index, slice_index_or}
use Rattle.std.specs.Cmp.Lexicographic.{texts_ties}
use Rattle.std.proofs.Common.{refl, sym, ap, ◌∙◌, subst, arith, inl, inr}
use Rattle.std.proofs.lemmas.Bool.{cases_lt, and_parts}
use Rattle.std.proofs.lemmas.Bool.Decides.{nat_tests}
use Rattle.std.proofs.lemmas.List.{length-take-le}
use Rattle.std.proofs.lemmas.List.Folds.{list_any_none, list_any_at}
use Rattle.std.proofs.lemmas.List.Sums.{sum_by-cons, sum_by-le}
use Rattle.std.proofs.lemmas.Bool.{false≢true}
use Rattle.tatp_lines.specs.Numbers.{is_between}
use Rattle.tatp_tables.specs.Tuples.{Tuple, same}
use Rattle.tatp_tables.specs.Keys.{has_number}
use Rattle.tatp_tables.specs.Columns.{column_count}
use Rattle.tatp_tables.specs.Domains.{is_row}
use Rattle.tatp_tables.specs.Clean.{count_of_key, IdsRunFromOne, NumbersStandOnce, KeysStandOnce, ParentsStand, ValuesFit, CountsFit, IsCountWithin, IsClean}
use Rattle.tatp_tables.specs.declared.row.Rows.{Rows}
use Rattle.tatp_tables.specs.declared.table.Table.{Table}
use Rattle.tatp_tables.specs.declared.table.Table.TheVariants.{Subscriber, AccessInfo, SpecialFacility, CallForwarding}
use Rattle.tatp_tables.proofs.TupleLaws.{same_is}
use Rattle.tatp_audits.specs.Failing.{times, is_twice, is_wrong, NoneFails}
use Rattle.tatp_audits.specs.Audits.{Test, id_tests, number_tests, key_tests, parent_tests, value_tests, count_tests, is_astray, numbers, is_orphan, place_outside, is_miscounted, is_short_or_long, tests, AllPass, HaveTheirColumns}
use Rattle.tatp_audits.proofs.Order.{same_itself}
use Rattle.tatp_audits.proofs.KeyCounts.{times_fronts}

-- ---- rows that are right
each_right : (right : Tuple → Bool) (key : Tuple → Tuple) (rows : List Tuple) → NoneFails (is_wrong right key rows) → All (λ row. right row ≡ true) rows
each_right right key rows none = λ j d h.
    let row : Tuple = slice_index_or rows j d in
    elim (right row) as (λ b. right row ≡ b → b ≡ true) [
      | true ↦ λ e. refl
      | false ↦ λ e. absurd (false≢true (sym (none (key row))
          ∙ list_any_at (λ r. not (right r) && same (key row) (key r)) rows j d h (λ i. not (e i) && same_itself (key row) i)))
    ] refl

none_wrong : (right : Tuple → Bool) (key : Tuple → Tuple) (rows : List Tuple) → All (λ row. right row ≡ true) rows → NoneFails (is_wrong right key rows)
none_wrong right key rows all = λ k. list_any_none (λ r. not (right r) && same k (key r)) rows (λ j d h. ap (λ b. not b && same k (key (slice_index_or rows j d))) (all j d h))

-- ---- s_ids
one_stands : (s n c : ℕ) → 1 ≤ s → s ≤ n → (nat_le 1 s && (nat_le s n && not (c == 1))) ≡ false → c ≡ 1
one_stands s n c low high e = grind (arith, nat_tests)

one_is_right : (s n c : ℕ) → (1 ≤ s → s ≤ n → c ≡ 1) → (nat_le 1 s && (nat_le s n && not (c == 1))) ≡ false
one_is_right s n c h = grind (arith, nat_tests)

ids_from : (r : Rows) → NoneFails (is_astray r.subscribers) → IdsRunFromOne r
ids_from r none = λ s low high. one_stands s (max 1 (length r.subscribers)) (count_of_key (s ∷ []) r.subscribers) low high (none (s ∷ []))

none_astray : (r : Rows) → IdsRunFromOne r → NoneFails (is_astray r.subscribers)
none_astray r ids [] = refl
none_astray r ids (s ∷ []) = one_is_right s (max 1 (length r.subscribers)) (count_of_key (s ∷ []) r.subscribers) (ids s)
none_astray r ids (s ∷ t ∷ more) = refl

-- ---- what stands once
not_twice : (n : ℕ) → nat_le 2 n ≡ false → n ≤ 1
not_twice n e = grind (arith, nat_tests)

at_most_once : (n : ℕ) → n ≤ 1 → nat_le 2 n ≡ false
at_most_once n h = grind (arith, nat_tests)

count-cons : (p : Tuple → Bool) (x : Tuple) (xs : List Tuple) → count_by p (x ∷ xs) ≡ cond (p x) 1 0 + count_by p xs
count-cons p x xs = sum_by-cons (λ y. cond (p y) 1 0) x xs

times-map : (key : Tuple → Tuple) (k : Tuple) (rows : List Tuple) → times (map key rows) k ≡ count_by (λ row. same k (key row)) rows
times-map key k [] = refl
times-map key k (row ∷ rows) = count-cons (same k) (key row) (map key rows) ∙ ap (λ n. cond (same k (key row)) 1 0 + n) (times-map key k rows) ∙ sym (count-cons (λ row. same k (key row)) row rows)

one_number : (n x : ℕ) → ((n == x) && true) ≡ (x == n)
one_number n x = grind (arith, nat_tests)

same_number : (n x : ℕ) → same (n ∷ []) (x ∷ []) ≡ (x == n)
same_number n x = sym (texts_ties (n ∷ []) (x ∷ [])) ∙ one_number n x

number_times : (n : ℕ) (rows : List Tuple) → times (numbers rows) (n ∷ []) ≡ count_by (has_number n) rows
number_times n [] = refl
number_times n (row ∷ rows) = count-cons (same (n ∷ [])) (slice_index row 1 ∷ []) (numbers rows)
    ∙ (λ i. cond (same_number n (slice_index row 1) i) 1 0 + number_times n rows i) ∙ sym (count-cons (has_number n) row rows)

numbers_from : (r : Rows) → NoneFails (is_twice (numbers r.subscribers)) → NumbersStandOnce r
numbers_from r none = λ n. subst (λ c. c ≤ 1) (number_times n r.subscribers) (not_twice _ (none (n ∷ [])))

-- a key of another length than those of the rows doesn't stand among them
apart : (n : ℕ) (k other : Tuple) → length other ≡ n → length k ≢ n → same k other ≡ false
apart n k other e ne = elim (same k other) as (λ b. same k other ≡ b → b ≡ false) [
  | true ↦ λ is. absurd (ne (ap length (same_is k other is) ∙ e))
  | false ↦ λ is. refl
] refl

never_stands : (n : ℕ) (key : Tuple → Tuple) (k : Tuple) (rows : List Tuple) → All (λ row. length (key row) ≡ n) rows → length k ≢ n → times (map key rows) k ≡ 0
never_stands n key k rows long ne =
    let h : count_by (λ row. same k (key row)) rows ≤ length rows * 0 = sum_by-le (λ row. cond (same k (key row)) 1 0) 0 rows
    (λ j d lt. let e : same k (key (slice_index_or rows j d)) ≡ false = apart n k (key (slice_index_or rows j d)) (long j d lt) ne in grind (arith, e)) in
    times-map key k rows ∙ omega arith

none_number_twice : (r : Rows) → NumbersStandOnce r → NoneFails (is_twice (numbers r.subscribers))
none_number_twice r once [] = at_most_once _ (let e = never_stands 1 (λ row. slice_index row 1 ∷ []) [] r.subscribers (λ j d h. refl) (λ h. omega arith) in omega (arith, e))
none_number_twice r once (n ∷ []) = at_most_once _ (subst (λ c. c ≤ 1) (sym (number_times n r.subscribers)) (once n))
none_number_twice r once (a ∷ b ∷ k) = at_most_once _ (let e = never_stands 1 (λ row. slice_index row 1 ∷ []) (a ∷ b ∷ k) r.subscribers (λ j d h. refl) (λ h. omega arith) in omega (arith, e))

key_from : (n : ℕ) (rows : List Tuple) (k : Tuple) → length k ≡ n → NoneFails (is_twice (map (take n) rows)) → count_of_key k rows ≤ 1
key_from n rows k e none = subst (λ c. c ≤ 1) (times_fronts n k rows e) (not_twice _ (none k))

keys_from : (r : Rows) → NoneFails (is_twice (map (take 2) r.accesses)) → NoneFails (is_twice (map (take 2) r.facilities)) → NoneFails (is_twice (map (take 3) r.forwardings)) → KeysStandOnce r
keys_from r a f c = record {
  accesses = λ s kind. key_from 2 r.accesses (s ∷ kind ∷ []) refl a;
  facilities = λ s kind. key_from 2 r.facilities (s ∷ kind ∷ []) refl f;
  forwardings = λ s kind start. key_from 3 r.forwardings (s ∷ kind ∷ start ∷ []) refl c;
}

front_length : (n : ℕ) (row : Tuple) → n ≤ length row → length (take n row) ≡ n
front_length n row h = length-take-le n row h

fronts : (t : Table) (n : ℕ) (rows : List Tuple) → n ≤ column_count t → All (λ row. length row ≡ column_count t) rows → All (λ row. length (take n row) ≡ n) rows
fronts t n rows le long = λ j d h. let e : length (slice_index_or rows j d) ≡ column_count t = long j d h in front_length n (slice_index_or rows j d) (omega arith)

of_length : (n : ℕ) (rows : List Tuple) (k : Tuple) → All (λ row. length (take n row) ≡ n) rows → (length k ≡ n → count_of_key k rows ≤ 1) → is_twice (map (take n) rows) k ≡ false
of_length n rows k long once = elim (cases_lt (length k) n) [
  | inl lt ↦ at_most_once _ (let e = never_stands n (take n) k rows long (λ h. omega arith) in omega (arith, e))
  | inr le ↦ elim (cases_lt n (length k)) [
    | inl gt ↦ at_most_once _ (let e = never_stands n (take n) k rows long (λ h. omega arith) in omega (arith, e))
    | inr ge ↦ let is : length k ≡ n = omega arith in at_most_once _ (subst (λ c. c ≤ 1) (sym (times_fronts n k rows is)) (once is))
  ]
]

pairs : (rows : List Tuple) (k : Tuple) → ((s kind : ℕ) → count_of_key (s ∷ kind ∷ []) rows ≤ 1) → length k ≡ 2 → count_of_key k rows ≤ 1
pairs rows [] h e = absurd (omega arith)
pairs rows (s ∷ []) h e = absurd (omega arith)
pairs rows (s ∷ kind ∷ []) h e = h s kind
pairs rows (s ∷ kind ∷ t ∷ more) h e = absurd (omega arith)

triples : (rows : List Tuple) (k : Tuple) → ((s kind start : ℕ) → count_of_key (s ∷ kind ∷ start ∷ []) rows ≤ 1) → length k ≡ 3 → count_of_key k rows ≤ 1
triples rows [] h e = absurd (omega arith)
triples rows (s ∷ []) h e = absurd (omega arith)
triples rows (s ∷ kind ∷ []) h e = absurd (omega arith)
triples rows (s ∷ kind ∷ start ∷ []) h e = h s kind start
triples rows (s ∷ kind ∷ start ∷ t ∷ more) h e = absurd (omega arith)

none_pair_twice : (t : Table) (rows : List Tuple) → 2 ≤ column_count t → All (λ row. length row ≡ column_count t) rows → ((s kind : ℕ) → count_of_key (s ∷ kind ∷ []) rows ≤ 1) → NoneFails (is_twice (map (take 2) rows))
none_pair_twice t rows le long once = λ k. of_length 2 rows k (fronts t 2 rows le long) (pairs rows k once)

none_triple_twice : (t : Table) (rows : List Tuple) → 3 ≤ column_count t → All (λ row. length row ≡ column_count t) rows → ((s kind start : ℕ) → count_of_key (s ∷ kind ∷ start ∷ []) rows ≤ 1) → NoneFails (is_twice (map (take 3) rows))
none_triple_twice t rows le long once = λ k. of_length 3 rows k (fronts t 3 rows le long) (triples rows k once)

-- ---- parents and counts
some_stand : (n : ℕ) → nat_le 1 n ≡ true → 1 ≤ n
some_stand n e = grind (arith, nat_tests)

they_stand : (n : ℕ) → 1 ≤ n → nat_le 1 n ≡ true
they_stand n h = grind (arith, nat_tests)

parents_from : (n m : ℕ) (parents rows : List Tuple) → NoneFails (is_orphan n parents m rows) → All (λ row. 1 ≤ count_of_key (take n row) parents) rows
parents_from n m parents rows none = λ j d h. some_stand _ (each_right (λ row. nat_le 1 (count_of_key (take n row) parents)) (take m) rows none j d h)

none_orphan : (n m : ℕ) (parents rows : List Tuple) → All (λ row. 1 ≤ count_of_key (take n row) parents) rows → NoneFails (is_orphan n parents m rows)
none_orphan n m parents rows all = none_wrong (λ row. nat_le 1 (count_of_key (take n row) parents)) (take m) rows (λ j d h. they_stand _ (all j d h))

within : (least most n : ℕ) → is_between least most n ≡ true → IsCountWithin least most n
within least most n e = (grind (arith, nat_tests), grind (arith, nat_tests))

between : (least most n : ℕ) → IsCountWithin least most n → is_between least most n ≡ true
between least most n h = let low : least ≤ n = h.0 in let high : n ≤ most = h.1 in grind (arith, nat_tests)

counts_from : (n least most : ℕ) (below rows : List Tuple) → NoneFails (is_miscounted n least most below rows) → All (λ row. IsCountWithin least most (count_of_key (take n row) below)) rows
counts_from n least most below rows none = λ j d h. within least most _ (each_right (λ row. is_between least most (count_of_key (take n row) below)) (take 1) rows none j d h)

none_miscounted : (n least most : ℕ) (below rows : List Tuple) → All (λ row. IsCountWithin least most (count_of_key (take n row) below)) rows → NoneFails (is_miscounted n least most below rows)
none_miscounted n least most below rows all = none_wrong (λ row. is_between least most (count_of_key (take n row) below)) (take 1) rows (λ j d h. between least most _ (all j d h))

neither : (a b c : Bool) → (a || b || c) ≡ false → (a ≡ false) × (b ≡ false) × (c ≡ false)
neither false false false e = (refl, refl, refl)
neither false false true e = cc
neither false true c e = cc
neither true b c e = cc

-- ---- each audit
pub ids_are : (r : Rows) → AllPass (id_tests r) ↔ IdsRunFromOne r
ids_are r = (λ h. ids_from r h.0, λ ids. (none_astray r ids, tt))

pub numbers_are : (r : Rows) → AllPass (number_tests r) ↔ NumbersStandOnce r
numbers_are r = (λ h. numbers_from r h.0, λ once. (none_number_twice r once, tt))

pub keys_are : (r : Rows) → HaveTheirColumns r → AllPass (key_tests r) ↔ KeysStandOnce r
keys_are r long = (
  λ h. keys_from r h.0 h.1.0 h.1.1.0,
  λ keys. (
    none_pair_twice AccessInfo r.accesses (omega arith) long.accesses keys.accesses,
    (
      none_pair_twice SpecialFacility r.facilities (omega arith) long.facilities keys.facilities,
      (none_triple_twice CallForwarding r.forwardings (omega arith) long.forwardings keys.forwardings, tt),
    ),
  ),
)

pub parents_are : (r : Rows) → AllPass (parent_tests r) ↔ ParentsStand r
parents_are r = (
  λ h. record {
    accesses = parents_from 1 2 r.subscribers r.accesses h.0;
    facilities = parents_from 1 2 r.subscribers r.facilities h.1.0;
    forwardings = parents_from 2 3 r.facilities r.forwardings h.1.1.0;
  },
  λ stand. (
    none_orphan 1 2 r.subscribers r.accesses stand.accesses,
    (none_orphan 1 2 r.subscribers r.facilities stand.facilities, (none_orphan 2 3 r.facilities r.forwardings stand.forwardings, tt)),
  ),
)

pub values_are : (r : Rows) → AllPass (value_tests r) ↔ ValuesFit r
values_are r = (
  λ h. record {
    subscribers = each_right (is_row Subscriber) (place_outside Subscriber) r.subscribers h.0;
    accesses = each_right (is_row AccessInfo) (place_outside AccessInfo) r.accesses h.1.0;
    facilities = each_right (is_row SpecialFacility) (place_outside SpecialFacility) r.facilities h.1.1.0;
    forwardings = each_right (is_row CallForwarding) (place_outside CallForwarding) r.forwardings h.1.1.1.0;
  },
  λ fit. (
    none_wrong (is_row Subscriber) (place_outside Subscriber) r.subscribers fit.subscribers,
    (
      none_wrong (is_row AccessInfo) (place_outside AccessInfo) r.accesses fit.accesses,
      (
        none_wrong (is_row SpecialFacility) (place_outside SpecialFacility) r.facilities fit.facilities,
        (none_wrong (is_row CallForwarding) (place_outside CallForwarding) r.forwardings fit.forwardings, tt),
      ),
    ),
  ),
)

-- no key is miscounted in one of the three ways where none is short or long
parts_counted : (r : Rows) → NoneFails (is_short_or_long r)
    → NoneFails (is_miscounted 1 1 4 r.accesses r.subscribers) × NoneFails (is_miscounted 1 1 4 r.facilities r.subscribers) × NoneFails (is_miscounted 2 0 3 r.forwardings r.facilities)
parts_counted r h =
    let parts = λ (k : Tuple). neither (is_miscounted 1 1 4 r.accesses r.subscribers k) (is_miscounted 1 1 4 r.facilities r.subscribers k) (is_miscounted 2 0 3 r.forwardings r.facilities k) (h k) in
    (λ k. (parts k).0, λ k. (parts k).1, λ k. (parts k).2)

none_counted : (r : Rows) → CountsFit r → NoneFails (is_short_or_long r)
none_counted r fit k = λ i. none_miscounted 1 1 4 r.accesses r.subscribers fit.accesses k i
    || none_miscounted 1 1 4 r.facilities r.subscribers fit.facilities k i
    || none_miscounted 2 0 3 r.forwardings r.facilities fit.forwardings k i

pub counts_are : (r : Rows) → AllPass (count_tests r) ↔ CountsFit r
counts_are r = (
  λ h. let none = parts_counted r h.0 in record {
    accesses = counts_from 1 1 4 r.accesses r.subscribers none.0;
    facilities = counts_from 1 1 4 r.facilities r.subscribers none.1;
    forwardings = counts_from 2 0 3 r.forwardings r.facilities none.2;
  },
  λ fit. (none_counted r fit, tt),
)

-- ---- all six
both_pass : (first second : List Test) → AllPass first → AllPass second → AllPass (first ++ second)
both_pass [] second a b = b
both_pass (t ∷ first) second a b = (a.0, both_pass first second a.1 b)

each_passes : (first second : List Test) → AllPass (first ++ second) → AllPass first × AllPass second
each_passes [] second h = (tt, h)
each_passes (t ∷ first) second h = let more = each_passes first second h.1 in ((h.0, more.0), more.1)

-- rows whose values fit have their table's columns
columns_of_rows : (t : Table) (rows : List Tuple) → All (λ row. is_row t row ≡ true) rows → All (λ row. length row ≡ column_count t) rows
columns_of_rows t rows fit = λ j d h.
    let e : (length (slice_index_or rows j d) == column_count t) ≡ true = (and_parts (length (slice_index_or rows j d) == column_count t) _ (fit j d h)).0 in
    grind (arith, nat_tests)

have_their_columns : (r : Rows) → ValuesFit r → HaveTheirColumns r
have_their_columns r fit = record {
  accesses = columns_of_rows AccessInfo r.accesses fit.accesses;
  facilities = columns_of_rows SpecialFacility r.facilities fit.facilities;
  forwardings = columns_of_rows CallForwarding r.forwardings fit.forwardings;
}

pub clean_from : (r : Rows) → AllPass (tests r) → IsClean r
clean_from r h =
    let ids = each_passes (id_tests r) (number_tests r ++ (key_tests r ++ (parent_tests r ++ (value_tests r ++ count_tests r)))) h in
    let numbers = each_passes (number_tests r) (key_tests r ++ (parent_tests r ++ (value_tests r ++ count_tests r))) ids.1 in
    let keys = each_passes (key_tests r) (parent_tests r ++ (value_tests r ++ count_tests r)) numbers.1 in
    let parents = each_passes (parent_tests r) (value_tests r ++ count_tests r) keys.1 in
    let values = each_passes (value_tests r) (count_tests r) parents.1 in
    let fit = (values_are r).0 values.0 in
    record {
      ids = (ids_are r).0 ids.0;
      numbers = (numbers_are r).0 numbers.0;
      keys = (keys_are r (have_their_columns r fit)).0 keys.0;
      parents = (parents_are r).0 parents.0;
      values = fit;
      counts = (counts_are r).0 values.1;
    }

pub pass_from : (r : Rows) → IsClean r → AllPass (tests r)
pass_from r clean =
    both_pass (id_tests r) (number_tests r ++ (key_tests r ++ (parent_tests r ++ (value_tests r ++ count_tests r)))) ((ids_are r).1 clean.ids)
    (both_pass (number_tests r) (key_tests r ++ (parent_tests r ++ (value_tests r ++ count_tests r))) ((numbers_are r).1 clean.numbers)
    (both_pass (key_tests r) (parent_tests r ++ (value_tests r ++ count_tests r)) ((keys_are r (have_their_columns r clean.values)).1 clean.keys)
    (both_pass (parent_tests r) (value_tests r ++ count_tests r) ((parents_are r).1 clean.parents)
    (both_pass (value_tests r) (count_tests r) ((values_are r).1 clean.values) ((counts_are r).1 clean.counts)))))
