-- How often a key stands among sorted keys, and how many rows begin with it.
use Rattle.std.specs.Prelude.{◌≡◌, ◌≢◌, nat_le, ℕ, zero, suc, ◌≤◌, ◌+◌, ◌==◌, nat_eq, Bool, true, false, cond, ◌&&◌, List, [], ◌∷◌, map, take, length, count_by, IsSorted, IsPermutation}
use Rattle.std.specs.List.{AllWithin}
use Rattle.std.specs.List.Sorted.{IsPartitionPoint, IsPartitionedBy}
use Rattle.std.specs.Cmp.Lexicographic.{slice_cmp, nat_list_cmp_total, pointwise, texts_ties}
use Rattle.std.specs.Ordering.{nat_cmp, is_eq, is_lt, is_le, ordering_index}
use Rattle.std.specs.declared.cmp.Ordering.{Ordering}
use Rattle.std.specs.declared.cmp.Ordering.TheVariants.{Less, Equal, Greater}
use Rattle.std.proofs.Common.{refl, sym, ap, ◌∙◌, arith}
use Rattle.std.proofs.lemmas.Bool.Decides.{nat_tests}
use Rattle.std.proofs.lemmas.List.Sums.{sum_by-cons}
use Rattle.std.proofs.lemmas.List.Sorted.{searchable_from_sorted, sum_by-IsPermutation}
use Rattle.tatp_tables.specs.Tuples.{Tuple, same}
use Rattle.tatp_tables.specs.Keys.{has_key}
use Rattle.tatp_tables.specs.Clean.{count_of_key}
use Rattle.tatp_audits.specs.Failing.{times}
use Rattle.tatp_audits.proofs.Order.{same_turned}

-- ---- counts
counts-cons : (p : Tuple → Bool) (x : Tuple) (xs : List Tuple) → count_by p (x ∷ xs) ≡ cond (p x) 1 0 + count_by p xs
counts-cons p x xs = sum_by-cons (λ y. cond (p y) 1 0) x xs

-- counts add up where tests do
counts_add_up : (p q r : Tuple → Bool) → ((x : Tuple) → cond {A = ℕ} (r x) 1 0 ≡ cond (p x) 1 0 + cond (q x) 1 0) → (xs : List Tuple) → count_by r xs ≡ count_by p xs + count_by q xs
counts_add_up p q r h [] = omega arith
counts_add_up p q r h (x ∷ xs) = omega (arith, counts-cons p x xs, counts-cons q x xs, counts-cons r x xs, h x, counts_add_up p q r h xs)

-- what holds up to a place, and then no more, is counted by the place
point_count : (p : Tuple → Bool) (xs : List Tuple) (i : ℕ) → i ≤ length xs → AllWithin (λ y. p y ≡ true) xs 0 i → AllWithin (λ y. p y ≡ false) xs i (length xs) → count_by p xs ≡ i
point_count p [] zero h holds stops = refl
point_count p [] (suc i) h holds stops = absurd (omega arith)
point_count p (x ∷ xs) zero h holds stops =
    let e : p x ≡ false = stops 0 x (omega arith) (omega arith) in
    let f : count_by p xs ≡ 0 = point_count p xs zero (omega arith) (λ k d low high. absurd (omega arith)) (λ k d low high. stops (suc k) d (omega arith) (omega arith)) in
    counts-cons p x xs ∙ ap (λ b. cond b 1 0 + count_by p xs) e ∙ omega arith
point_count p (x ∷ xs) (suc i) h holds stops =
    let e : p x ≡ true = holds 0 x (omega arith) (omega arith) in
    let f : count_by p xs ≡ i = point_count p xs i (omega arith) (λ k d low high. holds (suc k) d (omega arith) (omega arith)) (λ k d low high. stops (suc k) d (omega arith) (omega arith)) in
    counts-cons p x xs ∙ ap (λ b. cond b 1 0 + count_by p xs) e ∙ omega arith

-- ---- a key among sorted keys
rising_le : (o p : Ordering) → ordering_index o ≤ ordering_index p → is_le p ≡ true → is_le o ≡ true
rising_le Less p h e = refl
rising_le Equal p h e = refl
rising_le Greater Less h e = absurd (omega arith)
rising_le Greater Equal h e = absurd (omega arith)
rising_le Greater Greater h e = e

rising_lt : (o p : Ordering) → ordering_index o ≤ ordering_index p → is_lt p ≡ true → is_lt o ≡ true
rising_lt Less p h e = refl
rising_lt Equal Less h e = absurd (omega arith)
rising_lt Equal Equal h e = e
rising_lt Equal Greater h e = e
rising_lt Greater Less h e = absurd (omega arith)
rising_lt Greater Equal h e = e
rising_lt Greater Greater h e = e

pub parted_le : (keys : List Tuple) (k : Tuple) → IsSorted (slice_cmp nat_cmp) keys → IsPartitionedBy (λ y. is_le (slice_cmp nat_cmp y k)) keys
parted_le keys k up = λ i j d le lt h. rising_le _ _ (searchable_from_sorted nat_list_cmp_total (λ y. y) keys k up i j d le lt) h

pub parted_lt : (keys : List Tuple) (k : Tuple) → IsSorted (slice_cmp nat_cmp) keys → IsPartitionedBy (λ y. is_lt (slice_cmp nat_cmp y k)) keys
parted_lt keys k up = λ i j d le lt h. rising_lt _ _ (searchable_from_sorted nat_list_cmp_total (λ y. y) keys k up i j d le lt) h

three_ways : (o : Ordering) → cond {A = ℕ} (is_le o) 1 0 ≡ cond (is_lt o) 1 0 + cond (is_eq o) 1 0
three_ways Less = refl
three_ways Equal = refl
three_ways Greater = refl

pub times_between : (keys : List Tuple) (k : Tuple) (start end : ℕ) → start ≤ length keys → end ≤ length keys
    → IsPartitionPoint (λ y. is_le (slice_cmp nat_cmp y k) ≡ true) (λ y. is_le (slice_cmp nat_cmp y k) ≡ false) keys end
    → IsPartitionPoint (λ y. is_lt (slice_cmp nat_cmp y k) ≡ true) (λ y. is_lt (slice_cmp nat_cmp y k) ≡ false) keys start
    → end ≡ start + times keys k
times_between keys k start end hs he to_end to_start =
    let a : count_by (λ y. is_le (slice_cmp nat_cmp y k)) keys ≡ end = point_count (λ y. is_le (slice_cmp nat_cmp y k)) keys end he to_end.0 to_end.1 in
    let b : count_by (λ y. is_lt (slice_cmp nat_cmp y k)) keys ≡ start = point_count (λ y. is_lt (slice_cmp nat_cmp y k)) keys start hs to_start.0 to_start.1 in
    let c = counts_add_up (λ y. is_lt (slice_cmp nat_cmp y k)) (same k) (λ y. is_le (slice_cmp nat_cmp y k))
    (λ y. three_ways (slice_cmp nat_cmp y k) ∙ ap (λ b. cond (is_lt (slice_cmp nat_cmp y k)) 1 0 + cond b 1 0) (same_turned y k)) keys in
    sym a ∙ c ∙ ap (λ n. n + times keys k) b

-- ---- a key as the front of a row
turned_test : (x k : ℕ) → (x == k) ≡ (k == x)
turned_test x k = grind (arith, nat_tests)

pointwise_front : (n : ℕ) (k row : Tuple) → length k ≡ n → has_key k row ≡ pointwise nat_eq k (take n row)
pointwise_front zero [] row e = refl
pointwise_front zero (x ∷ k) row e = absurd (omega arith)
pointwise_front (suc n) [] row e = absurd (omega arith)
pointwise_front (suc n) (x ∷ k) [] e = refl
pointwise_front (suc n) (x ∷ k) (y ∷ row) e = (λ i. turned_test y x i && pointwise_front n k row (omega arith) i)

pub has_key-same : (n : ℕ) (k row : Tuple) → length k ≡ n → has_key k row ≡ same k (take n row)
has_key-same n k row e = pointwise_front n k row e ∙ texts_ties k (take n row)

pub times_fronts : (n : ℕ) (k : Tuple) (rows : List Tuple) → length k ≡ n → times (map (take n) rows) k ≡ count_of_key k rows
times_fronts n k [] e = refl
times_fronts n k (row ∷ rows) e = counts-cons (same k) (take n row) (map (take n) rows) ∙ (λ i. cond (sym (has_key-same n k row e) i) 1 0 + times_fronts n k rows e i) ∙ sym (counts-cons (has_key k) row rows)

pub times_moved : (keys sorted : List Tuple) (k : Tuple) → IsPermutation keys sorted → times sorted k ≡ times keys k
times_moved keys sorted k moved = sum_by-IsPermutation (λ y. cond (same k y) 1 0) keys sorted moved

-- how often a key stands among sorted fronts is how many rows begin with it
pub key_counted : (n : ℕ) (rows fronts sorted keys : List Tuple) (key : Tuple) (r : ℕ) → IsPermutation fronts sorted → fronts ≡ map (take n) rows → keys ≡ sorted → length key ≡ n
    → r ≡ times keys key → r ≡ count_of_key key rows
key_counted n rows fronts sorted keys key r moved f e l t = t ∙ ap (λ ks. times ks key) e ∙ times_moved fronts sorted key moved ∙ ap (λ ks. times ks key) f ∙ times_fronts n key rows l

pub front_counted : (n : ℕ) (rows fronts sorted keys : List Tuple) (key row : Tuple) (r : ℕ) → IsPermutation fronts sorted → fronts ≡ map (take n) rows → keys ≡ sorted → length key ≡ n → key ≡ take n row
    → r ≡ times keys key → r ≡ count_of_key (take n row) rows
front_counted n rows fronts sorted keys key row r moved f e l is t = key_counted n rows fronts sorted keys key r moved f e l t ∙ ap (λ k. count_of_key k rows) is

pub none_stands : (n c : ℕ) → n ≡ c → n ≡ 0 → nat_le 1 c ≡ false
none_stands n c e z = grind (arith, nat_tests)

pub one_stands : (n c : ℕ) → n ≡ c → n ≢ 0 → nat_le 1 c ≡ true
one_stands n c e z = grind (arith, nat_tests)
