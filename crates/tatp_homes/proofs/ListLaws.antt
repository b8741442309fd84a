-- Homes in lists of one size: where each stands, and one row more is read into its home.
use Rattle.std.specs.Prelude.{◌≡◌, ◌≢◌, ℕ, ◌+◌, ◌*◌, ◌-◌, ◌/◌, ◌%◌, ◌<◌, ◌≤◌, zero, suc, min, max, List, [], ◌∷◌, ◌++◌, length, map, slice_index, slice_index_or, slice_set}
use Rattle.std.specs.Int.{div_ceil}
use Rattle.std.specs.List.{range_with_len}
use Rattle.std.proofs.Common.{refl, sym, ap, ◌∙◌, arith, inl, inr, zero-add}
use Rattle.std.proofs.Math.Nat.{div-add-mod, div-mul-le_self, mul-le-mul_left, mul-le-mul_right, mul-add, mul-one, div_self, mod_self}
use Rattle.std.proofs.lemmas.Bool.{cases_lt}
use Rattle.std.proofs.lemmas.Nat.{mod_below}
use Rattle.std.proofs.lemmas.Grind.{div_ceil_times}
use Rattle.std.proofs.lemmas.List.{get_or-map, length-append, length-map, map-set, map-append}
use Rattle.std.proofs.lemmas.List.FromFn.{get_or-map-range_with_len, length-map-range_with_len, map-range_with_len_more}
use Rattle.tatp_tables.specs.Tuples.{Tuple, insert_row}
use Rattle.tatp_tables.specs.Rows.{rows_in}
use Rattle.tatp_tables.specs.Database.{Database, no_tables, in_table, of_subscriber}
use Rattle.tatp_homes.specs.Home.{SubscriberRows, home_in, home_with}
use Rattle.tatp_homes.specs.Loading.{read_until, homes_in, list_in, lists_in}
use Rattle.tatp_homes.proofs.LoadingLaws.{map-one, map-same, homes-next, homes-same, length-homes_in}
use Rattle.tatp_homes.proofs.HoldLaws.{IsNext, next_own}
use Rattle.tatp_tables.specs.declared.row.Rows.{Rows}
use Rattle.tatp_tables.specs.declared.table.Table.{Table}

-- the place p of a list that is cut into lists of one size
pub list_of : (p n size : ℕ) → 1 ≤ size → p < n → p / size < div_ceil n size
list_of p n size h lt =
    elim (cases_lt (p / size) (div_ceil n size)) as (λ _. p / size < div_ceil n size) [
      | inl below ↦ below
      | inr past ↦ let long = mul-le-mul_right size past in let all = (div_ceil_times n size h).0 in let share = div-mul-le_self p size in absurd (omega (arith, long, all, share, lt))
    ]

pub place_in_list : (p n size : ℕ) → 1 ≤ size → p < n → p % size < min size (n - size * (p / size))
place_in_list p n size h lt = let share = div-add-mod p size in let below = mod_below p size h in omega (arith, share, below, lt)

-- two lists have no s_id in common
before_next : (q k size : ℕ) → q < k → size * q + size ≤ size * k
before_next q k size lt =
    let long : size * (q + 1) ≤ size * k = mul-le-mul_left size (omega arith) in
    let more : size * (q + 1) ≡ size * q + size = mul-add size q 1 ∙ ap (λ x. size * q + x) (mul-one size) in
    omega (arith, long, more)

apart : (q k size a b : ℕ) → a < size → b < size → size * q + a ≡ size * k + b → q ≡ k
apart q k size a b la lb e =
    elim (cases_lt q k) as (λ _. q ≡ k) [
      | inl below ↦ let no = before_next q k size below in absurd (omega (arith, no, la, lb, e))
      | inr other ↦ elim (cases_lt k q) as (λ _. q ≡ k) [
        | inl above ↦ let no = before_next k q size above in absurd (omega (arith, no, la, lb, e))
        | inr same ↦ omega (arith, other, same)
      ]
    ]

-- where the home of a place stands, in lists of anything that has a list of homes
pub list_within : {V : Type 0} (homes : V → List SubscriberRows) (lists : List V) (u : Database) (size n p : ℕ) → 1 ≤ size → p < n → map homes lists ≡ lists_in u size n → p / size < length lists
list_within homes lists u size n p h lt is =
    let long : length lists ≡ div_ceil n size = sym (length-map lists homes) ∙ ap length is ∙ length-map-range_with_len (list_in u size n) 0 (div_ceil n size) in
    omega (arith, long, list_of p n size h lt)

list_is : {V : Type 0} (homes : V → List SubscriberRows) (lists : List V) (v : V) (u : Database) (size n p : ℕ) → 1 ≤ size → p < n → map homes lists ≡ lists_in u size n
    → homes (slice_index_or lists (p / size) v) ≡ list_in u size n (p / size)
list_is homes lists v u size n p h lt is =
    sym (get_or-map homes lists (p / size) v [] (list_within homes lists u size n p h lt is))
    ∙ ap (λ xs. slice_index_or xs (p / size) []) is
    ∙ get_or-map-range_with_len (list_in u size n) 0 (div_ceil n size) (p / size) (p / size) [] (list_of p n size h lt) (zero-add (p / size))

pub home_within : {V : Type 0} (homes : V → List SubscriberRows) (lists : List V) (v : V) (u : Database) (size n p : ℕ) → 1 ≤ size → p < n → map homes lists ≡ lists_in u size n
    → p % size < length (homes (slice_index_or lists (p / size) v))
home_within homes lists v u size n p h lt is =
    let long = ap length (list_is homes lists v u size n p h lt is) ∙ length-homes_in u (size * (p / size) + 1) (min size (n - size * (p / size))) in
    omega (arith, long, place_in_list p n size h lt)

-- the home at a place
pub home_in_lists : {V : Type 0} (homes : V → List SubscriberRows) (lists : List V) (v : V) (u : Database) (size n p : ℕ) (e : SubscriberRows) → 1 ≤ size → p < n → map homes lists ≡ lists_in u size n
    → slice_index_or (homes (slice_index_or lists (p / size) v)) (p % size) e ≡ home_in u (1 + p)
home_in_lists homes lists v u size n p e h lt is =
    let share = div-add-mod p size in
    let s : size * (p / size) + 1 + p % size ≡ 1 + p = omega (arith, share) in
    ap (λ xs. slice_index_or xs (p % size) e) (list_is homes lists v u size n p h lt is)
    ∙ get_or-map-range_with_len (home_in u) (size * (p / size) + 1) (min size (n - size * (p / size))) (p % size) (1 + p) e (place_in_list p n size h lt) s

-- the lists after the next row: of another list's homes it is none's
other_list : (t : Table) (r : Rows) (i size n p q : ℕ) (row : Tuple) → 1 ≤ size → IsNext t r i row → slice_index row 0 ≡ 1 + p → q ≢ p / size
    → list_in (read_until t r (i + 1)) size n q ≡ list_in (read_until t r i) size n q
other_list t r i size n p q row h next at other =
    homes-same t r i (size * q + 1) (min size (n - size * q)) (1 + p) [] next.more (next_own t r i (1 + p) row next at)
    (λ k lt e. let share = div-add-mod p size in other (apart q (p / size) size k (p % size) (omega (arith, lt)) (mod_below p size h) (omega (arith, share, e))))

pub lists_held : {V : Type 0} (homes : V → List SubscriberRows) (t : Table) (r : Rows) (i size n p : ℕ) (row : Tuple) (lists : List V) (v after : V) (home new : SubscriberRows) → 1 ≤ size → p < n → IsNext t r i row
    → map homes lists ≡ lists_in (read_until t r i) size n → slice_index row 0 ≡ 1 + p → home ≡ home_in (read_until t r i) (1 + p) → new ≡ home_with home t (insert_row (in_table t home.tables) row)
    → homes after ≡ slice_set (homes (slice_index_or lists (p / size) v)) (p % size) new → map homes (slice_set lists (p / size) after) ≡ lists_in (read_until t r (i + 1)) size n
lists_held homes t r i size n p row lists v after home new h lt next is at at_home held put =
    let k = p / size in let j = p % size in let u = read_until t r i in
    let share = div-add-mod p size in
    let s : size * k + 1 + j ≡ 1 + p = omega (arith, share) in
    let own = next_own t r i (size * k + 1 + j) row next (at ∙ sym s) in
    let here : home ≡ home_in u (size * k + 1 + j) = at_home ∙ ap (home_in u) (sym s) in
    let one : new ≡ home_with (home_in u (size * k + 1 + j)) t (insert_row (in_table t (of_subscriber u (size * k + 1 + j))) (slice_index_or (rows_in t r) i [])) =
    held ∙ (λ x. home_with (here x) t (insert_row (in_table t (here x).tables) (next.is x))) in
    map-set homes lists k after
    ∙ (λ x. slice_set (is x) k ((put ∙ (λ y. slice_set (list_is homes lists v u size n p h lt is y) j (one y))) x))
    ∙ ap (slice_set (lists_in u size n) k) (sym (homes-next t r i (size * k + 1) (min size (n - size * k)) j [] next.more (place_in_list p n size h lt) own))
    ∙ ap (λ m. slice_set (lists_in u size n) k (list_in (read_until t r (i + 1)) size n m)) (sym (zero-add k))
    ∙ sym (map-one (list_in u size n) (list_in (read_until t r (i + 1)) size n) 0 (div_ceil n size) k (list_of p n size h lt)
    (λ q other. other_list t r i size n p q row h next at (λ e. other (e ∙ sym (zero-add k)))))

-- a row of no home
pub lists_passed : (t : Table) (r : Rows) (i size n : ℕ) (row : Tuple) (lists : List (List SubscriberRows)) → IsNext t r i row → lists ≡ lists_in (read_until t r i) size n
    → ((p : ℕ) → p < n → 1 + p ≡ slice_index row 0 → ⊥) → lists ≡ lists_in (read_until t r (i + 1)) size n
lists_passed t r i size n row lists next is none =
    is ∙ sym (map-same (list_in (read_until t r i) size n) (list_in (read_until t r (i + 1)) size n) 0 (div_ceil n size)
    (λ q lt. homes-same t r i (size * (0 + q) + 1) (min size (n - size * (0 + q))) (slice_index row 0) [] next.more (next_own t r i (slice_index row 0) row next refl)
    (λ k l e. none (size * (0 + q) + k) (omega (arith, l)) (omega (arith, e)))))

-- all in one list
pub one_list : (u : Database) (n : ℕ) → 1 ≤ n → lists_in u n n ≡ homes_in u 1 n ∷ []
one_list u n h =
    let whole : n / n ≡ 1 = div_self (omega arith) in
    let count : div_ceil n n ≡ 1 = (λ x. whole x + min 1 (mod_self n x)) in
    let first : n * 0 + 1 ≡ 1 = omega arith in
    let long : min n (n - n * 0) ≡ n = omega arith in
    ap (λ m. map (list_in u n n) (range_with_len 0 m)) count ∙ (λ x. homes_in u (first x) (long x) ∷ [])

-- a list more
pub one_list_more : {V : Type 0} (homes : V → List SubscriberRows) (lists : List V) (v : V) (size n k : ℕ) → map homes lists ≡ map (list_in no_tables size n) (range_with_len 0 k) → homes v ≡ list_in no_tables size n k
    → map homes (lists ++ v ∷ []) ≡ map (list_in no_tables size n) (range_with_len 0 (k + 1))
one_list_more homes lists v size n k e h =
    map-append homes lists (v ∷ []) ∙ (λ i. e i ++ h i ∷ []) ∙ sym (map-range_with_len_more (list_in no_tables size n) 0 k k (zero-add k))

-- the only list that there is
single : {V X : Type 0} (f : V → X) (rest : List V) (v : V) (x : X) → map f (rest ++ v ∷ []) ≡ x ∷ [] → f v ≡ x
single f [] v x e = cc
single f (y ∷ more) v x e = absurd (omega (arith, ap length e, length-map (more ++ v ∷ []) f, length-append more (v ∷ [])))

pub last_of_one : {V : Type 0} (homes : V → List SubscriberRows) (rest : List V) (v : V) (u : Database) (n : ℕ) → map homes (rest ++ v ∷ []) ≡ lists_in u (max n 1) n → homes v ≡ homes_in u 1 n
last_of_one homes rest v u zero e = absurd (omega (arith, ap length e, length-map (rest ++ v ∷ []) homes, length-append rest (v ∷ [])))
last_of_one homes rest v u (suc n) e =
    let size : max (suc n) 1 ≡ suc n = omega arith in
    single homes rest v (homes_in u 1 (suc n)) (e ∙ ap (λ s. lists_in u s (suc n)) size ∙ one_list u (suc n) (omega arith))

pub none_of_one : {V : Type 0} (homes : V → List SubscriberRows) (lists : List V) (u : Database) (n : ℕ) → length lists ≡ 0 → map homes lists ≡ lists_in u (max n 1) n → [] ≡ homes_in u 1 n
none_of_one homes lists u zero none e = refl
none_of_one homes lists u (suc n) none e =
    let size : max (suc n) 1 ≡ suc n = omega arith in
    let one : lists_in u (max (suc n) 1) (suc n) ≡ homes_in u 1 (suc n) ∷ [] = ap (λ s. lists_in u s (suc n)) size ∙ one_list u (suc n) (omega arith) in
    absurd (omega (arith, none, length-map lists homes, ap length (e ∙ one)))
