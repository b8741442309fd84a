-- Clean rows are rows of the subscribers 1 to their number.
use Rattle.std.specs.Prelude.{◌≡◌, ℕ, zero, suc, ◌-◌, ◌≤◌, ◌<◌, Bool, true, false, ◌||◌, List, [], ◌∷◌, length, take, count_by, All, slice_index}
use Rattle.std.specs.List.{list_any, range_with_len}
use Rattle.std.proofs.Common.{refl, sym, ap, ◌∙◌, arith, subst, inl, inr, get_or}
use Rattle.std.proofs.lemmas.Bool.{cases_lt, false≢true}
use Rattle.std.proofs.lemmas.List.Folds.{list_any_at}
use Rattle.std.proofs.lemmas.List.FromFn.{get_or-range_with_len, length-range_with_len}
use Rattle.tatp_tables.specs.Tuples.{Tuple, has, same}
use Rattle.tatp_tables.specs.Keys.{has_key}
use Rattle.tatp_tables.specs.Rows.{rows_in}
use Rattle.tatp_tables.specs.Clean.{IsClean, count_of_key}
use Rattle.tatp_tables.specs.Database.{database_of, in_table}
use Rattle.tatp_tables.specs.Domains.{is_row}
use Rattle.tatp_tables.specs.declared.row.Rows.{Rows}
use Rattle.tatp_tables.specs.declared.table.Table.{Table}
use Rattle.tatp_tables.specs.declared.table.Table.TheVariants.{Subscriber, AccessInfo, SpecialFacility, CallForwarding}
use Rattle.tatp_tables.proofs.TupleLaws.{same_is, has-set_of}
use Rattle.tatp_tables.proofs.KeyLaws.{heads_equal, has_key-head, first_has_key}
use Rattle.tatp_homes.proofs.UndoLaws.{is_row-length}
use Rattle.tatp_tables.proofs.CountLaws.{one_counted, none_counted}
use Rattle.tatp_homes.proofs.CleanLaws.{row_fits}
use Rattle.tatp_numbers.specs.Lists.{IdsRunToLength}
use Rattle.tatp_numbers.proofs.IdLaws.{no_other_id}
use Rattle.tatp_extents.specs.HomeRows.{AreRowsOf}

-- what holds of each row of a list holds of a row that stands in it
of_each : (P : Tuple → Type 0) (rows : List Tuple) (q : Tuple) → All P rows → list_any (same q) rows ≡ true → P q
of_each P [] q all h = absurd cc
of_each P (row ∷ rows) q all h = elim (same q row) as (λ b. same q row ≡ b → (b || list_any (same q) rows) ≡ true → P q) [
  | true ↦ λ is _. subst P (sym (same_is q row is)) (all 0 row (omega arith))
  | false ↦ λ _ more. of_each P rows q (λ j d lt. all (suc j) d (omega arith)) more
] refl h

counted : (p : Tuple → Bool) (rows : List Tuple) (q : Tuple) → list_any (same q) rows ≡ true → p q ≡ true → 1 ≤ count_by p rows
counted p rows q stands passes = elim (cases_lt 0 (count_by p rows)) [
  | inl lt ↦ lt
  | inr none ↦ absurd (false≢true (sym (none_counted p rows q (omega arith) stands) ∙ passes))
]

-- ---- s_ids of 1 to n
-- a row that begins with an s_id begins with one of 1 to n
abbrev IsWithin : ℕ → Tuple → Type 0
IsWithin n q = (s : ℕ) → has_key (s ∷ []) q ≡ true → (1 ≤ s) × (s ≤ n)

subscriber_within : (rows : List Tuple) (q : Tuple) → IdsRunToLength rows → list_any (same q) rows ≡ true → IsWithin (length rows) q
subscriber_within rows q ids stands = λ s key.
    let one : 1 ≤ count_of_key (s ∷ []) rows = counted (has_key (s ∷ [])) rows q stands key in (
      elim (cases_lt 0 s) [
        | inl lt ↦ lt
        | inr le ↦ absurd (let none = no_other_id rows s ids (λ m. absurd (omega (arith, m, le))) in omega (arith, one, none))
      ],
      elim (cases_lt (length rows) s) [
        | inl lt ↦ absurd (let none = no_other_id rows s ids (λ _. lt) in omega (arith, one, none))
        | inr le ↦ le
      ],
    )

-- a row's parents begin with its s_id
below : (n m : ℕ) (parents : List Tuple) (q : Tuple) → 1 ≤ m → ((parent : Tuple) → list_any (same parent) parents ≡ true → IsWithin n parent) → 1 ≤ count_of_key (take m q) parents → IsWithin n q
below n zero parents q least all stands = absurd (omega (arith, least))
below n (suc m) parents [] least all stands = λ s key. absurd cc
below n (suc m) parents (x ∷ xs) least all stands = λ s key.
    let parent = one_counted (has_key (x ∷ take m xs)) parents stands in
    all parent.row parent.is_in s (subst (λ k. has_key (k ∷ []) parent.row ≡ true) (heads_equal x s true key) (has_key-head x (take m xs) parent.row parent.passes))

ids_to_length : (r : Rows) → IsClean r → IdsRunToLength r.subscribers
ids_to_length r clean = λ s low high. clean.ids s low (omega (arith, high))

below_subscriber : (r : Rows) (q : Tuple) → IsClean r → 1 ≤ count_of_key (take 1 q) r.subscribers → IsWithin (length r.subscribers) q
below_subscriber r q clean stands = below (length r.subscribers) 1 r.subscribers q (omega arith) (λ parent at. subscriber_within r.subscribers parent (ids_to_length r clean) at) stands

facility_within : (r : Rows) (q : Tuple) → IsClean r → list_any (same q) r.facilities ≡ true → IsWithin (length r.subscribers) q
facility_within r q clean stands = below_subscriber r q clean (of_each (λ row. 1 ≤ count_of_key (take 1 row) r.subscribers) r.facilities q clean.parents.facilities stands)

row_within : (r : Rows) (t : Table) (q : Tuple) → IsClean r → list_any (same q) (rows_in t r) ≡ true → IsWithin (length r.subscribers) q
row_within r Subscriber q clean stands = subscriber_within r.subscribers q (ids_to_length r clean) stands
row_within r AccessInfo q clean stands = below_subscriber r q clean (of_each (λ row. 1 ≤ count_of_key (take 1 row) r.subscribers) r.accesses q clean.parents.accesses stands)
row_within r SpecialFacility q clean stands = facility_within r q clean stands
row_within r CallForwarding q clean stands = below (length r.subscribers) 2 r.facilities q (omega arith) (λ parent at. facility_within r parent clean at) (of_each (λ row. 1 ≤ count_of_key (take 2 row) r.facilities) r.forwardings q clean.parents.forwardings stands)

-- ---- all rows
stands_in : (r : Rows) (t : Table) (q : Tuple) → has (in_table t (database_of r)) q ≡ list_any (same q) (rows_in t r)
stands_in r Subscriber q = has-set_of r.subscribers q
stands_in r AccessInfo q = has-set_of r.accesses q
stands_in r SpecialFacility q = has-set_of r.facilities q
stands_in r CallForwarding q = has-set_of r.forwardings q

long_enough : (t : Table) (q : Tuple) → is_row t q ≡ true → 1 ≤ length q
long_enough Subscriber q fits = let e = is_row-length Subscriber q fits in omega (arith, e)
long_enough AccessInfo q fits = let e = is_row-length AccessInfo q fits in omega (arith, e)
long_enough SpecialFacility q fits = let e = is_row-length SpecialFacility q fits in omega (arith, e)
long_enough CallForwarding q fits = let e = is_row-length CallForwarding q fits in omega (arith, e)

one_of : (n s : ℕ) (q : Tuple) → has_key (s ∷ []) q ≡ true → 1 ≤ s → s ≤ n → list_any (λ k. has_key (k ∷ []) q) (range_with_len 1 n) ≡ true
one_of n s q key least most =
    let lt : s - 1 < length (range_with_len 1 n) = rw (length-range_with_len 1 n) (omega (arith, least, most)) in
    let at : get_or (range_with_len 1 n) (s - 1) 0 ≡ s = get_or-range_with_len 1 n (s - 1) 0 (omega (arith, least, most)) ∙ omega (arith, least) in
    list_any_at (λ k. has_key (k ∷ []) q) (range_with_len 1 n) (s - 1) 0 lt (ap (λ k. has_key (k ∷ []) q) at ∙ key)

pub rows_of_clean : (r : Rows) → IsClean r → AreRowsOf (range_with_len 1 (length r.subscribers)) (database_of r)
rows_of_clean r clean = λ t q h.
    let stands : list_any (same q) (rows_in t r) ≡ true = sym (stands_in r t q) ∙ h in
    let fits : is_row t q ≡ true = of_each (λ row. is_row t row ≡ true) (rows_in t r) q (λ i d lt. row_fits t r i d clean.values lt) stands in
    let key : has_key (slice_index q 0 ∷ []) q ≡ true = first_has_key (slice_index q 0) q (long_enough t q fits) refl in
    let within = row_within r t q clean stands (slice_index q 0) key in
    one_of (length r.subscribers) (slice_index q 0) q key within.0 within.1
