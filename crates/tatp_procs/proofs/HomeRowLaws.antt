-- The rows of one subscriber in a database: what a find among them gives, and what a change of them is in the database.
use Rattle.std.specs.Prelude.{◌≡◌, ℕ, suc, ◌≤◌, Bool, true, false, cond, ◌&&◌, ◌==◌, ◌||◌, not, List, [], ◌∷◌, take, length, Some, None, find, filter, is_some, slice_index}
use Rattle.std.proofs.Common.{refl, sym, ap, ◌∙◌, arith}
use Rattle.std.proofs.lemmas.Bool.{and_parts, eqb-true}
use Rattle.tatp_tables.specs.Tuples.{Tuple, Tuples, rows_of, same, has, insert_row, remove_row, replace_row}
use Rattle.tatp_tables.specs.Keys.{has_key, has_number, row_at, row_with_number}
use Rattle.tatp_tables.specs.Columns.{first_column, column_count, key_length}
use Rattle.tatp_tables.specs.Domains.{are_in_domain}
use Rattle.tatp_tables.specs.Database.{Database, in_table, rows_with_s_id, of_subscriber}
use Rattle.tatp_homes.specs.Home.{HaveParents}
use Rattle.tatp_tables.specs.declared.table.Table.{Table}
use Rattle.tatp_tables.specs.declared.table.Table.TheVariants.{Subscriber, AccessInfo, SpecialFacility, CallForwarding}
use Rattle.tatp_tables.proofs.TupleLaws.{same_tuples, same_is, rows_of-retain_rows, has-insert_row, has-remove_row}
use Rattle.tatp_tables.proofs.KeyLaws.{has_key-head, heads_equal, first_is, row_at-key, row_at-has, has_key-take, take-alike}
use Rattle.tatp_tables.proofs.FindLaws.{found_in}
use Rattle.tatp_homes.proofs.SubscriberLaws.{has-rows_with_s_id, replaced_rows, has-replaced_rows, in_table-of_subscriber, HaveSId-of_subscriber}
use Rattle.tatp_numbers.specs.declared.key.Key.TheVariants.{Id}
use Rattle.tatp_numbers.specs.Homes.{s_id_of, home_of_key}
use Rattle.std.specs.Option.{option_map}
use Rattle.tatp_procs.specs.Consistent.{IsConsistent}
use Rattle.tatp_procs.proofs.KeepLaws.{AreHome}

-- ---- finds
-- a find of rows that all pass another test is the same among those that pass it
find-filter : (p q : Tuple → Bool) (xs : List Tuple) → ((x : Tuple) → p x ≡ true → q x ≡ true) → find p (filter q xs) ≡ find p xs
find-filter p q [] imply = refl
find-filter p q (x ∷ xs) imply =
    elim (p x) as (λ b. p x ≡ b → find p (cond (q x) (x ∷ filter q xs) (filter q xs)) ≡ cond b (Some x) (find p xs)) [
      | true ↦ λ px. ap (λ b. find p (cond b (x ∷ filter q xs) (filter q xs))) (imply x px) ∙ ap (λ b. cond b (Some x) (find p (filter q xs))) px
      | false ↦ λ px. elim (q x) as (λ c. find p (cond c (x ∷ filter q xs) (filter q xs)) ≡ find p xs) [
        | true ↦ ap (λ b. cond b (Some x) (find p (filter q xs))) px ∙ find-filter p q xs imply
        | false ↦ find-filter p q xs imply
      ]
    ] refl

-- what is found is found where it passes another test
find-kept : (p q : Tuple → Bool) (xs : List Tuple) (row : Tuple) → find p xs ≡ Some row → q row ≡ true → find p (filter q xs) ≡ Some row
find-kept p q [] row e h = e
find-kept p q (x ∷ xs) row e h =
    elim (p x) as (λ b. p x ≡ b → cond b (Some x) (find p xs) ≡ Some row → find p (cond (q x) (x ∷ filter q xs) (filter q xs)) ≡ Some row) [
      | true ↦ λ px f. let is : x ≡ row = cc in
          ap (λ b. find p (cond b (x ∷ filter q xs) (filter q xs))) (ap q is ∙ h) ∙ ap (λ b. cond b (Some x) (find p (filter q xs))) px ∙ f
      | false ↦ λ px f. let rest = find-kept p q xs row f h in
          elim (q x) as (λ c. find p (cond c (x ∷ filter q xs) (filter q xs)) ≡ Some row) [
            | true ↦ ap (λ b. cond b (Some x) (find p (filter q xs))) px ∙ rest
            | false ↦ rest
          ]
    ] refl e

-- by a key of the subscriber
pub row_at-own : (u : Tuples) (s : ℕ) (more : List ℕ) → row_at (rows_with_s_id s u) (s ∷ more) ≡ row_at u (s ∷ more)
row_at-own u s more = ap (find (has_key (s ∷ more))) (rows_of-retain_rows (has_key (s ∷ [])) u) ∙ find-filter (has_key (s ∷ more)) (has_key (s ∷ [])) (rows_of u) (λ x h. has_key-head s more x h)

-- by the subscriber's number
pub row_with_number-own : (u : Tuples) (s n : ℕ) (row : Tuple) → row_with_number u n ≡ Some row → has_key (s ∷ []) row ≡ true → row_with_number (rows_with_s_id s u) n ≡ Some row
row_with_number-own u s n row e own = ap (find (has_number n)) (rows_of-retain_rows (has_key (s ∷ [])) u) ∙ find-kept (has_number n) (has_key (s ∷ [])) (rows_of u) row e own

-- ---- changes
-- by cases on the tests: of others, with the subscriber's rows in which one replaced another
replace_bits : (h u r n : Bool) → (r ≡ true → h ≡ true) → (n ≡ true → h ≡ true) → ((u && not h) || (n || (not r && (u && h)))) ≡ (n || (not r && u))
replace_bits true true r true f g = refl
replace_bits true true true false f g = refl
replace_bits true true false false f g = refl
replace_bits true false r true f g = refl
replace_bits true false true false f g = refl
replace_bits true false false false f g = refl
replace_bits false u true n f g = cc (f refl)
replace_bits false u false true f g = cc (g refl)
replace_bits false true false false f g = refl
replace_bits false false false false f g = refl

pub replaced-replace : (s : ℕ) (u : Tuples) (row new : Tuple) → has_key (s ∷ []) row ≡ true → has_key (s ∷ []) new ≡ true → replaced_rows s u (replace_row (rows_with_s_id s u) row new) ≡ replace_row u row new
replaced-replace s u row new own own' = same_tuples _ _ (λ q.
    has-replaced_rows s u (replace_row (rows_with_s_id s u) row new) q
    ∙ ap (λ b. (has u q && not (has_key (s ∷ []) q)) || b)
    (has-insert_row (remove_row (rows_with_s_id s u) row) new q ∙ ap (λ b. same q new || b) (has-remove_row (rows_with_s_id s u) row q ∙ ap (λ b. not (same q row) && b) (has-rows_with_s_id s u q)))
    ∙ replace_bits (has_key (s ∷ []) q) (has u q) (same q row) (same q new)
    (λ e. ap (has_key (s ∷ [])) (same_is q row e) ∙ own) (λ e. ap (has_key (s ∷ [])) (same_is q new e) ∙ own')
    ∙ sym (has-insert_row (remove_row u row) new q ∙ ap (λ b. same q new || b) (has-remove_row u row q)))

insert_bits : (h u n : Bool) → ((u && not h) || (n || (u && h))) ≡ (n || u)
insert_bits true true true = refl
insert_bits true true false = refl
insert_bits true false true = refl
insert_bits true false false = refl
insert_bits false true true = refl
insert_bits false true false = refl
insert_bits false false true = refl
insert_bits false false false = refl

pub replaced-insert : (s : ℕ) (u : Tuples) (row : Tuple) → replaced_rows s u (insert_row (rows_with_s_id s u) row) ≡ insert_row u row
replaced-insert s u row = same_tuples _ _ (λ q.
    has-replaced_rows s u (insert_row (rows_with_s_id s u) row) q
    ∙ ap (λ b. (has u q && not (has_key (s ∷ []) q)) || b) (has-insert_row (rows_with_s_id s u) row q ∙ ap (λ b. same q row || b) (has-rows_with_s_id s u q))
    ∙ insert_bits (has_key (s ∷ []) q) (has u q) (same q row)
    ∙ sym (has-insert_row u row q))

remove_bits : (h u r : Bool) → (r ≡ true → h ≡ true) → ((u && not h) || (not r && (u && h))) ≡ (not r && u)
remove_bits true true true f = refl
remove_bits true true false f = refl
remove_bits true false true f = refl
remove_bits true false false f = refl
remove_bits false u true f = cc (f refl)
remove_bits false true false f = refl
remove_bits false false false f = refl

pub replaced-remove : (s : ℕ) (u : Tuples) (row : Tuple) → has_key (s ∷ []) row ≡ true → replaced_rows s u (remove_row (rows_with_s_id s u) row) ≡ remove_row u row
replaced-remove s u row own = same_tuples _ _ (λ q.
    has-replaced_rows s u (remove_row (rows_with_s_id s u) row) q
    ∙ ap (λ b. (has u q && not (has_key (s ∷ []) q)) || b) (has-remove_row (rows_with_s_id s u) row q ∙ ap (λ b. not (same q row) && b) (has-rows_with_s_id s u q))
    ∙ remove_bits (has_key (s ∷ []) q) (has u q) (same q row) (λ e. ap (has_key (s ∷ [])) (same_is q row e) ∙ own)
    ∙ sym (has-remove_row u row q))

-- ---- they are a home's rows
own_has : (t : Table) (u : Database) (s : ℕ) (row : Tuple) → has (in_table t (of_subscriber u s)) row ≡ true → has (in_table t u) row ≡ true
own_has t u s row h = (and_parts (has (in_table t u) row) (has_key (s ∷ []) row) (sym (has-rows_with_s_id s (in_table t u) row) ∙ ap (λ v. has v row) (sym (in_table-of_subscriber t u s)) ∙ h)).0

-- the parent of the subscriber's row is the subscriber's
parents_own : (n s : ℕ) (parents rows : Tuples) → HaveParents (suc n) parents rows → HaveParents (suc n) (rows_with_s_id s parents) (rows_with_s_id s rows)
parents_own n s parents rows all [] h = let both = and_parts (has rows []) false (sym (has-rows_with_s_id s rows []) ∙ h) in absurd (cc)
parents_own n s parents rows all (x ∷ xs) h =
    let both = and_parts (has rows (x ∷ xs)) (has_key (s ∷ []) (x ∷ xs)) (sym (has-rows_with_s_id s rows (x ∷ xs)) ∙ h) in
    let own : x ≡ s = heads_equal x s true both.1 in
    ap is_some (ap (λ k. row_at (rows_with_s_id s parents) (k ∷ take n xs)) own ∙ row_at-own parents s (take n xs) ∙ ap (λ k. row_at parents (k ∷ take n xs)) (sym own)) ∙ all (x ∷ xs) both.0

pub AreHome-of_subscriber : (u : Database) (s : ℕ) → IsConsistent u → AreHome s (of_subscriber u s)
AreHome-of_subscriber u s is = record {
  own = HaveSId-of_subscriber u s;
  rows = λ t row h. is.rows t row (own_has t u s row h);
  keys = λ t row other h k e. is.keys t row other (own_has t u s row h) (own_has t u s other k) e;
  parents = record {
    of_accesses = parents_own 0 s u.subscribers u.accesses is.parents.of_accesses;
    of_facilities = parents_own 0 s u.subscribers u.facilities is.parents.of_facilities;
    of_forwardings = parents_own 1 s u.facilities u.forwardings is.parents.of_forwardings;
  };
}

-- ---- keys
-- where a subscriber isn't there, neither are rows that refer to it
no_parent : (parents : Tuples) (s : ℕ) (more : List ℕ) (row : Tuple) → row_at parents (s ∷ []) ≡ None → has_key (s ∷ more) row ≡ true → is_some (row_at parents (take 1 row)) ≡ true → ⊥
no_parent parents s more [] none h there = cc
no_parent parents s more (x ∷ xs) none h there =
    let nothing : false ≡ true = ap is_some (sym none) ∙ ap (λ k. is_some (row_at parents (k ∷ []))) (sym (heads_equal x s (has_key more xs) h)) ∙ there in cc

pub no_child : (parents rows : Tuples) (s : ℕ) (more : List ℕ) → HaveParents 1 parents rows → row_at parents (s ∷ []) ≡ None → row_at rows (s ∷ more) ≡ None
no_child parents rows s more all none =
    elim (row_at rows (s ∷ more)) as (λ o. row_at rows (s ∷ more) ≡ o → o ≡ None) [
      | None ↦ λ e. refl
      | Some row ↦ λ e. absurd (no_parent parents s more row none (row_at-key rows (s ∷ more) row e) (all row (row_at-has rows (s ∷ more) row e)))
    ] refl

-- the key parts of a row that has the key
pub key_parts : (a b : ℕ) (row : Tuple) → has_key (a ∷ b ∷ []) row ≡ true → slice_index row 0 ∷ slice_index row 1 ∷ [] ≡ a ∷ b ∷ []
key_parts a b [] h = cc
key_parts a b (x ∷ []) h = let none : false ≡ true = (and_parts (x == a) false h).1 in cc
key_parts a b (x ∷ y ∷ more) h = λ i. heads_equal x a (has_key (b ∷ []) (y ∷ more)) h i ∷ heads_equal y b true (and_parts (x == a) _ h).1 i ∷ []

pub forwarding_key_parts : (a b c : ℕ) (row : Tuple) → has_key (a ∷ b ∷ c ∷ []) row ≡ true → slice_index row 0 ∷ slice_index row 1 ∷ slice_index row 2 ∷ [] ≡ a ∷ b ∷ c ∷ []
forwarding_key_parts a b c [] h = cc
forwarding_key_parts a b c (x ∷ more) h = λ i. heads_equal x a (has_key (b ∷ c ∷ []) more) h i ∷ key_parts b c more (and_parts (x == a) _ h).1 i

-- the home that an s_id names
pub home_found : (u : Tuples) (s : ℕ) (row : Tuple) → row_at u (s ∷ []) ≡ Some row → home_of_key u (Id s) ≡ Some s
home_found u s row e = ap (option_map s_id_of) e ∙ ap Some (first_is s row (row_at-key u (s ∷ []) row e))

-- how many columns a row has
pub row_length : (t : Table) (u : Database) (row : Tuple) → IsConsistent u → has (in_table t u) row ≡ true → length row ≡ column_count t
row_length t u row is h = eqb-true (length row) (column_count t) (and_parts (length row == column_count t) (are_in_domain (first_column t) row) (is.rows t row h)).0

-- a row is found by its key
pub found_by_key : (t : Table) (u : Database) (row : Tuple) → IsConsistent u → has (in_table t u) row ≡ true → row_at (in_table t u) (take (key_length t) row) ≡ Some row
found_by_key t u row is h = found_in (has_key (take (key_length t) row)) (in_table t u) row h (has_key-take (key_length t) row)
    (λ other k keyed. is.keys t other row k h (take-alike (key_length t) row other (long t (row_length t u row is h)) keyed))
  where
    long : (t : Table) → length row ≡ column_count t → key_length t ≤ length row
    long Subscriber e = omega (arith, e)
    long AccessInfo e = omega (arith, e)
    long SpecialFacility e = omega (arith, e)
    long CallForwarding e = omega (arith, e)
