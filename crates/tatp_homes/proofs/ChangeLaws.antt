-- A put, a hold, an insert and a delete leave a home a home.
use Rattle.std.specs.Prelude.{◌≡◌, ℕ, zero, suc, ◌+◌, ◌≤◌, ◌<◌, Bool, true, false, ◌==◌, List, [], ◌∷◌, take, length, Option, Some, None, is_some, slice_set, slice_index}
use Rattle.std.proofs.Common.{refl, sym, ap, subst, ◌∙◌, arith}
use Rattle.std.proofs.lemmas.Bool.Decides.{nat_tests}
use Rattle.std.proofs.lemmas.Bool.{and_parts, and_from, eq-eqb, both_ways}
use Rattle.std.proofs.lemmas.List.{take-set-le, length-set}
use Rattle.tatp_tables.specs.Tuples.{Tuple, has, no_rows, insert_row, remove_row, replace_row}
use Rattle.tatp_tables.specs.Keys.{has_key, row_at}
use Rattle.tatp_tables.specs.Columns.{table_of, first_column, column_count, key_length, place_of, is_fixed}
use Rattle.tatp_tables.specs.Domains.{is_in_domain, are_in_domain, is_row}
use Rattle.tatp_tables.specs.Database.{Database, in_table, with_table, current_row, no_tables}
use Rattle.tatp_homes.specs.Changes.{put_rows, put_tables, parent_of, forwarding_key, insert_answer_at, insert_rows_at, insert_tables, delete_rows, delete_tables}
use Rattle.tatp_homes.specs.Home.{SubscriberRows, home_with, HaveSId, HasParent, ParentsExist, IsHome}
use Rattle.tatp_tables.proofs.TupleLaws.{has-no_rows}
use Rattle.tatp_tables.proofs.KeyLaws.{UniqueIn, has_key-alike, has_key-head, key_heads, first_has_key, take-two, take-three, row_at-has, row_at-key, UniqueIn-remove_row, each-insert_row, has-from_remove_row, UniqueIn-insert_new, UniqueIn-replace_row, Covers-replaced, Covers-replace_row, Covers-insert_row}
use Rattle.tatp_homes.proofs.HomeLaws.{each_table, HaveParents-among, ParentsExist-covered}
use Rattle.tatp_tables.specs.declared.table.Table.{Table}
use Rattle.tatp_tables.specs.declared.table.Table.TheVariants.{Subscriber, AccessInfo, SpecialFacility, CallForwarding}

-- ---- columns
-- a free column stands past its table's key
pub place_past_key : (c : ℕ) → is_fixed c ≡ false → key_length (table_of c) ≤ place_of c
place_past_key c free = grind (arith, nat_tests)

pub column_is : (c : ℕ) → first_column (table_of c) + place_of c ≡ c
column_is c = grind (arith, nat_tests)

pub place_within : (c : ℕ) → c ≤ 50 → place_of c < column_count (table_of c)
place_within c le = grind (arith, nat_tests)

are_in_domain-set : (c : ℕ) (row : Tuple) (i v : ℕ) → are_in_domain c row ≡ true → is_in_domain (c + i) v ≡ true → are_in_domain c (slice_set row i v) ≡ true
are_in_domain-set c [] i v h d = refl
are_in_domain-set c (x ∷ xs) zero v h d = let e : c + 0 ≡ c = omega arith in
    and_from (is_in_domain c v) (are_in_domain (suc c) xs) (subst (λ k. is_in_domain k v ≡ true) e d) (and_parts (is_in_domain c x) (are_in_domain (suc c) xs) h).1
are_in_domain-set c (x ∷ xs) (suc i) v h d =
    let e : c + suc i ≡ suc c + i = omega arith in
    let p = and_parts (is_in_domain c x) (are_in_domain (suc c) xs) h in
    and_from (is_in_domain c x) (are_in_domain (suc c) (slice_set xs i v)) p.0 (are_in_domain-set (suc c) xs i v p.1 (subst (λ k. is_in_domain k v ≡ true) e d))

-- a row with one value set is a row of its table
pub is_row-set : (t : Table) (row : Tuple) (i v : ℕ) → is_in_domain (first_column t + i) v ≡ true → is_row t row ≡ true → is_row t (slice_set row i v) ≡ true
is_row-set t row i v d h =
    let p = and_parts (length row == column_count t) (are_in_domain (first_column t) row) h in
    and_from (length (slice_set row i v) == column_count t) (are_in_domain (first_column t) (slice_set row i v))
    (ap (λ n. n == column_count t) (length-set row i v) ∙ p.0)
    (are_in_domain-set (first_column t) row i v p.1 d)

key_begins : (t : Table) → 1 ≤ key_length t
key_begins Subscriber = omega arith
key_begins AccessInfo = omega arith
key_begins SpecialFacility = omega arith
key_begins CallForwarding = omega arith

pub with_table-in_table : (t : Table) (u : Database) → with_table t u (in_table t u) ≡ u
with_table-in_table Subscriber u = refl
with_table-in_table AccessInfo u = refl
with_table-in_table SpecialFacility u = refl
with_table-in_table CallForwarding u = refl

-- a row that keeps its key may change
pub IsHome-replace : (home : SubscriberRows) (t : Table) (row new : Tuple) → has (in_table t home.tables) row ≡ true → take (key_length t) new ≡ take (key_length t) row → is_row t new ≡ true
    → IsHome home → IsHome (home_with home t (replace_row (in_table t home.tables) row new))
IsHome-replace home t row new is_in alike fits is =
    let u = in_table t home.tables in
    record {
      own = each_table (λ t v. (q : Tuple) → has v q ≡ true → has_key (home.s_id ∷ []) q ≡ true) t home.tables (replace_row u row new)
          (each-insert_row (λ q. has_key (home.s_id ∷ []) q ≡ true) (remove_row u row) new
          (has_key-alike (key_length t) (home.s_id ∷ []) row new (key_begins t) alike ∙ is.own t row is_in)
          (λ q h. is.own t q (has-from_remove_row u row q h)))
          is.own;
      rows = each_table (λ t v. (q : Tuple) → has v q ≡ true → is_row t q ≡ true) t home.tables (replace_row u row new)
          (each-insert_row (λ q. is_row t q ≡ true) (remove_row u row) new fits (λ q h. is.rows t q (has-from_remove_row u row q h)))
          is.rows;
      keys = each_table (λ t v. UniqueIn (key_length t) v) t home.tables (replace_row u row new)
          (UniqueIn-replace_row (key_length t) u row new is_in alike (is.keys t)) is.keys;
      parents = ParentsExist-covered t home.tables (replace_row u row new)
          (Covers-replaced (key_length t) u row new alike) (Covers-replace_row (key_length t) u row new is_in alike) is.parents;
    }

IsHome-same : (home : SubscriberRows) (t : Table) → IsHome home → IsHome (home_with home t (in_table t home.tables))
IsHome-same home t is = subst (λ u. IsHome (record { s_id = home.s_id; tables = u })) (sym (with_table-in_table t home.tables)) is

IsHome-put_rows : (home : SubscriberRows) (t : Table) (place : ℕ) (fits : Bool) (v : ℕ) (o : Option Tuple) → key_length t ≤ place → (fits ≡ true → is_in_domain (first_column t + place) v ≡ true)
    → ((row : Tuple) → o ≡ Some row → has (in_table t home.tables) row ≡ true) → IsHome home → IsHome (home_with home t (put_rows place fits v (in_table t home.tables) o))
IsHome-put_rows home t place fits v None le d is_in is = IsHome-same home t is
IsHome-put_rows home t place false v (Some row) le d is_in is = IsHome-same home t is
IsHome-put_rows home t place true v (Some row) le d is_in is = IsHome-replace home t row (slice_set row place v) (is_in row refl)
    (take-set-le (key_length t) row place v le) (is_row-set t row place v (d refl) (is.rows t row (is_in row refl))) is

-- a put of a free column
pub IsHome-put : (home : SubscriberRows) (c : ℕ) (key : List ℕ) (v : ℕ) → is_fixed c ≡ false → IsHome home
    → IsHome (record { s_id = home.s_id; tables = put_tables home.tables c key v })
IsHome-put home c key v free is = IsHome-put_rows home (table_of c) (place_of c) (is_in_domain c v) v (current_row (table_of c) home.tables key)
    (place_past_key c free) (λ d. ap (λ k. is_in_domain k v) (column_is c) ∙ d) (λ row e. row_at-has (in_table (table_of c) home.tables) (take (key_length (table_of c)) key) row e) is

-- ---- a row more
ParentsExist-insert_row : (t : Table) (u : Database) (row : Tuple) → HasParent t u row → ParentsExist u → ParentsExist (with_table t u (insert_row (in_table t u) row))
ParentsExist-insert_row Subscriber u row h p = record {
  of_accesses = HaveParents-among 1 1 u.subscribers (insert_row u.subscribers row) u.accesses (omega arith) (Covers-insert_row 1 u.subscribers row) p.of_accesses;
  of_facilities = HaveParents-among 1 1 u.subscribers (insert_row u.subscribers row) u.facilities (omega arith) (Covers-insert_row 1 u.subscribers row) p.of_facilities;
  of_forwardings = p.of_forwardings;
}
ParentsExist-insert_row AccessInfo u row h p = record {
  of_accesses = each-insert_row (λ q. is_some (row_at u.subscribers (take 1 q)) ≡ true) u.accesses row h p.of_accesses;
  of_facilities = p.of_facilities;
  of_forwardings = p.of_forwardings;
}
ParentsExist-insert_row SpecialFacility u row h p = record {
  of_accesses = p.of_accesses;
  of_facilities = each-insert_row (λ q. is_some (row_at u.subscribers (take 1 q)) ≡ true) u.facilities row h p.of_facilities;
  of_forwardings = HaveParents-among 2 2 u.facilities (insert_row u.facilities row) u.forwardings (omega arith) (Covers-insert_row 2 u.facilities row) p.of_forwardings;
}
ParentsExist-insert_row CallForwarding u row h p = record {
  of_accesses = p.of_accesses;
  of_facilities = p.of_facilities;
  of_forwardings = each-insert_row (λ q. is_some (row_at u.facilities (take 2 q)) ≡ true) u.forwardings row h p.of_forwardings;
}

-- a row whose key none has, and whose parent is there
pub IsHome-hold : (home : SubscriberRows) (t : Table) (row : Tuple) → is_row t row ≡ true → has_key (home.s_id ∷ []) row ≡ true → row_at (in_table t home.tables) (take (key_length t) row) ≡ None
    → HasParent t home.tables row → IsHome home → IsHome (record { s_id = home.s_id; tables = with_table t home.tables (insert_row (in_table t home.tables) row) })
IsHome-hold home t row fits own none parent is =
    let u = in_table t home.tables in
    record {
      own = each_table (λ t v. (q : Tuple) → has v q ≡ true → has_key (home.s_id ∷ []) q ≡ true) t home.tables (insert_row u row)
          (each-insert_row (λ q. has_key (home.s_id ∷ []) q ≡ true) u row own (is.own t)) is.own;
      rows = each_table (λ t v. (q : Tuple) → has v q ≡ true → is_row t q ≡ true) t home.tables (insert_row u row)
          (each-insert_row (λ q. is_row t q ≡ true) u row fits (is.rows t)) is.rows;
      keys = each_table (λ t v. UniqueIn (key_length t) v) t home.tables (insert_row u row) (UniqueIn-insert_new (key_length t) u row none (is.keys t)) is.keys;
      parents = ParentsExist-insert_row t home.tables row parent is.parents;
    }

-- a row that has a facility has the s_id of the home
pub own-from_parent : (home : SubscriberRows) (row facility : Tuple) → 1 ≤ length row → parent_of home.tables row ≡ Some facility → HaveSId home.s_id home.tables → has_key (home.s_id ∷ []) row ≡ true
own-from_parent home row facility l e own =
    let key : Tuple = slice_index row 0 ∷ slice_index row 1 ∷ [] in
    first_has_key home.s_id row l (key_heads (slice_index row 0) home.s_id facility
    (has_key-head (slice_index row 0) (slice_index row 1 ∷ []) facility (row_at-key home.tables.facilities key facility e))
    (own SpecialFacility facility (row_at-has home.tables.facilities key facility e)))

IsHome-insert_at : (home : SubscriberRows) (row : Tuple) (fits : Bool) (parent there : Option Tuple) → length row ≡ 5 → are_in_domain 46 row ≡ fits → parent_of home.tables row ≡ parent
    → row_at home.tables.forwardings (forwarding_key row) ≡ there → IsHome home → IsHome (home_with home CallForwarding (insert_rows_at home.tables.forwardings row (insert_answer_at fits parent there)))
IsHome-insert_at home row false parent there l d p t is = is
IsHome-insert_at home row true None there l d p t is = is
IsHome-insert_at home row true (Some facility) (Some other) l d p t is = is
IsHome-insert_at home row true (Some facility) None l d p t is = IsHome-hold home CallForwarding row
    (and_from (length row == 5) (are_in_domain 46 row) (eq-eqb (length row) 5 l) d)
    (own-from_parent home row facility (omega arith) p is.own)
    (ap (row_at home.tables.forwardings) (take-three row (omega arith)) ∙ t)
    (ap (λ key. is_some (row_at home.tables.facilities key)) (take-two row (omega arith)) ∙ ap is_some p)
    is

-- an insert of a row of five columns
pub IsHome-insert : (home : SubscriberRows) (row : Tuple) → length row ≡ 5 → IsHome home → IsHome (record { s_id = home.s_id; tables = insert_tables home.tables row })
IsHome-insert home row l is = IsHome-insert_at home row (are_in_domain 46 row) (parent_of home.tables row) (row_at home.tables.forwardings (forwarding_key row)) l refl refl refl is

-- ---- a row less
IsHome-remove : (home : SubscriberRows) (row : Tuple) → IsHome home → IsHome (home_with home CallForwarding (remove_row home.tables.forwardings row))
IsHome-remove home row is =
    let u = home.tables.forwardings in
    record {
      own = each_table (λ t v. (q : Tuple) → has v q ≡ true → has_key (home.s_id ∷ []) q ≡ true) CallForwarding home.tables (remove_row u row)
          (λ q h. is.own CallForwarding q (has-from_remove_row u row q h)) is.own;
      rows = each_table (λ t v. (q : Tuple) → has v q ≡ true → is_row t q ≡ true) CallForwarding home.tables (remove_row u row)
          (λ q h. is.rows CallForwarding q (has-from_remove_row u row q h)) is.rows;
      keys = each_table (λ t v. UniqueIn (key_length t) v) CallForwarding home.tables (remove_row u row) (UniqueIn-remove_row 3 u row (is.keys CallForwarding)) is.keys;
      parents = record {
        of_accesses = is.parents.of_accesses;
        of_facilities = is.parents.of_facilities;
        of_forwardings = λ q h. is.parents.of_forwardings q (has-from_remove_row u row q h);
      };
    }

IsHome-delete_rows : (home : SubscriberRows) (o : Option Tuple) → IsHome home → IsHome (home_with home CallForwarding (delete_rows home.tables.forwardings o))
IsHome-delete_rows home None is = is
IsHome-delete_rows home (Some row) is = IsHome-remove home row is

pub IsHome-delete : (home : SubscriberRows) (key : List ℕ) → IsHome home → IsHome (record { s_id = home.s_id; tables = delete_tables home.tables key })
IsHome-delete home key is = IsHome-delete_rows home (current_row CallForwarding home.tables key) is

-- ---- no row
nothing_there : (A : Type 0) (t : Table) (q : Tuple) → has (in_table t no_tables) q ≡ true → A
nothing_there A Subscriber q h = absurd (both_ways (has no_rows q) (has-no_rows q) h)
nothing_there A AccessInfo q h = absurd (both_ways (has no_rows q) (has-no_rows q) h)
nothing_there A SpecialFacility q h = absurd (both_ways (has no_rows q) (has-no_rows q) h)
nothing_there A CallForwarding q h = absurd (both_ways (has no_rows q) (has-no_rows q) h)

pub IsHome-none : (s : ℕ) → IsHome (record { s_id = s; tables = no_tables })
IsHome-none s = record {
  own = λ t q h. nothing_there _ t q h;
  rows = λ t q h. nothing_there _ t q h;
  keys = λ t q r h k e. nothing_there _ t q h;
  parents = record {
    of_accesses = λ q h. nothing_there _ AccessInfo q h;
    of_facilities = λ q h. nothing_there _ SpecialFacility q h;
    of_forwardings = λ q h. nothing_there _ CallForwarding q h;
  };
}
