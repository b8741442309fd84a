-- Changes of one row leave a database consistent, and each key the subscriber that it names.
use Rattle.std.specs.Prelude.{◌≡◌, ℕ, ◌+◌, ◌≤◌, Bool, true, false, [], ◌∷◌, ◌==◌, take, Some, None, find, is_some, slice_index, slice_set}
use Rattle.std.specs.Option.{option_map}
use Rattle.std.proofs.Common.{refl, sym, ap, ◌∙◌, ◌≢◌, arith, get_or-set_other}
use Rattle.std.proofs.lemmas.Bool.{eqb-true, both_ways}
use Rattle.std.proofs.lemmas.List.{take-set-le}
use Rattle.tatp_tables.specs.Tuples.{Tuple, Tuples, rows_of, same, has, insert_row, remove_row, replace_row}
use Rattle.tatp_tables.specs.Keys.{has_key, has_number}
use Rattle.tatp_tables.specs.Columns.{key_length}
use Rattle.tatp_tables.specs.Domains.{is_in_domain, is_row}
use Rattle.tatp_tables.specs.Database.{Database, in_table, with_table}
use Rattle.tatp_tables.specs.Keys.{row_at}
use Rattle.tatp_tables.specs.declared.table.Table.{Table}
use Rattle.tatp_tables.specs.declared.table.Table.TheVariants.{Subscriber, SpecialFacility, CallForwarding}
use Rattle.tatp_tables.proofs.TupleLaws.{same_is, same_itself, has-rows_of}
use Rattle.tatp_tables.proofs.FindLaws.{found_in, none_in, not_found}
use Rattle.tatp_tables.proofs.KeyLaws.{UniqueIn, key_is, has_key-alike, has-found, each-insert_row, has-from_remove_row, has-inserted, has-insert_row_there, has-remove_row_other, gone, UniqueIn-replace_row, UniqueIn-insert_new, UniqueIn-remove_row, Covers-replaced, Covers-replace_row}
use Rattle.tatp_tables.proofs.FindLaws.{found_passes}
use Rattle.tatp_homes.proofs.HomeLaws.{each_table, ParentsExist-covered}
use Rattle.tatp_homes.proofs.ChangeLaws.{is_row-set}
use Rattle.tatp_numbers.specs.declared.key.Key.{Key}
use Rattle.tatp_numbers.specs.declared.key.Key.TheVariants.{Id, Number}
use Rattle.tatp_numbers.specs.Homes.{s_id_of, home_of_key}
use Rattle.tatp_procs.specs.Consistent.{IsConsistent, NumbersAreUnique}

-- what a transaction owes to the database that it finds
pub record Kept (u after : Database) : Type 0 where
  pub consistent : IsConsistent after
  pub keys : (key : Key) → home_of_key after.subscribers key ≡ home_of_key u.subscribers key

pub Kept-same : (u : Database) → IsConsistent u → Kept u u
Kept-same u is = record { consistent = is; keys = λ key. refl }

Kept-then : (u between after : Database) → Kept u between → Kept between after → Kept u after
Kept-then u between after first second = record { consistent = second.consistent; keys = λ key. second.keys key ∙ first.keys key }

-- ---- a row that keeps its key may change
NumbersAreUnique-replace : (v : Tuples) (row new : Tuple) → has v row ≡ true → slice_index new 1 ≡ slice_index row 1 → NumbersAreUnique v → NumbersAreUnique (replace_row v row new)
NumbersAreUnique-replace v row new is_in alike unique a b ha hb =
    let rest = remove_row v row in
    let only : (q : Tuple) → has rest q ≡ true → slice_index new 1 ≡ slice_index q 1 → new ≡ q =
    λ q hq e. absurd (gone v row q hq (unique row q is_in (has-from_remove_row v row q hq) (sym alike ∙ e))) in
    each-insert_row (λ x. slice_index x 1 ≡ slice_index b 1 → x ≡ b) rest new
    (each-insert_row (λ y. slice_index new 1 ≡ slice_index y 1 → new ≡ y) rest new (λ _. refl) only b hb)
    (λ q hq. each-insert_row (λ y. slice_index q 1 ≡ slice_index y 1 → q ≡ y) rest new (λ e. sym (only q hq (sym e)))
    (λ r hr. unique q r (has-from_remove_row v row q hq) (has-from_remove_row v row r hr)) b hb) a ha

IsConsistent-replace : (u : Database) (t : Table) (row new : Tuple) → has (in_table t u) row ≡ true → take (key_length t) new ≡ take (key_length t) row → is_row t new ≡ true
    → NumbersAreUnique (with_table t u (replace_row (in_table t u) row new)).subscribers → IsConsistent u → IsConsistent (with_table t u (replace_row (in_table t u) row new))
IsConsistent-replace u t row new is_in alike fits numbers is =
    let v = in_table t u in
    record {
      keys = each_table (λ t v. UniqueIn (key_length t) v) t u (replace_row v row new) (UniqueIn-replace_row (key_length t) v row new is_in alike (is.keys t)) is.keys;
      numbers = numbers;
      parents = ParentsExist-covered t u (replace_row v row new) (Covers-replaced (key_length t) v row new alike) (Covers-replace_row (key_length t) v row new is_in alike) is.parents;
      rows = each_table (λ t v. (q : Tuple) → has v q ≡ true → is_row t q ≡ true) t u (replace_row v row new)
          (each-insert_row (λ q. is_row t q ≡ true) (remove_row v row) new fits (λ q h. is.rows t q (has-from_remove_row v row q h))) is.rows;
    }

-- ---- keys
-- a test that at most one row of the set passes
abbrev PassedOnce : (Tuple → Bool) → Tuples → Type 0
PassedOnce p v = (row other : Tuple) → has v row ≡ true → has v other ≡ true → p row ≡ true → p other ≡ true → row ≡ other

no_other : (p : Tuple → Bool) (v : Tuples) (row new : Tuple) → p new ≡ p row → find p (rows_of v) ≡ None → has v row ≡ true → find p (rows_of (replace_row v row new)) ≡ None
no_other p v row new alike e is_in =
    let none : (q : Tuple) → has v q ≡ true → p q ≡ false = λ q hq. not_found p (rows_of v) q e (sym (has-rows_of v q) ∙ hq) in
    none_in p (replace_row v row new) (each-insert_row (λ q. p q ≡ false) (remove_row v row) new (alike ∙ none row is_in) (λ q hq. none q (has-from_remove_row v row q hq)))

-- the row that was found is the one that is replaced
finds_new : (p : Tuple → Bool) (v : Tuples) (row new : Tuple) → has v row ≡ true → p new ≡ p row → PassedOnce p v → p row ≡ true → find p (rows_of (replace_row v row new)) ≡ Some new
finds_new p v row new is_in alike once passes =
    let rest = remove_row v row in
    found_in p (replace_row v row new) new (has-inserted rest new) (alike ∙ passes)
    (each-insert_row (λ q. p q ≡ true → q ≡ new) rest new (λ _. refl)
    (λ q hq pq. absurd (gone v row q hq (once row q is_in (has-from_remove_row v row q hq) passes pq))))

-- it is another
finds_other : (p : Tuple → Bool) (v : Tuples) (row new found : Tuple) → has v row ≡ true → p new ≡ p row → PassedOnce p v → has v found ≡ true → p found ≡ true → same found row ≡ false
    → find p (rows_of (replace_row v row new)) ≡ Some found
finds_other p v row new found is_in alike once there passes apart =
    let rest = remove_row v row in
    found_in p (replace_row v row new) found (has-insert_row_there rest new found (has-remove_row_other v row found there apart)) passes
    (each-insert_row (λ q. p q ≡ true → q ≡ found) rest new
    (λ pn. absurd (both_ways (same found row) apart (ap (λ r. same found r) (once row found is_in there (sym alike ∙ pn) passes) ∙ same_itself found)))
    (λ q hq pq. once q found (has-from_remove_row v row q hq) there pq passes))

-- a find gives the same s_id, where a row is replaced that passes its test alike and has that s_id
found_alike : (p : Tuple → Bool) (v : Tuples) (row new : Tuple) → has v row ≡ true → p new ≡ p row → slice_index new 0 ≡ slice_index row 0 → PassedOnce p v
    → option_map s_id_of (find p (rows_of (replace_row v row new))) ≡ option_map s_id_of (find p (rows_of v))
found_alike p v row new is_in alike s_id once =
    elim (find p (rows_of v)) as (λ o. find p (rows_of v) ≡ o → option_map s_id_of (find p (rows_of (replace_row v row new))) ≡ option_map s_id_of o) [
      | None ↦ λ e. ap (option_map s_id_of) (no_other p v row new alike e is_in)
      | Some found ↦ λ e.
          let passes = found_passes p (rows_of v) found e in
          elim (same found row) as (λ b. same found row ≡ b → option_map s_id_of (find p (rows_of (replace_row v row new))) ≡ Some (s_id_of found)) [
            | true ↦ λ h. let is = same_is found row h in
                ap (option_map s_id_of) (finds_new p v row new is_in alike once (ap p (sym is) ∙ passes)) ∙ ap Some (s_id ∙ ap s_id_of (sym is))
            | false ↦ λ h. ap (option_map s_id_of) (finds_other p v row new found is_in alike once (has-found p v found e) passes h)
          ] refl
    ] refl

keys_replaced : (u : Database) (row new : Tuple) (key : Key) → IsConsistent u → has u.subscribers row ≡ true → take 1 new ≡ take 1 row → slice_index new 0 ≡ slice_index row 0 → slice_index new 1 ≡ slice_index row 1
    → home_of_key (replace_row u.subscribers row new) key ≡ home_of_key u.subscribers key
keys_replaced u row new (Id s) is is_in front first second = found_alike (has_key (s ∷ [])) u.subscribers row new is_in (has_key-alike 1 (s ∷ []) row new (omega arith) front) first
    (λ a b ha hb pa pb. is.keys Subscriber a b ha hb (key_is (s ∷ []) a pa ∙ sym (key_is (s ∷ []) b pb)))
keys_replaced u row new (Number n) is is_in front first second = found_alike (has_number n) u.subscribers row new is_in (ap (λ m. m == n) second) first
    (λ a b ha hb pa pb. is.numbers a b ha hb (eqb-true (slice_index a 1) n pa ∙ sym (eqb-true (slice_index b 1) n pb)))

-- ---- one change
-- a value of a subscriber, after s_id and number
pub Kept-subscriber : (u : Database) (row : Tuple) (place v : ℕ) → IsConsistent u → has u.subscribers row ≡ true → 2 ≤ place → is_in_domain place v ≡ true
    → Kept u (record u { subscribers = replace_row u.subscribers row (slice_set row place v) })
Kept-subscriber u row place v is is_in le fits =
    let new = slice_set row place v in
    let past_s_id : 0 ≢ place = λ e. omega arith in
    let past_number : 1 ≢ place = λ e. omega arith in
    let first : slice_index new 0 ≡ slice_index row 0 = get_or-set_other row place 0 v 0 past_s_id in
    let second : slice_index new 1 ≡ slice_index row 1 = get_or-set_other row place 1 v 0 past_number in
    let front : take 1 new ≡ take 1 row = take-set-le 1 row place v (omega arith) in
    let zero_more : 0 + place ≡ place = omega arith in
    record {
      consistent = IsConsistent-replace u Subscriber row new is_in front (is_row-set Subscriber row place v (ap (λ c. is_in_domain c v) zero_more ∙ fits) (is.rows Subscriber row is_in)) (NumbersAreUnique-replace u.subscribers row new is_in second is.numbers) is;
      keys = λ key. keys_replaced u row new key is is_in front first second;
    }

-- data_a of a facility
pub Kept-facility : (u : Database) (row : Tuple) (v : ℕ) → IsConsistent u → has u.facilities row ≡ true → is_in_domain 44 v ≡ true → Kept u (record u { facilities = replace_row u.facilities row (slice_set row 4 v) })
Kept-facility u row v is is_in fits =
    let new = slice_set row 4 v in
    record {
      consistent = IsConsistent-replace u SpecialFacility row new is_in (take-set-le 2 row 4 v (omega arith)) (is_row-set SpecialFacility row 4 v fits (is.rows SpecialFacility row is_in)) is.numbers is;
      keys = λ key. refl;
    }

pub Kept-both : (u : Database) (row facility : Tuple) (x y : ℕ) → IsConsistent u → has u.subscribers row ≡ true → has u.facilities facility ≡ true → is_in_domain 2 x ≡ true → is_in_domain 44 y ≡ true
    → Kept u (record u { subscribers = replace_row u.subscribers row (slice_set row 2 x); facilities = replace_row u.facilities facility (slice_set facility 4 y) })
Kept-both u row facility x y is is_in is_in' fits fits' =
    let first = Kept-subscriber u row 2 x is is_in (omega arith) fits in
    Kept-then u _ _ first (Kept-facility _ facility y first.consistent is_in' fits')

-- a forwarding more, whose key none has and whose facility is there
pub Kept-inserted : (u : Database) (row : Tuple) → IsConsistent u → is_row CallForwarding row ≡ true → row_at u.forwardings (take 3 row) ≡ None → is_some (row_at u.facilities (take 2 row)) ≡ true
    → Kept u (record u { forwardings = insert_row u.forwardings row })
Kept-inserted u row is fits none parent =
    let v = u.forwardings in
    record {
      consistent = record {
        keys = each_table (λ t w. UniqueIn (key_length t) w) CallForwarding u (insert_row v row) (UniqueIn-insert_new 3 v row none (is.keys CallForwarding)) is.keys;
        numbers = is.numbers;
        parents = record {
          of_accesses = is.parents.of_accesses;
          of_facilities = is.parents.of_facilities;
          of_forwardings = each-insert_row (λ q. is_some (row_at u.facilities (take 2 q)) ≡ true) v row parent is.parents.of_forwardings;
        };
        rows = each_table (λ t w. (q : Tuple) → has w q ≡ true → is_row t q ≡ true) CallForwarding u (insert_row v row) (each-insert_row (λ q. is_row CallForwarding q ≡ true) v row fits (is.rows CallForwarding)) is.rows;
      };
      keys = λ key. refl;
    }

-- a forwarding less
pub Kept-removed : (u : Database) (row : Tuple) → IsConsistent u → Kept u (record u { forwardings = remove_row u.forwardings row })
Kept-removed u row is =
    let v = u.forwardings in
    record {
      consistent = record {
        keys = each_table (λ t w. UniqueIn (key_length t) w) CallForwarding u (remove_row v row) (UniqueIn-remove_row 3 v row (is.keys CallForwarding)) is.keys;
        numbers = is.numbers;
        parents = record {
          of_accesses = is.parents.of_accesses;
          of_facilities = is.parents.of_facilities;
          of_forwardings = λ q h. is.parents.of_forwardings q (has-from_remove_row v row q h);
        };
        rows = each_table (λ t w. (q : Tuple) → has w q ≡ true → is_row t q ≡ true) CallForwarding u (remove_row v row) (λ q h. is.rows CallForwarding q (has-from_remove_row v row q h)) is.rows;
      };
      keys = λ key. refl;
    }
