-- Each change is undone by another: a put by a put of the value before, an insert by a delete, a delete by an insert.
use Rattle.std.specs.Prelude.{◌≡◌, ℕ, zero, suc, ◌+◌, ◌≤◌, ◌<◌, Bool, true, false, ◌&&◌, ◌||◌, ◌==◌, not, List, [], ◌∷◌, take, length, Option, Some, None, Ok, is_some, slice_set, slice_index}
use Rattle.std.proofs.Common.{refl, sym, ap, subst, ◌∙◌, arith}
use Rattle.std.proofs.lemmas.Bool.{and_parts, both_ways, eqb-true, false_from_ne_true}
use Rattle.std.proofs.lemmas.List.{take-set-le, set-set, set-get_or}
use Rattle.tatp_tables.specs.Tuples.{Tuple, Tuples, same, has, insert_row, remove_row, replace_row}
use Rattle.tatp_tables.specs.Keys.{has_key, row_at}
use Rattle.tatp_tables.specs.Columns.{table_of, first_column, column_count, key_length, place_of, is_fixed}
use Rattle.tatp_tables.specs.Domains.{is_in_domain, are_in_domain, is_row}
use Rattle.tatp_tables.specs.Database.{Database, in_table, with_table, current_row}
use Rattle.tatp_homes.specs.Changes.{put_answer_at, put_answer, put_rows, put_tables, parent_of, forwarding_key, insert_answer_at, insert_answer, insert_rows_at, insert_tables, delete_answer_at, delete_answer, delete_rows, delete_tables}
use Rattle.tatp_homes.specs.Home.{SubscriberRows, IsHome}
use Rattle.tatp_tables.proofs.TupleLaws.{same_tuples, same_is, same_itself, has-insert_row, has-remove_row}
use Rattle.tatp_tables.proofs.FindLaws.{found_in, none_in}
use Rattle.tatp_tables.proofs.KeyLaws.{UniqueIn, has_key-take, has_key-alike, key_is, take-alike, take-two, take-three, length-take-is, length-take-le, row_at-has, row_at-key, row_at-none, has-inserted, has-from_remove_row, each-insert_row, gone, UniqueIn-replace_row}
use Rattle.tatp_homes.proofs.HomeLaws.{in_table-with_table}
use Rattle.tatp_homes.proofs.ChangeLaws.{place_past_key, column_is, place_within, with_table-in_table}
use Rattle.tatp_tables.specs.declared.table.Table.{Table}
use Rattle.tatp_tables.specs.declared.table.Table.TheVariants.{Subscriber, AccessInfo, SpecialFacility, CallForwarding}

-- ---- sets: by cases on the tests
replaced_bits : (r n h : Bool) → (r ≡ true → h ≡ true) → (n ≡ true → h ≡ true → r ≡ true) → (r || (not n && (n || (not r && h)))) ≡ h
replaced_bits true n h f g = sym (f refl)
replaced_bits false true true f g = cc (g refl refl)
replaced_bits false true false f g = refl
replaced_bits false false h f g = refl

-- a row put back in the place of the one that took its place
pub replace_row-back : (n : ℕ) (u : Tuples) (row new : Tuple) → has u row ≡ true → take n new ≡ take n row → UniqueIn n u → replace_row (replace_row u row new) new row ≡ u
replace_row-back n u row new is_in alike unique = same_tuples _ _ (λ q.
    has-insert_row (remove_row (replace_row u row new) new) row q
    ∙ ap (λ b. same q row || b) (has-remove_row (replace_row u row new) new q
    ∙ ap (λ b. not (same q new) && b) (has-insert_row (remove_row u row) new q
    ∙ ap (λ b. same q new || b) (has-remove_row u row q)))
    ∙ replaced_bits (same q row) (same q new) (has u q)
    (λ e. ap (has u) (same_is q row e) ∙ is_in)
    (λ e h. let is : q ≡ row = unique q row h is_in (ap (take n) (same_is q new e) ∙ alike) in ap (λ r. same r row) is ∙ same_itself row))

inserted_bits : (r h : Bool) → (r ≡ true → h ≡ false) → (not r && (r || h)) ≡ h
inserted_bits true h f = sym (f refl)
inserted_bits false h f = refl

-- a new row taken out again
pub remove_row-insert_row : (u : Tuples) (row : Tuple) → has u row ≡ false → remove_row (insert_row u row) row ≡ u
remove_row-insert_row u row out = same_tuples _ _ (λ q. has-remove_row (insert_row u row) row q
    ∙ ap (λ b. not (same q row) && b) (has-insert_row u row q)
    ∙ inserted_bits (same q row) (has u q) (λ e. ap (has u) (same_is q row e) ∙ out))

removed_bits : (r h : Bool) → (r ≡ true → h ≡ true) → (r || (not r && h)) ≡ h
removed_bits true h f = sym (f refl)
removed_bits false h f = refl

-- a row put back where it was
pub insert_row-remove_row : (u : Tuples) (row : Tuple) → has u row ≡ true → insert_row (remove_row u row) row ≡ u
insert_row-remove_row u row is_in = same_tuples _ _ (λ q. has-insert_row (remove_row u row) row q
    ∙ ap (λ b. same q row || b) (has-remove_row u row q)
    ∙ removed_bits (same q row) (has u q) (λ e. ap (has u) (same_is q row e) ∙ is_in))

-- ---- a put
pub are_in_domain-at : (c : ℕ) (row : Tuple) (i : ℕ) → are_in_domain c row ≡ true → i < length row → is_in_domain (c + i) (slice_index row i) ≡ true
are_in_domain-at c [] i h lt = absurd (omega arith)
are_in_domain-at c (x ∷ xs) zero h lt = let e : c + 0 ≡ c = omega arith in
    subst (λ k. is_in_domain k x ≡ true) (sym e) (and_parts (is_in_domain c x) (are_in_domain (suc c) xs) h).0
are_in_domain-at c (x ∷ xs) (suc i) h lt = let e : c + suc i ≡ suc c + i = omega arith in
    subst (λ k. is_in_domain k (slice_index xs i) ≡ true) (sym e) (are_in_domain-at (suc c) xs i (and_parts (is_in_domain c x) (are_in_domain (suc c) xs) h).1 (omega arith))

pub is_row-length : (t : Table) (row : Tuple) → is_row t row ≡ true → length row ≡ column_count t
is_row-length t row h = eqb-true (length row) (column_count t) (and_parts (length row == column_count t) (are_in_domain (first_column t) row) h).0

-- the values of a row are in their domains
pub is_row-at : (t : Table) (row : Tuple) (i : ℕ) → is_row t row ≡ true → i < column_count t → is_in_domain (first_column t + i) (slice_index row i) ≡ true
is_row-at t row i h lt = are_in_domain-at (first_column t) row i (and_parts (length row == column_count t) (are_in_domain (first_column t) row) h).1
    (subst (λ n. i < n) (sym (is_row-length t row h)) lt)

-- the only row with a whole key is found by it
pub row_at-only : (n : ℕ) (u : Tuples) (key row : Tuple) → n ≤ length key → has u row ≡ true → has_key (take n key) row ≡ true → UniqueIn n u → row_at u (take n key) ≡ Some row
row_at-only n u key row l is_in keyed unique = found_in (has_key (take n key)) u row is_in keyed
    (λ q hq kq. unique q row hq is_in (whole q kq ∙ sym (whole row keyed)))
  where
    whole : (q : Tuple) → has_key (take n key) q ≡ true → take n q ≡ take n key
    whole q h = ap (λ m. take m q) (sym (length-take-is n key l)) ∙ key_is (take n key) q h

-- in one table, by the row that was found
put_rows-back : (t : Table) (u : Tuples) (place v : ℕ) (key row : Tuple) → key_length t ≤ length key → key_length t ≤ place → place < column_count t
    → UniqueIn (key_length t) u → is_row t row ≡ true → row_at u (take (key_length t) key) ≡ Some row
    → put_rows place (is_in_domain (first_column t + place) (slice_index row place)) (slice_index row place) (replace_row u row (slice_set row place v))
    (row_at (replace_row u row (slice_set row place v)) (take (key_length t) key)) ≡ u
put_rows-back t u place v key row l le lt unique fits e =
    let n = key_length t in
    let new : Tuple = slice_set row place v in
    let is_in : has u row ≡ true = row_at-has u (take n key) row e in
    let alike : take n new ≡ take n row = take-set-le n row place v le in
    let found : row_at (replace_row u row new) (take n key) ≡ Some new = row_at-only n (replace_row u row new) key new l (has-inserted (remove_row u row) new)
    (has_key-alike n (take n key) row new (length-take-le n key) alike ∙ row_at-key u (take n key) row e)
    (UniqueIn-replace_row n u row new is_in alike unique) in
    ap (λ b. put_rows place b (slice_index row place) (replace_row u row new) (row_at (replace_row u row new) (take n key))) (is_row-at t row place fits lt)
    ∙ ap (put_rows place true (slice_index row place) (replace_row u row new)) found
    ∙ ap (replace_row (replace_row u row new) new) (set-set row place v (slice_index row place) ∙ set-get_or row place 0)
    ∙ replace_row-back n u row new is_in alike unique

put_rows-back_at : (t : Table) (u : Tuples) (place v before : ℕ) (key : Tuple) (fits : Bool) (o : Option Tuple) → key_length t ≤ length key → key_length t ≤ place → place < column_count t
    → UniqueIn (key_length t) u → ((row : Tuple) → has u row ≡ true → is_row t row ≡ true) → row_at u (take (key_length t) key) ≡ o → put_answer_at place fits o ≡ Ok before
    → put_rows place (is_in_domain (first_column t + place) before) before (put_rows place fits v u o) (row_at (put_rows place fits v u o) (take (key_length t) key)) ≡ u
put_rows-back_at t u place v before key fits None l le lt unique rows e a = cc
put_rows-back_at t u place v before key false (Some row) l le lt unique rows e a = cc
put_rows-back_at t u place v before key true (Some row) l le lt unique rows e a =
    let was : slice_index row place ≡ before = cc in
    let new : Tuples = replace_row u row (slice_set row place v) in
    ap (λ b. put_rows place (is_in_domain (first_column t + place) b) b new (row_at new (take (key_length t) key))) (sym was)
    ∙ put_rows-back t u place v key row l le lt unique (rows row (row_at-has u (take (key_length t) key) row e)) e

pub with_table-with_table : (t : Table) (u : Database) (v w : Tuples) → with_table t (with_table t u v) w ≡ with_table t u w
with_table-with_table Subscriber u v w = refl
with_table-with_table AccessInfo u v w = refl
with_table-with_table SpecialFacility u v w = refl
with_table-with_table CallForwarding u v w = refl

-- a table changed, and changed back
changed_back : (t : Table) (u : Database) (v : Tuples) (f : Tuples → Tuples) → f v ≡ in_table t u → with_table t (with_table t u v) (f (in_table t (with_table t u v))) ≡ u
changed_back t u v f e = ap (λ w. with_table t (with_table t u v) (f w)) (in_table-with_table t u v) ∙ with_table-with_table t u v (f v) ∙ ap (with_table t u) e ∙ with_table-in_table t u

key_length-le : (t : Table) → key_length t ≤ 3
key_length-le Subscriber = omega arith
key_length-le AccessInfo = omega arith
key_length-le SpecialFacility = omega arith
key_length-le CallForwarding = omega arith

-- a put that was answered, by a put of the value before
pub put-back : (home : SubscriberRows) (c : ℕ) (key : List ℕ) (v before : ℕ) → IsHome home → is_fixed c ≡ false → c ≤ 50 → length key ≡ 3 → put_answer home.tables c key v ≡ Ok before
    → put_tables (put_tables home.tables c key v) c key before ≡ home.tables
put-back home c key v before is free le l a =
    let t = table_of c in
    let u = in_table t home.tables in
    let n = key_length t in
    let back = put_rows-back_at t u (place_of c) v before key (is_in_domain c v) (current_row t home.tables key) (omega (arith, key_length-le t)) (place_past_key c free) (place_within c le)
    (is.keys t) (is.rows t) refl a in
    changed_back t home.tables (put_rows (place_of c) (is_in_domain c v) v u (current_row t home.tables key))
    (λ w. put_rows (place_of c) (is_in_domain c before) before w (row_at w (take n key)))
    (ap (λ k. put_rows (place_of c) (is_in_domain k before) before (put_rows (place_of c) (is_in_domain c v) v u (current_row t home.tables key))
    (row_at (put_rows (place_of c) (is_in_domain c v) v u (current_row t home.tables key)) (take n key))) (sym (column_is c)) ∙ back)

-- ---- an insert
insert_rows_at-back : (u : Tuples) (row : Tuple) (fits : Bool) (parent there : Option Tuple) → length row ≡ 5 → row_at u (forwarding_key row) ≡ there → insert_answer_at fits parent there ≡ Ok tt
    → delete_rows (insert_rows_at u row (insert_answer_at fits parent there)) (row_at (insert_rows_at u row (insert_answer_at fits parent there)) (forwarding_key row)) ≡ u
insert_rows_at-back u row false parent there l e a = cc
insert_rows_at-back u row true None there l e a = cc
insert_rows_at-back u row true (Some facility) (Some other) l e a = cc
insert_rows_at-back u row true (Some facility) None l e a =
    let key : Tuple = forwarding_key row in
    let keyed : has_key key row ≡ true = ap (λ k. has_key k row) (sym (take-three row (omega arith))) ∙ has_key-take 3 row in
    let out : has u row ≡ false = false_from_ne_true (has u row) (λ h. both_ways (has_key key row) (row_at-none u key row e h) keyed) in
    let found : row_at (insert_row u row) key ≡ Some row = found_in (has_key key) (insert_row u row) row (has-inserted u row) keyed
    (each-insert_row (λ q. has_key key q ≡ true → q ≡ row) u row (λ _. refl) (λ q h k. absurd (both_ways (has_key key q) (row_at-none u key q e h) k))) in
    ap (delete_rows (insert_row u row)) found ∙ remove_row-insert_row u row out

-- an insert that was answered, by the delete of its key
pub insert-back : (u : Database) (row : Tuple) → length row ≡ 5 → insert_answer u row ≡ Ok tt → delete_tables (insert_tables u row) (forwarding_key row) ≡ u
insert-back u row l a = ap (with_table CallForwarding u) (insert_rows_at-back u.forwardings row (are_in_domain 46 row) (parent_of u row) (row_at u.forwardings (forwarding_key row)) l refl a)

-- ---- a delete
insert_answer_at-ok : (fits : Bool) (parent there : Option Tuple) → fits ≡ true → is_some parent ≡ true → there ≡ None → insert_answer_at fits parent there ≡ Ok tt
insert_answer_at-ok false parent there f p n = cc
insert_answer_at-ok true None there f p n = cc
insert_answer_at-ok true (Some facility) None f p n = refl
insert_answer_at-ok true (Some facility) (Some other) f p n = cc

-- a row that was deleted can be inserted
insert_answer-remove_row : (home : SubscriberRows) (row : Tuple) → IsHome home → has home.tables.forwardings row ≡ true
    → insert_answer (record home.tables { forwardings = remove_row home.tables.forwardings row }) row ≡ Ok tt
insert_answer-remove_row home row is h =
    let u = home.tables.forwardings in
    let fits = is.rows CallForwarding row h in
    let l : length row ≡ 5 = is_row-length CallForwarding row fits in
    insert_answer_at-ok (are_in_domain 46 row) (parent_of home.tables row) (row_at (remove_row u row) (forwarding_key row))
    (and_parts (length row == 5) (are_in_domain 46 row) fits).1
    (ap (λ key. is_some (row_at home.tables.facilities key)) (sym (take-two row (omega arith))) ∙ is.parents.of_forwardings row h)
    (ap (row_at (remove_row u row)) (sym (take-three row (omega arith)))
    ∙ none_in (has_key (take 3 row)) (remove_row u row) (λ q hq. false_from_ne_true (has_key (take 3 row) q) (λ k.
    gone u row q hq (is.keys CallForwarding row q h (has-from_remove_row u row q hq) (sym (take-alike 3 row q (omega arith) k))))))

delete_rows-back : (home : SubscriberRows) (o : Option Tuple) (row : Tuple) → IsHome home → ((found : Tuple) → o ≡ Some found → has home.tables.forwardings found ≡ true) → delete_answer_at o ≡ Ok row
    → insert_tables (record home.tables { forwardings = delete_rows home.tables.forwardings o }) row ≡ home.tables
delete_rows-back home None row is there a = cc
delete_rows-back home (Some found) row is there a =
    let same_row : found ≡ row = cc in
    let h : has home.tables.forwardings row ≡ true = ap (has home.tables.forwardings) (sym same_row) ∙ there found refl in
    let v : Tuples = remove_row home.tables.forwardings row in
    ap (λ r. insert_tables (record home.tables { forwardings = remove_row home.tables.forwardings r }) row) same_row
    ∙ ap (λ answer. record home.tables { forwardings = insert_rows_at v row answer }) (insert_answer-remove_row home row is h)
    ∙ ap (with_table CallForwarding home.tables) (insert_row-remove_row home.tables.forwardings row h)

-- a delete that was answered, by an insert of the row
pub delete-back : (home : SubscriberRows) (key : List ℕ) (row : Tuple) → IsHome home → delete_answer home.tables key ≡ Ok row → insert_tables (delete_tables home.tables key) row ≡ home.tables
delete-back home key row is a = delete_rows-back home (current_row CallForwarding home.tables key) row is (λ found e. row_at-has home.tables.forwardings (take 3 key) found e) a
