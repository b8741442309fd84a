-- Clean rows as homes and a directory.
use Rattle.std.proofs.Common.{◌≡◌, ℕ, ◌≤◌, ◌==◌, ◌∙◌, ◌&&◌, sym, ap, subst, true, is_some, List, [], ◌∷◌, length, refl, arith, Option, Some, None, nat_le, leb-true, eqb-true}
use Rattle.std.proofs.lemmas.Bool.{and_from, and_parts, cond-true, le-leb}
use Rattle.std.proofs.lemmas.List.FromFn.{length-map-range_with_len}
use Rattle.std.proofs.lemmas.Option.{none-some, same_Some, cond_some}
use Rattle.std.specs.Option.{option_map}
use Rattle.tatp_tables.specs.Tuples.{Tuple, set_of, has}
use Rattle.tatp_tables.specs.Keys.{has_key, has_number, row_at, row_with_number}
use Rattle.tatp_tables.specs.Columns.{column_count, first_column}
use Rattle.tatp_tables.specs.Domains.{are_in_domain}
use Rattle.tatp_tables.specs.Database.{Database, database_of}
use Rattle.tatp_tables.specs.declared.row.Rows.{Rows}
use Rattle.tatp_tables.specs.declared.table.Table.TheVariants.{Subscriber}
use Rattle.tatp_tables.proofs.KeyLaws.{first_is, first_has_key, has-found, row_at-some, row_at-key}
use Rattle.tatp_homes.specs.Home.{SubscriberRows, home_in}
use Rattle.tatp_homes.specs.Loading.{homes_in}
use Rattle.tatp_numbers.specs.declared.key.Key.{Key}
use Rattle.tatp_numbers.specs.declared.key.Key.TheVariants.{Id, Number}
use Rattle.tatp_numbers.specs.Homes.{s_id_of, home_of_key}
use Rattle.tatp_numbers.specs.Listing.{Listing, answer}
use Rattle.tatp_procs.specs.Consistent.{IsConsistent}
use Rattle.tatp_judge.specs.Searched.{AreHomesOf}
use Rattle.tatp_judge.specs.Population.{IsDirectoryOf, AreRowsOf}

-- ---- homes
pub homes_of_all : (u : Database) (n : ℕ) (homes : List SubscriberRows) → homes ≡ homes_in u 1 n → (length homes ≡ n) × AreHomesOf u homes
homes_of_all u n homes e =
    let long : length homes ≡ n = ap length e ∙ length-map-range_with_len (home_in u) 1 n in
    (long, e ∙ ap (homes_in u 1) (sym long))

-- ---- keys
-- an s_id that is answered is one of those that there are
id_within : (d : Listing) (s t : ℕ) → answer d (Id s) ≡ Some t → (1 ≤ t) × (t ≤ d.count)
id_within d s t h =
    let parts = cond_some (nat_le 1 s && nat_le s d.count) s t h in
    let both = and_parts (nat_le 1 s) (nat_le s d.count) parts.0 in
    subst (λ k. (1 ≤ k) × (k ≤ d.count)) parts.1 (leb-true 1 s both.0, leb-true s d.count both.1)

-- and each of them is
id_answered : (d : Listing) (s : ℕ) → 1 ≤ s → s ≤ d.count → answer d (Id s) ≡ Some s
id_answered d s least most = cond-true (nat_le 1 s && nat_le s d.count) (Some s) None (and_from (nat_le 1 s) (nat_le s d.count) (le-leb 1 s least) (le-leb s d.count most))

-- a row has its s_id
row_has_s_id : (u : Database) (row : Tuple) → IsConsistent u → has u.subscribers row ≡ true → has_key (s_id_of row ∷ []) row ≡ true
row_has_s_id u row is there =
    let columns = and_parts (length row == column_count Subscriber) (are_in_domain (first_column Subscriber) row) (is.rows Subscriber row there) in
    first_has_key (s_id_of row) row (omega (arith, eqb-true (length row) 34 columns.0)) refl

-- so the s_id that a number names is named as an s_id too
named_by_id : (u : Database) (s : ℕ) (found : Option Tuple) → row_at u.subscribers (s ∷ []) ≡ found → is_some found ≡ true → home_of_key u.subscribers (Id s) ≡ Some s
named_by_id u s None e h = absurd cc
named_by_id u s (Some row) e h = ap (option_map s_id_of) e ∙ ap Some (first_is s row (row_at-key u.subscribers (s ∷ []) row e))

named_by_number : (u : Database) (n s : ℕ) (found : Option Tuple) → IsConsistent u → row_with_number u.subscribers n ≡ found → option_map s_id_of found ≡ Some s → home_of_key u.subscribers (Id s) ≡ Some s
named_by_number u n s None is e h = absurd (none-some s h)
named_by_number u n s (Some row) is e h =
    let there = has-found (has_number n) u.subscribers row e in
    let own : s_id_of row ≡ s = same_Some (s_id_of row) s h in
    named_by_id u s (row_at u.subscribers (s ∷ [])) refl (row_at-some u.subscribers (s ∷ []) row there (subst (λ k. has_key (k ∷ []) row ≡ true) own (row_has_s_id u row is there)))

key_within : (u : Database) (d : Listing) → IsConsistent u → ((key : Key) → answer d key ≡ home_of_key u.subscribers key) → (key : Key) (s : ℕ) → answer d key ≡ Some s → (1 ≤ s) × (s ≤ d.count)
key_within u d is keys (Id t) s h = id_within d t s h
key_within u d is keys (Number n) s h =
    id_within d s s (keys (Id s) ∙ named_by_number u n s (row_with_number u.subscribers n) is refl (sym (keys (Number n)) ∙ h))

pub directory_of : (u : Database) (d : Listing) (n : ℕ) → IsConsistent u → d.count ≡ n → ((key : Key) → answer d key ≡ home_of_key u.subscribers key) → IsDirectoryOf u n d
directory_of u d n is count keys = record {
  keys = keys;
  named = λ key s h. subst (λ k. (1 ≤ s) × (s ≤ k)) count (key_within u d is keys key s h);
  each = λ s least most. id_answered d s least (omega (arith, most, count));
}

pub rows_of_clean : (r : Rows) (homes : List SubscriberRows) (d : Listing) → IsConsistent (database_of r) → homes ≡ homes_in (database_of r) 1 (length r.subscribers) → d.count ≡ length r.subscribers → ((key : Key) → answer d key ≡ home_of_key (set_of r.subscribers) key)
    → AreRowsOf (database_of r) homes d
rows_of_clean r homes d is h count keys =
    let all = homes_of_all (database_of r) (length r.subscribers) homes h in
    record { consistent = is; homes_are = all.1; directory_is = directory_of (database_of r) d (length homes) is (count ∙ sym all.0) keys }
