-- Each transaction leaves a consistent database consistent, and each key the subscriber that it names.
use Rattle.std.specs.Prelude.{◌≡◌, ℕ, true, List, [], ◌∷◌, take, Option, Some, None, Ok, is_some, slice_index}
use Rattle.std.specs.Option.{option_map}
use Rattle.std.proofs.Common.{refl, ap, arith}
use Rattle.std.proofs.lemmas.Bool.{and_parts}
use Rattle.tatp_tables.specs.Tuples.{Tuple, has}
use Rattle.tatp_tables.specs.Keys.{row_at, row_with_number}
use Rattle.tatp_tables.specs.Domains.{is_in_domain, are_in_domain, is_row}
use Rattle.tatp_tables.specs.Database.{Database}
use Rattle.tatp_tables.specs.declared.table.Table.TheVariants.{Subscriber, CallForwarding}
use Rattle.tatp_tables.proofs.KeyLaws.{has-found, row_at-has}
use Rattle.tatp_numbers.specs.declared.key.Key.{Key}
use Rattle.tatp_numbers.specs.Homes.{s_id_of, home_of_key}
use Rattle.tatp_calls.specs.declared.call.Call.{Call}
use Rattle.tatp_calls.specs.declared.call.Call.TheVariants.{GetSubscriberData, GetNewDestination, GetAccessData, UpdateSubscriberData, UpdateLocation, InsertCallForwarding, DeleteCallForwarding}
use Rattle.tatp_calls.specs.Arguments.{arguments_accepted, fits_of}
use Rattle.tatp_calls.specs.Transactions.{reads, some_of, destinations, updates_both, updates_location, inserts_under, inserts_for, deletes, deletes_for, transaction}
use Rattle.tatp_procs.specs.Consistent.{IsConsistent}
use Rattle.tatp_procs.proofs.HomeRowLaws.{row_length}
use Rattle.tatp_procs.proofs.ForwardingLaws.{s_id_fits, row_fits}
use Rattle.tatp_procs.proofs.TransactionLaws.{all_fit}
use Rattle.tatp_procs.proofs.KeptLaws.{Kept, Kept-same, Kept-subscriber, Kept-both, Kept-inserted, Kept-removed}

by_reads : (u : Database) (columns : Tuple → List ℕ) (o : Option Tuple) → IsConsistent u → Kept u (reads u columns o).database
by_reads u columns None is = Kept-same u is
by_reads u columns (Some row) is = Kept-same u is

by_some_of : (u : Database) (numbers : List ℕ) → IsConsistent u → Kept u (some_of u numbers).database
by_some_of u [] is = Kept-same u is
by_some_of u (n ∷ more) is = Kept-same u is

by_both : (u : Database) (x y : ℕ) (o o' : Option Tuple) → IsConsistent u → is_in_domain 2 x ≡ true → is_in_domain 44 y ≡ true → ((row : Tuple) → o ≡ Some row → has u.subscribers row ≡ true) → ((row : Tuple) → o' ≡ Some row → has u.facilities row ≡ true)
    → Kept u (updates_both u x y o o').database
by_both u x y None o' is d d' there there' = Kept-same u is
by_both u x y (Some row) None is d d' there there' = Kept-same u is
by_both u x y (Some row) (Some facility) is d d' there there' = Kept-both u row facility x y is (there row refl) (there' facility refl) d d'

by_location : (u : Database) (v : ℕ) (o : Option Tuple) → IsConsistent u → is_in_domain 33 v ≡ true → ((row : Tuple) → o ≡ Some row → has u.subscribers row ≡ true) → Kept u (updates_location u v o).database
by_location u v None is d there = Kept-same u is
by_location u v (Some row) is d there = Kept-subscriber u row 33 v is (there row refl) (omega arith) d

by_insert_under : (u : Database) (row : Tuple) (parent there : Option Tuple) → IsConsistent u → is_row CallForwarding row ≡ true → row_at u.facilities (take 2 row) ≡ parent → row_at u.forwardings (take 3 row) ≡ there
    → Kept u (inserts_under u row parent there).database
by_insert_under u row None there is fits p t = Kept-same u is
by_insert_under u row (Some facility) (Some other) is fits p t = Kept-same u is
by_insert_under u row (Some facility) None is fits p t = Kept-inserted u row is fits t (ap is_some p)

by_insert : (u : Database) (k b e x : ℕ) (o : Option Tuple) → IsConsistent u → ((s : ℕ) → is_in_domain 0 s ≡ true → is_row CallForwarding (s ∷ k ∷ b ∷ e ∷ x ∷ []) ≡ true) → ((row : Tuple) → o ≡ Some row → has u.subscribers row ≡ true)
    → Kept u (inserts_for u k b e x (option_map s_id_of o)).database
by_insert u k b e x None is fits there = Kept-same u is
by_insert u k b e x (Some row) is fits there =
    let s = slice_index row 0 in
    let is_in = there row refl in
    let s_id = s_id_fits row (omega (arith, row_length Subscriber u row is is_in)) (and_parts _ (are_in_domain 0 row) (is.rows Subscriber row is_in)).1 in
    by_insert_under u (s ∷ k ∷ b ∷ e ∷ x ∷ []) (row_at u.facilities (s ∷ k ∷ [])) (row_at u.forwardings (s ∷ k ∷ b ∷ [])) is (fits s s_id) refl refl

by_deletes : (u : Database) (o : Option Tuple) → IsConsistent u → Kept u (deletes u o).database
by_deletes u None is = Kept-same u is
by_deletes u (Some row) is = Kept-removed u row is

by_delete : (u : Database) (k b : ℕ) (home : Option ℕ) → IsConsistent u → Kept u (deletes_for u k b home).database
by_delete u k b None is = Kept-same u is
by_delete u k b (Some s) is = by_deletes u (row_at u.forwardings (s ∷ k ∷ b ∷ [])) is

kept_by : (call : Call) (u : Database) → IsConsistent u → arguments_accepted call ≡ Ok tt → Kept u (transaction call u).database
kept_by (GetSubscriberData s) u is h = by_reads u (λ row. row) (row_at u.subscribers (s ∷ [])) is
kept_by (GetNewDestination s t b e) u is h = by_some_of u (destinations u s t b e) is
kept_by (GetAccessData s t) u is h = by_reads u _ (row_at u.accesses (s ∷ t ∷ [])) is
kept_by (UpdateSubscriberData s x t y) u is h =
    let fits = all_fit 0 (fits_of (UpdateSubscriberData s x t y)) h in
    by_both u x y (row_at u.subscribers (s ∷ [])) (row_at u.facilities (s ∷ t ∷ [])) is fits.1.0 fits.1.1.1.0 (λ row e. row_at-has u.subscribers (s ∷ []) row e) (λ row e. row_at-has u.facilities (s ∷ t ∷ []) row e)
kept_by (UpdateLocation n v) u is h =
    let fits = all_fit 0 (fits_of (UpdateLocation n v)) h in
    by_location u v (row_with_number u.subscribers n) is fits.1.0 (λ row e. has-found _ u.subscribers row e)
kept_by (InsertCallForwarding n t b e x) u is h =
    let fits = all_fit 0 (fits_of (InsertCallForwarding n t b e x)) h in
    by_insert u t b e x (row_with_number u.subscribers n) is (λ s d. row_fits s t b e x d fits.1.0 fits.1.1.0 fits.1.1.1.0 fits.1.1.1.1.0) (λ row e. has-found _ u.subscribers row e)
kept_by (DeleteCallForwarding n t b) u is h = by_delete u t b (option_map s_id_of (row_with_number u.subscribers n)) is

pub consistent_after : (call : Call) (u : Database) → IsConsistent u → arguments_accepted call ≡ Ok tt → IsConsistent (transaction call u).database
consistent_after call u is h = (kept_by call u is h).consistent

pub keys_after : (call : Call) (u : Database) (key : Key) → IsConsistent u → arguments_accepted call ≡ Ok tt → home_of_key (transaction call u).database.subscribers key ≡ home_of_key u.subscribers key
keys_after call u key is h = (kept_by call u is h).keys key
