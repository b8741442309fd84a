-- A transaction on a database is the transaction on the rows of its subscriber.
use Rattle.std.specs.Prelude.{◌≡◌, ℕ, Bool, true, false, cond, ◌&&◌, ◌||◌, not, nat_lt, nat_le, List, [], ◌∷◌, map, filter, drop, Option, Some, None, slice_index}
use Rattle.std.specs.Option.{option_map}
use Rattle.std.proofs.Common.{refl, sym, ap, subst, ◌∙◌, arith}
use Rattle.std.proofs.lemmas.Bool.{and_parts, eqb-true, eq-eqb}
use Rattle.tatp_tables.specs.Tuples.{Tuple, Tuples, has, same, rows_of, insert_row, remove_row, replace_row}
use Rattle.tatp_tables.specs.Keys.{has_key, has_number, row_at, row_with_number}
use Rattle.tatp_tables.specs.Database.{Database, rows_with_s_id, of_subscriber}
use Rattle.tatp_tables.proofs.TupleLaws.{same_is, rows_of-retain_rows, has-insert_row, has-remove_row}
use Rattle.tatp_tables.proofs.FindLaws.{found_in, found_passes}
use Rattle.tatp_tables.proofs.KeyLaws.{first_is, has-found, has_key-head, row_at-key}
use Rattle.tatp_homes.proofs.SubscriberLaws.{AreOf, AreOf-rows_with_s_id, HaveSId-of_subscriber, has-rows_with_s_id, with_subscriber-of_subscriber}
use Rattle.tatp_homes.specs.Home.{HaveSId}
use Rattle.tatp_tables.specs.declared.table.Table.TheVariants.{Subscriber, AccessInfo, SpecialFacility, CallForwarding}
use Rattle.tatp_numbers.specs.declared.key.Key.{Key}
use Rattle.tatp_numbers.specs.declared.key.Key.TheVariants.{Id, Number}
use Rattle.tatp_numbers.specs.Homes.{s_id_of, home_of_key}
use Rattle.tatp_calls.specs.declared.call.Call.{Call}
use Rattle.tatp_calls.specs.declared.call.Call.TheVariants.{GetSubscriberData, GetNewDestination, GetAccessData, UpdateSubscriberData, UpdateLocation, InsertCallForwarding, DeleteCallForwarding}
use Rattle.tatp_calls.specs.Calls.{key_of_call}
use Rattle.tatp_calls.specs.Transactions.{transaction, replies, fails, reads, numberx_of, start_time_of, end_time_of, is_active, is_destination, destinations, some_of, updates_both, updates_location, inserts_under, inserts_for, deletes, deletes_for, with_bit_1, with_data_a, with_vlr_location}
use Rattle.tatp_procs.specs.Consistent.{IsConsistent}
use Rattle.tatp_procs.specs.Locality.{with_answer, IsLocal}
use Rattle.tatp_procs.proofs.HomeRowLaws.{row_at-own, no_child}
use Rattle.tatp_procs.proofs.UpdateLaws.{own_of, number_at_home, subscriber_replaced, both_replaced, set_own}
use Rattle.tatp_procs.proofs.ForwardingLaws.{row_inserted, row_removed}
use Rattle.tatp_procs.proofs.DestinationLaws.{nothing_passes}

-- ---- keys
-- an s_id names itself
pub id_names : (v : Tuples) (k s : ℕ) → home_of_key v (Id k) ≡ Some s → k ≡ s
id_names v k s e =
    elim (row_at v (k ∷ [])) as (λ o. row_at v (k ∷ []) ≡ o → option_map s_id_of o ≡ Some s → k ≡ s) [
      | None ↦ λ f h. cc
      | Some row ↦ λ f h. let e : slice_index row 0 ≡ s = cc in sym (first_is k row (row_at-key v (k ∷ []) row f)) ∙ e
    ] refl e

-- the row that a number names, and whose it is
pub record NumberNames (v : Tuples) (n s : ℕ) : Type 0 where
  pub row : Tuple
  pub found : row_with_number v n ≡ Some row
  pub own : slice_index row 0 ≡ s

pub number_names : (v : Tuples) (n s : ℕ) → home_of_key v (Number n) ≡ Some s → NumberNames v n s
number_names v n s e =
    elim (row_with_number v n) as (λ o. row_with_number v n ≡ o → option_map s_id_of o ≡ Some s → NumberNames v n s) [
      | None ↦ λ f h. absurd cc
      | Some row ↦ λ f h. record { row = row; found = f; own = cc }
    ] refl e

-- the number is found among its subscriber's rows
number_own : (u : Database) (n s : ℕ) (named : NumberNames u.subscribers n s) → IsConsistent u → row_with_number (of_subscriber u s).subscribers n ≡ Some named.row
number_own u n s named is = subst (λ k. row_with_number (of_subscriber u k).subscribers n ≡ Some named.row) named.own (number_at_home u n named.row is named.found)

-- a key that names a subscriber names it among that subscriber's rows
pub named_at_home : (u : Database) (s : ℕ) (key : Key) → IsConsistent u → home_of_key u.subscribers key ≡ Some s → home_of_key (of_subscriber u s).subscribers key ≡ Some s
named_at_home u s (Id k) is e = let same = id_names u.subscribers k s e in
    ap (λ j. option_map s_id_of (row_at (rows_with_s_id s u.subscribers) (j ∷ []))) same ∙ ap (option_map s_id_of) (row_at-own u.subscribers s []) ∙ ap (λ j. option_map s_id_of (row_at u.subscribers (j ∷ []))) (sym same) ∙ e
named_at_home u s (Number n) is e = let named = number_names u.subscribers n s e in
    ap (option_map s_id_of) (number_own u n s named is) ∙ ap Some named.own

-- and the other way round
pub named_anywhere : (u : Database) (s : ℕ) (key : Key) → IsConsistent u → home_of_key (of_subscriber u s).subscribers key ≡ Some s → home_of_key u.subscribers key ≡ Some s
named_anywhere u s (Id k) is e = let same = id_names (rows_with_s_id s u.subscribers) k s e in
    ap (λ j. option_map s_id_of (row_at u.subscribers (j ∷ []))) same ∙ ap (option_map s_id_of) (sym (row_at-own u.subscribers s [])) ∙ ap (λ j. option_map s_id_of (row_at (rows_with_s_id s u.subscribers) (j ∷ []))) (sym same) ∙ e
named_anywhere u s (Number n) is e =
    let named = number_names (rows_with_s_id s u.subscribers) n s e in
    let row = named.row in
    let there : has u.subscribers row ≡ true = (and_parts (has u.subscribers row) (has_key (s ∷ []) row) (sym (has-rows_with_s_id s u.subscribers row) ∙ has-found (has_number n) (rows_with_s_id s u.subscribers) row named.found)).0 in
    let numbered : has_number n row ≡ true = found_passes (has_number n) (rows_of (rows_with_s_id s u.subscribers)) row named.found in
    ap (option_map s_id_of) (found_in (has_number n) u.subscribers row there numbered
    (λ other h p. is.numbers other row h there (eqb-true (slice_index other 1) n p ∙ sym (eqb-true (slice_index row 1) n numbered)))) ∙ ap Some named.own

-- ---- answers
fails_local : (u : Database) (s n : ℕ) → fails u n ≡ with_answer u s (fails (of_subscriber u s) n)
fails_local u s n = ap (λ w. fails w n) (sym (with_subscriber-of_subscriber u s))

replies_local : (u : Database) (s : ℕ) (values : List ℕ) → replies u values ≡ with_answer u s (replies (of_subscriber u s) values)
replies_local u s values = ap (λ w. replies w values) (sym (with_subscriber-of_subscriber u s))

reads_local : (u : Database) (s : ℕ) (columns : Tuple → List ℕ) (row : Option Tuple) → reads u columns row ≡ with_answer u s (reads (of_subscriber u s) columns row)
reads_local u s columns None = fails_local u s 1
reads_local u s columns (Some row) = replies_local u s (columns row)

some_local : (u : Database) (s : ℕ) (numbers : List ℕ) → some_of u numbers ≡ with_answer u s (some_of (of_subscriber u s) numbers)
some_local u s [] = fails_local u s 1
some_local u s (n ∷ more) = replies_local u s (n ∷ more)

-- ---- GET_NEW_DESTINATION
-- of rows that pass a test, all of which pass another too
filter-filter : (p q : Tuple → Bool) (xs : List Tuple) → ((x : Tuple) → p x ≡ true → q x ≡ true) → filter p (filter q xs) ≡ filter p xs
filter-filter p q [] imply = refl
filter-filter p q (x ∷ xs) imply =
    elim (p x) as (λ b. p x ≡ b → filter p (cond (q x) (x ∷ filter q xs) (filter q xs)) ≡ cond b (x ∷ filter p xs) (filter p xs)) [
      | true ↦ λ px. ap (λ b. filter p (cond b (x ∷ filter q xs) (filter q xs))) (imply x px) ∙ ap (λ b. cond b (x ∷ filter p (filter q xs)) (filter p (filter q xs))) px ∙ ap (λ ys. x ∷ ys) (filter-filter p q xs imply)
      | false ↦ λ px. elim (q x) as (λ c. filter p (cond c (x ∷ filter q xs) (filter q xs)) ≡ filter p xs) [
        | true ↦ ap (λ b. cond b (x ∷ filter p (filter q xs)) (filter p (filter q xs))) px ∙ filter-filter p q xs imply
        | false ↦ filter-filter p q xs imply
      ]
    ] refl

destinations_own : (u : Database) (s t b e : ℕ) → destinations (of_subscriber u s) s t b e ≡ destinations u s t b e
destinations_own u s t b e =
    ap (λ (o : Option Tuple). map numberx_of (filter (λ cf. has_key (s ∷ t ∷ []) cf && (is_active o && (nat_le (start_time_of cf) b && nat_lt e (end_time_of cf)))) (rows_of (rows_with_s_id s u.forwardings)))) (row_at-own u.facilities s (t ∷ []))
    ∙ ap (λ xs. map numberx_of (filter (is_destination u s t b e) xs)) (rows_of-retain_rows (has_key (s ∷ [])) u.forwardings)
    ∙ ap (map numberx_of) (filter-filter (is_destination u s t b e) (has_key (s ∷ [])) (rows_of u.forwardings) (λ cf h. has_key-head s (t ∷ []) cf (and_parts (has_key (s ∷ t ∷ []) cf) _ h).0))

-- ---- the updates
updates_local : (u : Database) (s x t y : ℕ) (row facility : Option Tuple) → row_at u.subscribers (s ∷ []) ≡ row → row_at u.facilities (s ∷ t ∷ []) ≡ facility
    → updates_both u x y row facility ≡ with_answer u s (updates_both (of_subscriber u s) x y row facility)
updates_local u s x t y None facility f g = fails_local u s 1
updates_local u s x t y (Some row) None f g = fails_local u s 1
updates_local u s x t y (Some row) (Some facility) f g =
    let own = row_at-key u.subscribers (s ∷ []) row f in
    let own' = has_key-head s (t ∷ []) facility (row_at-key u.facilities (s ∷ t ∷ []) facility g) in
    ap (λ w. replies w []) (sym (both_replaced u s row (with_bit_1 row x) facility (with_data_a facility y) own (set_own s 2 x row (omega arith) own) own' (set_own s 4 y facility (omega arith) own')))

inserts_local : (u : Database) (s : ℕ) (row : Tuple) (facility there : Option Tuple) → inserts_under u row facility there ≡ with_answer u s (inserts_under (of_subscriber u s) row facility there)
inserts_local u s row None there = fails_local u s 3
inserts_local u s row (Some facility) (Some there) = fails_local u s 2
inserts_local u s row (Some facility) None = ap (λ w. replies w []) (sym (row_inserted u s row))

deletes_local : (u : Database) (s t b : ℕ) (row : Option Tuple) → row_at u.forwardings (s ∷ t ∷ b ∷ []) ≡ row → deletes u row ≡ with_answer u s (deletes (of_subscriber u s) row)
deletes_local u s t b None f = fails_local u s 1
deletes_local u s t b (Some row) f = ap (λ w. replies w []) (sym (row_removed u s row (has_key-head s (t ∷ b ∷ []) row (row_at-key u.forwardings (s ∷ t ∷ b ∷ []) row f))))

-- ---- the seven, their subscriber being s
id_local : (call : ℕ → Call) (u : Database) (k s : ℕ) → IsLocal (call s) u s → k ≡ s → IsLocal (call k) u s
id_local call u k s local same = subst (λ j. IsLocal (call j) u s) (sym same) local

pub transactions_are_local : (call : Call) (u : Database) (s : ℕ) → IsConsistent u → home_of_key u.subscribers (key_of_call call) ≡ Some s → IsLocal call u s
transactions_are_local (GetSubscriberData k) u s is e = id_local (λ j. GetSubscriberData j) u k s
    (reads_local u s (λ row. row) (row_at u.subscribers (s ∷ [])) ∙ ap (λ o. with_answer u s (reads (of_subscriber u s) (λ row. row) o)) (sym (row_at-own u.subscribers s [])))
    (id_names u.subscribers k s e)
transactions_are_local (GetNewDestination k t b n) u s is e = id_local (λ j. GetNewDestination j t b n) u k s
    (some_local u s (destinations u s t b n) ∙ ap (λ xs. with_answer u s (some_of (of_subscriber u s) xs)) (sym (destinations_own u s t b n)))
    (id_names u.subscribers k s e)
transactions_are_local (GetAccessData k t) u s is e = id_local (λ j. GetAccessData j t) u k s
    (reads_local u s (drop 2) (row_at u.accesses (s ∷ t ∷ [])) ∙ ap (λ o. with_answer u s (reads (of_subscriber u s) (drop 2) o)) (sym (row_at-own u.accesses s (t ∷ []))))
    (id_names u.subscribers k s e)
transactions_are_local (UpdateSubscriberData k x t y) u s is e = id_local (λ j. UpdateSubscriberData j x t y) u k s
    (updates_local u s x t y (row_at u.subscribers (s ∷ [])) (row_at u.facilities (s ∷ t ∷ [])) refl refl
    ∙ (λ i. with_answer u s (updates_both (of_subscriber u s) x y (sym (row_at-own u.subscribers s []) i) (sym (row_at-own u.facilities s (t ∷ [])) i))))
    (id_names u.subscribers k s e)
transactions_are_local (UpdateLocation n v) u s is e =
    let named = number_names u.subscribers n s e in
    let row = named.row in
    let own : has_key (s ∷ []) row ≡ true = subst (λ k. has_key (k ∷ []) row ≡ true) named.own (own_of u row is (has-found (has_number n) u.subscribers row named.found)) in
    ap (updates_location u v) named.found
    ∙ ap (λ w. replies w []) (sym (subscriber_replaced u s row (with_vlr_location row v) own (set_own s 33 v row (omega arith) own)))
    ∙ ap (λ o. with_answer u s (updates_location (of_subscriber u s) v o)) (sym (number_own u n s named is))
transactions_are_local (InsertCallForwarding n t b x y) u s is e =
    ap (inserts_for u t b x y) e
    ∙ inserts_local u s (s ∷ t ∷ b ∷ x ∷ y ∷ []) (row_at u.facilities (s ∷ t ∷ [])) (row_at u.forwardings (s ∷ t ∷ b ∷ []))
    ∙ (λ i. with_answer u s (inserts_under (of_subscriber u s) (s ∷ t ∷ b ∷ x ∷ y ∷ []) (sym (row_at-own u.facilities s (t ∷ [])) i) (sym (row_at-own u.forwardings s (t ∷ b ∷ [])) i)))
    ∙ ap (λ o. with_answer u s (inserts_for (of_subscriber u s) t b x y o)) (sym (named_at_home u s (Number n) is e))
transactions_are_local (DeleteCallForwarding n t b) u s is e =
    ap (deletes_for u t b) e
    ∙ deletes_local u s t b (row_at u.forwardings (s ∷ t ∷ b ∷ [])) refl
    ∙ ap (λ o. with_answer u s (deletes (of_subscriber u s) o)) (sym (row_at-own u.forwardings s (t ∷ b ∷ [])))
    ∙ ap (λ o. with_answer u s (deletes_for (of_subscriber u s) t b o)) (sym (named_at_home u s (Number n) is e))

-- ---- without a subscriber
-- the rows of none
none_names : (v : Tuples) (k : ℕ) → home_of_key v (Id k) ≡ None → row_at v (k ∷ []) ≡ None
none_names v k e = elim (row_at v (k ∷ [])) as (λ o. option_map s_id_of o ≡ None → o ≡ None) [ None ↦ λ h. refl | Some row ↦ λ h. absurd cc ] e

no_number : (v : Tuples) (n : ℕ) → home_of_key v (Number n) ≡ None → row_with_number v n ≡ None
no_number v n e = elim (row_with_number v n) as (λ o. option_map s_id_of o ≡ None → o ≡ None) [ None ↦ λ h. refl | Some row ↦ λ h. absurd cc ] e

-- it fails as where no row is found
pub fails_without_home : (call : Call) (u : Database) → IsConsistent u → home_of_key u.subscribers (key_of_call call) ≡ None → transaction call u ≡ fails u 1
fails_without_home (GetSubscriberData k) u is e = ap (reads u (λ row. row)) (none_names u.subscribers k e)
fails_without_home (GetNewDestination k t b n) u is e =
    ap (λ (o : Option Tuple). some_of u (map numberx_of (filter (λ cf. has_key (k ∷ t ∷ []) cf && (is_active o && (nat_le (start_time_of cf) b && nat_lt n (end_time_of cf)))) (rows_of u.forwardings))))
    (no_child u.subscribers u.facilities k (t ∷ []) is.parents.of_facilities (none_names u.subscribers k e))
    ∙ ap (λ xs. some_of u (map numberx_of xs)) (nothing_passes (has_key (k ∷ t ∷ [])) (rows_of u.forwardings))
fails_without_home (GetAccessData k t) u is e = ap (reads u (drop 2)) (no_child u.subscribers u.accesses k (t ∷ []) is.parents.of_accesses (none_names u.subscribers k e))
fails_without_home (UpdateSubscriberData k x t y) u is e = ap (λ o. updates_both u x y o (row_at u.facilities (k ∷ t ∷ []))) (none_names u.subscribers k e)
fails_without_home (UpdateLocation n v) u is e = ap (updates_location u v) (no_number u.subscribers n e)
fails_without_home (InsertCallForwarding n t b x y) u is e = ap (inserts_for u t b x y) e
fails_without_home (DeleteCallForwarding n t b) u is e = ap (deletes_for u t b) e

-- ---- the rows that it leaves are its subscriber's
AreOf-insert_row : (s : ℕ) (v : Tuples) (row : Tuple) → has_key (s ∷ []) row ≡ true → AreOf s v → AreOf s (insert_row v row)
AreOf-insert_row s v row own all q h =
    elim (same q row) as (λ b. same q row ≡ b → (b || has v q) ≡ true → has_key (s ∷ []) q ≡ true) [
      | true ↦ λ e _. ap (has_key (s ∷ [])) (same_is q row e) ∙ own
      | false ↦ λ _ k. all q k
    ] refl (sym (has-insert_row v row q) ∙ h)

AreOf-remove_row : (s : ℕ) (v : Tuples) (row : Tuple) → AreOf s v → AreOf s (remove_row v row)
AreOf-remove_row s v row all q h = all q (and_parts (not (same q row)) (has v q) (sym (has-remove_row v row q) ∙ h)).1

AreOf-replace_row : (s : ℕ) (v : Tuples) (row new : Tuple) → has_key (s ∷ []) new ≡ true → AreOf s v → AreOf s (replace_row v row new)
AreOf-replace_row s v row new own all = AreOf-insert_row s (remove_row v row) new own (AreOf-remove_row s v row all)

-- four tables
of_tables : (s : ℕ) (a b c d : Tuples) → AreOf s a → AreOf s b → AreOf s c → AreOf s d → HaveSId s (record { subscribers = a; accesses = b; facilities = c; forwardings = d })
of_tables s a b c d p q r t Subscriber = p
of_tables s a b c d p q r t AccessInfo = q
of_tables s a b c d p q r t SpecialFacility = r
of_tables s a b c d p q r t CallForwarding = t

module _ (u : Database) (s : ℕ) where
  abbrev w : Database
  w = of_subscriber u s

  keeps_reads : (columns : Tuple → List ℕ) (row : Option Tuple) → HaveSId s (reads w columns row).database
  keeps_reads columns None = HaveSId-of_subscriber u s
  keeps_reads columns (Some row) = HaveSId-of_subscriber u s

  keeps_some : (numbers : List ℕ) → HaveSId s (some_of w numbers).database
  keeps_some [] = HaveSId-of_subscriber u s
  keeps_some (n ∷ more) = HaveSId-of_subscriber u s

  keeps_updates : (x t y : ℕ) (row facility : Option Tuple) → row_at w.subscribers (s ∷ []) ≡ row → row_at w.facilities (s ∷ t ∷ []) ≡ facility → HaveSId s (updates_both w x y row facility).database
  keeps_updates x t y None facility f g = HaveSId-of_subscriber u s
  keeps_updates x t y (Some row) None f g = HaveSId-of_subscriber u s
  keeps_updates x t y (Some row) (Some facility) f g = of_tables s _ _ _ _
      (AreOf-replace_row s w.subscribers row (with_bit_1 row x) (set_own s 2 x row (omega arith) (row_at-key w.subscribers (s ∷ []) row f)) (AreOf-rows_with_s_id s u.subscribers))
      (AreOf-rows_with_s_id s u.accesses)
      (AreOf-replace_row s w.facilities facility (with_data_a facility y) (set_own s 4 y facility (omega arith) (has_key-head s (t ∷ []) facility (row_at-key w.facilities (s ∷ t ∷ []) facility g))) (AreOf-rows_with_s_id s u.facilities))
      (AreOf-rows_with_s_id s u.forwardings)

  keeps_location : (n v : ℕ) (row : Option Tuple) → row_with_number w.subscribers n ≡ row → HaveSId s (updates_location w v row).database
  keeps_location n v None f = HaveSId-of_subscriber u s
  keeps_location n v (Some row) f = of_tables s _ _ _ _
      (AreOf-replace_row s w.subscribers row (with_vlr_location row v) (set_own s 33 v row (omega arith) (AreOf-rows_with_s_id s u.subscribers row (has-found (has_number n) w.subscribers row f))) (AreOf-rows_with_s_id s u.subscribers))
      (AreOf-rows_with_s_id s u.accesses) (AreOf-rows_with_s_id s u.facilities) (AreOf-rows_with_s_id s u.forwardings)

  keeps_inserts : (row : Tuple) (facility there : Option Tuple) → has_key (s ∷ []) row ≡ true → HaveSId s (inserts_under w row facility there).database
  keeps_inserts row None there own = HaveSId-of_subscriber u s
  keeps_inserts row (Some facility) (Some there) own = HaveSId-of_subscriber u s
  keeps_inserts row (Some facility) None own = of_tables s _ _ _ _ (AreOf-rows_with_s_id s u.subscribers) (AreOf-rows_with_s_id s u.accesses) (AreOf-rows_with_s_id s u.facilities)
      (AreOf-insert_row s w.forwardings row own (AreOf-rows_with_s_id s u.forwardings))

  keeps_deletes : (row : Option Tuple) → HaveSId s (deletes w row).database
  keeps_deletes None = HaveSId-of_subscriber u s
  keeps_deletes (Some row) = of_tables s _ _ _ _ (AreOf-rows_with_s_id s u.subscribers) (AreOf-rows_with_s_id s u.accesses) (AreOf-rows_with_s_id s u.facilities)
      (AreOf-remove_row s w.forwardings row (AreOf-rows_with_s_id s u.forwardings))

head_own : (s : ℕ) (more : Tuple) → has_key (s ∷ []) (s ∷ more) ≡ true
head_own s more = ap (λ b. b && true) (eq-eqb s s refl)

pub rows_stay_own : (call : Call) (u : Database) (s : ℕ) → IsConsistent u → home_of_key u.subscribers (key_of_call call) ≡ Some s → HaveSId s (transaction call (of_subscriber u s)).database
rows_stay_own (GetSubscriberData k) u s is e = keeps_reads u s (λ row. row) _
rows_stay_own (GetNewDestination k t b n) u s is e = keeps_some u s _
rows_stay_own (GetAccessData k t) u s is e = keeps_reads u s (drop 2) _
rows_stay_own (UpdateSubscriberData k x t y) u s is e = subst (λ j. HaveSId s (transaction (UpdateSubscriberData j x t y) (of_subscriber u s)).database) (sym (id_names u.subscribers k s e)) (keeps_updates u s x t y _ _ refl refl)
rows_stay_own (UpdateLocation n v) u s is e = keeps_location u s n v _ refl
rows_stay_own (InsertCallForwarding n t b x y) u s is e =
    subst (λ o. HaveSId s (inserts_for (of_subscriber u s) t b x y o).database) (sym (named_at_home u s (Number n) is e)) (keeps_inserts u s (s ∷ t ∷ b ∷ x ∷ y ∷ []) (row_at (of_subscriber u s).facilities (s ∷ t ∷ [])) (row_at (of_subscriber u s).forwardings (s ∷ t ∷ b ∷ [])) (head_own s (t ∷ b ∷ x ∷ y ∷ [])))
rows_stay_own (DeleteCallForwarding n t b) u s is e =
    subst (λ o. HaveSId s (deletes_for (of_subscriber u s) t b o).database) (sym (named_at_home u s (Number n) is e)) (keeps_deletes u s (row_at (of_subscriber u s).forwardings (s ∷ t ∷ b ∷ [])))
