-- With data_a cleared each call has the same reply, and the same rows but for data_a.
use Rattle.std.proofs.Common.{◌≡◌, ℕ, Bool, ◌&&◌, true, false, cond, nat_eq, nat_le, nat_lt, is_some, List, [], ◌∷◌, Option, Some, None, map, filter, find, drop, refl, sym, ◌∙◌, ap, subst, arith, true≢false}
use Rattle.std.specs.Option.{option_map}
use Rattle.std.proofs.lemmas.Option.{none-some, same_Some}
use Rattle.std.proofs.lemmas.List.{get_or-set_other, set-set, take-set-le}
use Rattle.tatp_tables.specs.Tuples.{Tuple, Tuples, rows_of, has, replace_row}
use Rattle.tatp_tables.specs.Keys.{has_key, row_at, row_with_number}
use Rattle.tatp_tables.specs.Database.{Database}
use Rattle.tatp_tables.proofs.KeyLaws.{UniqueIn, UniqueIn-replace_row, key_is, has_key-alike, row_at-has}
use Rattle.tatp_numbers.specs.declared.key.Key.TheVariants.{Number}
use Rattle.tatp_numbers.specs.Homes.{home_of_key}
use Rattle.tatp_calls.specs.declared.call.Call.{Call}
use Rattle.tatp_calls.specs.declared.call.Call.TheVariants.{GetSubscriberData, GetNewDestination, GetAccessData, UpdateSubscriberData, UpdateLocation, InsertCallForwarding, DeleteCallForwarding}
use Rattle.tatp_calls.specs.Transactions.{Answer, transaction, replies, reads, is_active, start_time_of, end_time_of, numberx_of, destinations, some_of, with_bit_1, with_data_a, updates_both, updates_location, inserts_under, inserts_for, deletes, deletes_for}
use Rattle.tatp_history.specs.Cleared.{first_type, bit_alone, cleared_call, without_data_a, with_facilities, AreCleared, IsCleared}
use Rattle.tatp_history.proofs.ChangeLaws.{reading_leaves}
use Rattle.tatp_history.proofs.ReplacedLaws.{replaced_itself, told_same}

-- ---- what is there
pub none_is : {X : Type 0} (o : Option X) → is_some o ≡ false → o ≡ None
none_is None e = refl
none_is (Some x) e = absurd (true≢false e)

pub some_is : {X : Type 0} (o : Option X) → is_some o ≡ true → (x : X) × (o ≡ Some x)
some_is None e = absurd (true≢false (sym e))
some_is (Some x) e = (x, refl)

-- what holds of each of a list, and the test, hold of what is found
pub type_passes : (p : ℕ → Bool) (types : List ℕ) (t : ℕ) → find p types ≡ Some t → p t ≡ true
type_passes p [] t e = absurd (none-some t e)
type_passes p (x ∷ xs) t e = elim (p x) as (λ b. p x ≡ b → cond b (Some x) (find p xs) ≡ Some t → p t ≡ true) [
  | true ↦ λ px f. ap p (sym (same_Some x t f)) ∙ px
  | false ↦ λ px f. type_passes p xs t f
] refl e

is_some_without : (o : Option Tuple) → is_some (option_map without_data_a o) ≡ is_some o
is_some_without None = refl
is_some_without (Some row) = refl

is_active_without : (o : Option Tuple) → is_active (option_map without_data_a o) ≡ is_active o
is_active_without None = refl
is_active_without (Some row) = ap (λ n. nat_eq n 1) (get_or-set_other row 4 2 0 0 (λ d. omega (arith, d)))

-- facilities that are alike but for data_a
abbrev pub AreAlike : Tuples → Tuples → Type 0
AreAlike own others = (s t : ℕ) → option_map without_data_a (row_at others (s ∷ t ∷ [])) ≡ option_map without_data_a (row_at own (s ∷ t ∷ []))

pub there_alike : (own others : Tuples) → AreAlike own others → (s t : ℕ) → is_some (row_at others (s ∷ t ∷ [])) ≡ is_some (row_at own (s ∷ t ∷ []))
there_alike own others alike s t = sym (is_some_without (row_at others (s ∷ t ∷ []))) ∙ (ap is_some (alike s t) ∙ is_some_without (row_at own (s ∷ t ∷ [])))

active_alike : (own others : Tuples) → AreAlike own others → (s t : ℕ) → is_active (row_at others (s ∷ t ∷ [])) ≡ is_active (row_at own (s ∷ t ∷ []))
active_alike own others alike s t = sym (is_active_without (row_at others (s ∷ t ∷ []))) ∙ (ap is_active (alike s t) ∙ is_active_without (row_at own (s ∷ t ∷ [])))

-- once data_a of one is set, they are as they were but for data_a
pub set_alike : (own : Tuples) (facility : Tuple) (y : ℕ) → has own facility ≡ true → UniqueIn 2 own → AreAlike own (replace_row own facility (with_data_a facility y))
set_alike own facility y there unique s t =
    told_same (has_key (s ∷ t ∷ [])) own facility (with_data_a facility y) there
    (has_key-alike 2 (s ∷ t ∷ []) facility (with_data_a facility y) (omega arith) (take-set-le 2 facility 4 y (omega arith)))
    (λ a b ha hb pa pb. unique a b ha hb (key_is (s ∷ t ∷ []) a pa ∙ sym (key_is (s ∷ t ∷ []) b pb)))
    (option_map without_data_a) (ap Some (set-set facility 4 y 0))

-- ---- with other facilities a call does the same
abbrev pub answer_with : Tuples → Answer → Answer
answer_with others a = record { reply = a.reply; database = with_facilities a.database others }

module _ (u : Database) (others : Tuples) where
  reads_with : (columns : Tuple → List ℕ) (row : Option Tuple) → reads (with_facilities u others) columns row ≡ answer_with others (reads u columns row)
  reads_with columns None = refl
  reads_with columns (Some row) = refl

  some_with : (found : List ℕ) → some_of (with_facilities u others) found ≡ answer_with others (some_of u found)
  some_with [] = refl
  some_with (n ∷ more) = refl

  location_with : (v : ℕ) (row : Option Tuple) → updates_location (with_facilities u others) v row ≡ answer_with others (updates_location u v row)
  location_with v None = refl
  location_with v (Some row) = refl

  under_with : (row : Tuple) (own other there : Option Tuple) → is_some other ≡ is_some own → inserts_under (with_facilities u others) row other there ≡ answer_with others (inserts_under u row own there)
  under_with row None None there e = refl
  under_with row None (Some q) there e = absurd (true≢false e)
  under_with row (Some p) None there e = absurd (true≢false (sym e))
  under_with row (Some p) (Some q) (Some r) e = refl
  under_with row (Some p) (Some q) None e = refl

  inserts_with : AreAlike u.facilities others → (t b e x : ℕ) (s : Option ℕ) → inserts_for (with_facilities u others) t b e x s ≡ answer_with others (inserts_for u t b e x s)
  inserts_with alike t b e x None = refl
  inserts_with alike t b e x (Some s) = under_with (s ∷ t ∷ b ∷ e ∷ x ∷ []) (row_at u.facilities (s ∷ t ∷ [])) (row_at others (s ∷ t ∷ [])) (row_at u.forwardings (s ∷ t ∷ b ∷ [])) (there_alike u.facilities others alike s t)

  row_deleted_with : (row : Option Tuple) → deletes (with_facilities u others) row ≡ answer_with others (deletes u row)
  row_deleted_with None = refl
  row_deleted_with (Some row) = refl

  deletes_with : (t b : ℕ) (s : Option ℕ) → deletes_for (with_facilities u others) t b s ≡ answer_with others (deletes_for u t b s)
  deletes_with t b None = refl
  deletes_with t b (Some s) = row_deleted_with (row_at u.forwardings (s ∷ t ∷ b ∷ []))

  -- where the facility isn't there
  both_without : (x y : ℕ) (row : Option Tuple) → updates_both (with_facilities u others) x y row None ≡ answer_with others (updates_both u x y row None)
  both_without x y None = refl
  both_without x y (Some row) = refl

  -- where it is, and another has data_a 0
  both_with : (x y : ℕ) (row : Option Tuple) (facility first : Tuple) → replace_row others first (without_data_a first) ≡ others
      → updates_both (with_facilities u others) x 0 row (Some first) ≡ answer_with others (updates_both u x y row (Some facility))
  both_with x y None facility first same = refl
  both_with x y (Some row) facility first same = λ i. replies (record u { subscribers = replace_row u.subscribers row (with_bit_1 row x); facilities = same i }) []

  -- ---- UPDATE_SUBSCRIBER_DATA
  module _ (c : AreCleared u.facilities others) (s x t y : ℕ) where
    data_missing : is_some (row_at others (s ∷ t ∷ [])) ≡ false → transaction (UpdateSubscriberData s x t y) (with_facilities u others) ≡ answer_with others (transaction (UpdateSubscriberData s x t y) u)
    data_missing e =
        ap (updates_both (with_facilities u others) x y (row_at u.subscribers (s ∷ []))) (none_is (row_at others (s ∷ t ∷ [])) e)
        ∙ (both_without x y (row_at u.subscribers (s ∷ []))
        ∙ ap (λ o. answer_with others (updates_both u x y (row_at u.subscribers (s ∷ [])) o)) (sym (none_is (row_at u.facilities (s ∷ t ∷ [])) (sym (there_alike u.facilities others c.alike s t) ∙ e))))

    data_cleared : is_some (row_at others (s ∷ t ∷ [])) ≡ true → transaction (bit_alone (UpdateSubscriberData s x t y) s x (first_type others s)) (with_facilities u others) ≡ answer_with others (transaction (UpdateSubscriberData s x t y) u)
    data_cleared e =
        let facility = some_is (row_at u.facilities (s ∷ t ∷ [])) (sym (there_alike u.facilities others c.alike s t) ∙ e) in
        let first = some_is (first_type others s) (c.types s t e) in
        let held = some_is (row_at others (s ∷ first.0 ∷ [])) (type_passes (λ k. is_some (row_at others (s ∷ k ∷ []))) (1 ∷ 2 ∷ 3 ∷ 4 ∷ []) first.0 first.1) in
        let same : replace_row others held.0 (without_data_a held.0) ≡ others
        = ap (λ r. replace_row others held.0 r) (c.first s first.0 held.0 first.1 held.1) ∙ replaced_itself others held.0 (row_at-has others (s ∷ first.0 ∷ []) held.0 held.1) in
        ap (λ o. transaction (bit_alone (UpdateSubscriberData s x t y) s x o) (with_facilities u others)) first.1
        ∙ (ap (λ o. updates_both (with_facilities u others) x 0 (row_at u.subscribers (s ∷ [])) o) held.1
        ∙ (both_with x y (row_at u.subscribers (s ∷ [])) facility.0 held.0 same
        ∙ ap (λ o. answer_with others (updates_both u x y (row_at u.subscribers (s ∷ [])) o)) (sym facility.1)))

    data_with : transaction (cleared_call others (UpdateSubscriberData s x t y)) (with_facilities u others) ≡ answer_with others (transaction (UpdateSubscriberData s x t y) u)
    data_with = elim (is_some (row_at others (s ∷ t ∷ []))) as (λ b. is_some (row_at others (s ∷ t ∷ [])) ≡ b → transaction (cond b (bit_alone (UpdateSubscriberData s x t y) s x (first_type others s)) (UpdateSubscriberData s x t y)) (with_facilities u others) ≡ answer_with others (transaction (UpdateSubscriberData s x t y) u)) [
      | true ↦ data_cleared
      | false ↦ data_missing
    ] refl

-- the numbers that are found where the facility is active, or isn't
abbrev destined : Database → ℕ → ℕ → ℕ → ℕ → Bool → List ℕ
destined u s t b e active = map numberx_of (filter (λ cf. has_key (s ∷ t ∷ []) cf && (active && (nat_le (start_time_of cf) b && nat_lt e (end_time_of cf)))) (rows_of u.forwardings))

-- the reply is the same, and the rows after it but for the facilities
pub cleared_answer : (call : Call) (u : Database) (others : Tuples) → AreCleared u.facilities others → transaction (cleared_call others call) (with_facilities u others) ≡ answer_with others (transaction call u)
cleared_answer (GetSubscriberData s) u others c = reads_with u others (λ row. row) (row_at u.subscribers (s ∷ []))
cleared_answer (GetNewDestination s t b e) u others c = ap (λ a. some_of (with_facilities u others) (destined u s t b e a)) (active_alike u.facilities others c.alike s t) ∙ some_with u others (destinations u s t b e)
cleared_answer (GetAccessData s t) u others c = reads_with u others (drop 2) (row_at u.accesses (s ∷ t ∷ []))
cleared_answer (UpdateSubscriberData s x t y) u others c = data_with u others c s x t y
cleared_answer (UpdateLocation n v) u others c = location_with u others v (row_with_number u.subscribers n)
cleared_answer (InsertCallForwarding n t b e x) u others c = inserts_with u others c.alike t b e x (home_of_key u.subscribers (Number n))
cleared_answer (DeleteCallForwarding n t b) u others c = deletes_with u others t b (home_of_key u.subscribers (Number n))

-- ---- and what was cleared is cleared after the call
location_keeps : (u : Database) (v : ℕ) (row : Option Tuple) → (updates_location u v row).database.facilities ≡ u.facilities
location_keeps u v None = refl
location_keeps u v (Some row) = refl

under_keeps : (u : Database) (row : Tuple) (facility there : Option Tuple) → (inserts_under u row facility there).database.facilities ≡ u.facilities
under_keeps u row None there = refl
under_keeps u row (Some facility) (Some other) = refl
under_keeps u row (Some facility) None = refl

insert_keeps : (u : Database) (t b e x : ℕ) (s : Option ℕ) → (inserts_for u t b e x s).database.facilities ≡ u.facilities
insert_keeps u t b e x None = refl
insert_keeps u t b e x (Some s) = under_keeps u (s ∷ t ∷ b ∷ e ∷ x ∷ []) (row_at u.facilities (s ∷ t ∷ [])) (row_at u.forwardings (s ∷ t ∷ b ∷ []))

row_deleted_keeps : (u : Database) (row : Option Tuple) → (deletes u row).database.facilities ≡ u.facilities
row_deleted_keeps u None = refl
row_deleted_keeps u (Some row) = refl

delete_keeps : (u : Database) (t b : ℕ) (s : Option ℕ) → (deletes_for u t b s).database.facilities ≡ u.facilities
delete_keeps u t b None = refl
delete_keeps u t b (Some s) = row_deleted_keeps u (row_at u.forwardings (s ∷ t ∷ b ∷ []))

set_cleared : (own others : Tuples) (facility : Tuple) (y : ℕ) → has own facility ≡ true → AreCleared own others → AreCleared (replace_row own facility (with_data_a facility y)) others
set_cleared own others facility y there c = record {
  keys = UniqueIn-replace_row 2 own facility (with_data_a facility y) there (take-set-le 2 facility 4 y (omega arith)) c.keys;
  other_keys = c.other_keys;
  alike = λ s t. c.alike s t ∙ sym (set_alike own facility y there c.keys s t);
  types = c.types;
  first = c.first;
}

both_cleared : (u : Database) (others : Tuples) (x y : ℕ) (row facility : Option Tuple) → ((q : Tuple) → facility ≡ Some q → has u.facilities q ≡ true) → AreCleared u.facilities others → AreCleared (updates_both u x y row facility).database.facilities others
both_cleared u others x y None facility there c = c
both_cleared u others x y (Some row) None there c = c
both_cleared u others x y (Some row) (Some facility) there c = set_cleared u.facilities others facility y (there facility refl) c

kept_cleared : (u : Database) (others after : Tuples) → after ≡ u.facilities → AreCleared u.facilities others → AreCleared after others
kept_cleared u others after e c = subst (λ own. AreCleared own others) (sym e) c

pub cleared_after : (call : Call) (u : Database) (others : Tuples) → AreCleared u.facilities others → AreCleared (transaction call u).database.facilities others
cleared_after (GetSubscriberData s) u others c = kept_cleared u others (transaction (GetSubscriberData s) u).database.facilities (ap (λ (v : Database). v.facilities) (reading_leaves (GetSubscriberData s) refl u)) c
cleared_after (GetNewDestination s t b e) u others c = kept_cleared u others (transaction (GetNewDestination s t b e) u).database.facilities (ap (λ (v : Database). v.facilities) (reading_leaves (GetNewDestination s t b e) refl u)) c
cleared_after (GetAccessData s t) u others c = kept_cleared u others (transaction (GetAccessData s t) u).database.facilities (ap (λ (v : Database). v.facilities) (reading_leaves (GetAccessData s t) refl u)) c
cleared_after (UpdateSubscriberData s x t y) u others c = both_cleared u others x y (row_at u.subscribers (s ∷ [])) (row_at u.facilities (s ∷ t ∷ [])) (λ q e. row_at-has u.facilities (s ∷ t ∷ []) q e) c
cleared_after (UpdateLocation n v) u others c = kept_cleared u others (transaction (UpdateLocation n v) u).database.facilities (location_keeps u v (row_with_number u.subscribers n)) c
cleared_after (InsertCallForwarding n t b e x) u others c = kept_cleared u others (transaction (InsertCallForwarding n t b e x) u).database.facilities (insert_keeps u t b e x (home_of_key u.subscribers (Number n))) c
cleared_after (DeleteCallForwarding n t b) u others c = kept_cleared u others (transaction (DeleteCallForwarding n t b) u).database.facilities (delete_keeps u t b (home_of_key u.subscribers (Number n))) c

-- ---- of databases
pub cleared_reply : (u v : Database) (call : Call) → IsCleared u v → (transaction (cleared_call v.facilities call) v).reply ≡ (transaction call u).reply
cleared_reply u v call is =
    ap (λ w. (transaction (cleared_call v.facilities call) w).reply) is.rows
    ∙ ap (λ (a : Answer). a.reply) (cleared_answer call u v.facilities is.facilities)

pub cleared_database : (u v : Database) (call : Call) → IsCleared u v → (transaction (cleared_call v.facilities call) v).database ≡ with_facilities (transaction call u).database v.facilities
cleared_database u v call is =
    ap (λ w. (transaction (cleared_call v.facilities call) w).database) is.rows
    ∙ ap (λ (a : Answer). a.database) (cleared_answer call u v.facilities is.facilities)

pub cleared_facilities : (u v : Database) (call : Call) → IsCleared u v → (transaction (cleared_call v.facilities call) v).database.facilities ≡ v.facilities
cleared_facilities u v call is = ap (λ (w : Database). w.facilities) (cleared_database u v call is)

pub cleared_on : (u v : Database) (call : Call) → IsCleared u v → IsCleared (transaction call u).database (transaction (cleared_call v.facilities call) v).database
cleared_on u v call is = subst (IsCleared (transaction call u).database) (sym (cleared_database u v call is)) (record { rows = refl; facilities = cleared_after call u v.facilities is.facilities })
