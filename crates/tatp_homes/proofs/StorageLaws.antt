-- The changes of one cell are the changes of the database in the cells.
use Rattle.std.specs.Prelude.{◌≡◌, ◌≢◌, ℕ, zero, suc, ◌-◌, ◌<◌, ◌≤◌, Bool, true, false, ◌&&◌, ◌==◌, List, [], ◌∷◌, Option, Some, None, Result, Ok, Err, IfOk, is_some, length, take, slice_get, slice_set, slice_index, slice_index_or}
use Rattle.std.specs.Option.{ok_or}
use Rattle.std.proofs.Common.{refl, sym, ap, subst, ◌∙◌, arith}
use Rattle.std.proofs.lemmas.List.{set-get_or}
use Rattle.tatp_tables.specs.Tuples.{Tuple, set_of, insert_row}
use Rattle.tatp_tables.specs.Keys.{has_key, row_at}
use Rattle.tatp_tables.proofs.KeyLaws.{take-one, take-two, take-three, has_key-take, first_is}
use Rattle.tatp_tables.specs.Columns.{table_of, first_column, key_length, is_fixed}
use Rattle.tatp_tables.specs.Domains.{is_in_domain, are_in_domain}
use Rattle.tatp_tables.specs.Database.{Database, in_table, with_table, current_row}
use Rattle.tatp_homes.specs.Changes.{put_answer_at, put_answer, put_rows, put_tables, parent_of, forwarding_key, insert_answer_at, insert_answer, insert_rows_at, insert_tables, delete_answer_at, delete_answer, delete_rows, delete_tables}
use Rattle.tatp_homes.specs.Home.{SubscriberRows, IsHome}
use Rattle.tatp_homes.proofs.ChangeLaws.{IsHome-put, IsHome-insert, IsHome-delete, place_past_key, own-from_parent}
use Rattle.tatp_homes.proofs.UndoLaws.{put-back, delete-back}
use Rattle.tatp_homes.specs.Cells.{present, StandAt, HoldHome, tables_in, put_cell, subscriber_keys, type_keys, forwarding_keys}
use Rattle.tatp_homes.proofs.CellLaws.{rise, set_of-set, StandAt-set, FitsAt, key_at, place_within, taken_out}
use Rattle.tatp_homes.proofs.PlaceLaws.{subscriber_at, subscriber_none, type_at, forwarding_at, key_parts}
use Rattle.tatp_tables.specs.declared.table.Table.{Table}
use Rattle.tatp_tables.specs.declared.table.Table.TheVariants.{Subscriber, AccessInfo, SpecialFacility, CallForwarding}
use Rattle.tatp_homes.specs.declared.refusal.Refusal.{Refusal}
use Rattle.tatp_homes.specs.declared.refusal.Refusal.TheVariants.{NoCurrent, KeyExists}

-- ---- what a change answers and leaves, by the row that stands under the key
pub put_answer-found : (t : Table) (u : Database) (c : ℕ) (key : List ℕ) (v : ℕ) (o : Option Tuple) → table_of c ≡ t → current_row t u key ≡ o
    → put_answer u c key v ≡ put_answer_at (c - first_column t) (is_in_domain c v) o
put_answer-found t u c key v o e f = ap (λ x. put_answer_at (c - first_column x) (is_in_domain c v) (current_row x u key)) e ∙ ap (put_answer_at (c - first_column t) (is_in_domain c v)) f

pub put_tables-found : (t : Table) (u : Database) (c : ℕ) (key : List ℕ) (v : ℕ) (o : Option Tuple) → table_of c ≡ t → current_row t u key ≡ o
    → put_tables u c key v ≡ with_table t u (put_rows (c - first_column t) (is_in_domain c v) v (in_table t u) o)
put_tables-found t u c key v o e f = ap (λ x. with_table x u (put_rows (c - first_column x) (is_in_domain c v) v (in_table x u) (current_row x u key))) e
    ∙ ap (λ x. with_table t u (put_rows (c - first_column t) (is_in_domain c v) v (in_table t u) x)) f

-- ---- the same in the cells
has_key-set : (key row : List ℕ) (place v : ℕ) → length key ≤ place → has_key key (slice_set row place v) ≡ has_key key row
has_key-set [] row place v le = refl
has_key-set (k ∷ ks) [] place v le = refl
has_key-set (k ∷ ks) (x ∷ row) zero v le = absurd (omega arith)
has_key-set (k ∷ ks) (x ∷ row) (suc place) v le = ap (λ b. (x == k) && b) (has_key-set ks row place v (omega arith))

-- a cell after a put still fits its place
fits_put : (s : ℕ) (k : List ℕ) (keys : List (List ℕ)) (cells : List (Option Tuple)) (i place v : ℕ) (fits : Bool) → StandAt s keys cells → slice_get keys i ≡ Some k → length (s ∷ k) ≤ place
    → FitsAt s k (put_cell place fits v (slice_index_or cells i None))
fits_put s k keys cells i place v fits all e le =
    elim (slice_index_or cells i None) as (λ o. slice_index_or cells i None ≡ o → FitsAt s k (put_cell place fits v o)) [
      | None ↦ λ _. tt
      | Some row ↦ λ f. elim fits as (λ b. FitsAt s k (put_cell place b v (Some row))) [
        | true ↦ has_key-set (s ∷ k) row place v le ∙ key_at s k keys cells i row all e f
        | false ↦ key_at s k keys cells i row all e f
      ]
    ] refl

-- a put in one cell: the cells still stand, and what the set of their rows becomes
pub record Puts (s : ℕ) (keys : List (List ℕ)) (cells after : List (Option Tuple)) (i place v : ℕ) (fits : Bool) : Type 0 where
  pub stand : StandAt s keys after
  pub rows : set_of (present after) ≡ put_rows place fits v (set_of (present cells)) (slice_index_or cells i None)

same_set : (cells : List (Option Tuple)) (i : ℕ) (o : Option Tuple) → slice_index_or cells i None ≡ o → set_of (present (slice_set cells i o)) ≡ set_of (present cells)
same_set cells i o e = ap (λ x. set_of (present (slice_set cells i x))) (sym e) ∙ ap (λ xs. set_of (present xs)) (set-get_or cells i None)

set_of-put : (s : ℕ) (keys : List (List ℕ)) (cells : List (Option Tuple)) (i place v : ℕ) (fits : Bool) → rise keys ≡ true → StandAt s keys cells → i < length cells
    → set_of (present (slice_set cells i (put_cell place fits v (slice_index_or cells i None)))) ≡ put_rows place fits v (set_of (present cells)) (slice_index_or cells i None)
set_of-put s keys cells i place v fits r all lt =
    elim (slice_index_or cells i None) as (λ o. slice_index_or cells i None ≡ o → set_of (present (slice_set cells i (put_cell place fits v o))) ≡ put_rows place fits v (set_of (present cells)) o) [
      | None ↦ λ e. same_set cells i None e
      | Some row ↦ λ e. elim fits as (λ b. set_of (present (slice_set cells i (put_cell place b v (Some row)))) ≡ put_rows place b v (set_of (present cells)) (Some row)) [
        | true ↦ set_of-set s (Some (slice_set row place v)) keys cells i r all lt ∙ ap (λ o. insert_row (taken_out o (set_of (present cells))) (slice_set row place v)) e
        | false ↦ same_set cells i (Some row) e
      ]
    ] refl

pub puts : (s : ℕ) (k : List ℕ) (keys : List (List ℕ)) (cells : List (Option Tuple)) (i place v : ℕ) (fits : Bool) → rise keys ≡ true → StandAt s keys cells → slice_get keys i ≡ Some k → length (s ∷ k) ≤ place
    → Puts s keys cells (slice_set cells i (put_cell place fits v (slice_index_or cells i None))) i place v fits
puts s k keys cells i place v fits r all e le = record {
  stand = StandAt-set s k _ keys cells i all e (fits_put s k keys cells i place v fits all e le);
  rows = set_of-put s keys cells i place v fits r all (place_within s k keys cells i all e);
}

-- a row put into an empty cell
pub holds_row : (s : ℕ) (k : List ℕ) (keys : List (List ℕ)) (cells : List (Option Tuple)) (i : ℕ) (row : Tuple) → rise keys ≡ true → StandAt s keys cells → slice_get keys i ≡ Some k → slice_index_or cells i None ≡ None
    → set_of (present (slice_set cells i (Some row))) ≡ insert_row (set_of (present cells)) row
holds_row s k keys cells i row r all e none =
    set_of-set s (Some row) keys cells i r all (place_within s k keys cells i all e) ∙ ap (λ o. insert_row (taken_out o (set_of (present cells))) row) none

-- the row taken out of a cell
pub takes_row : (s : ℕ) (k : List ℕ) (keys : List (List ℕ)) (cells : List (Option Tuple)) (i : ℕ) → rise keys ≡ true → StandAt s keys cells → slice_get keys i ≡ Some k
    → set_of (present (slice_set cells i None)) ≡ delete_rows (set_of (present cells)) (slice_index_or cells i None)
takes_row s k keys cells i r all e =
    set_of-set s None keys cells i r all (place_within s k keys cells i all e)
    ∙ elim (slice_index_or cells i None) as (λ o. taken_out o (set_of (present cells)) ≡ delete_rows (set_of (present cells)) o) [ None ↦ refl | Some row ↦ refl ]

-- ---- the row of each table under a key of three parts
pub current_subscriber : (s : ℕ) (o : Option Tuple) (a f w : List (Option Tuple)) (key : List ℕ) → length key ≡ 3 → slice_index key 0 ≡ s → StandAt s subscriber_keys (o ∷ [])
    → current_row Subscriber (tables_in o a f w) key ≡ o
current_subscriber s o a f w key l e all = ap (row_at (set_of (present (o ∷ [])))) (take-one key (omega arith)) ∙ subscriber_at (slice_index key 0) s o e all

pub no_current_subscriber : (s : ℕ) (o : Option Tuple) (a f w : List (Option Tuple)) (key : List ℕ) → length key ≡ 3 → slice_index key 0 ≢ s → StandAt s subscriber_keys (o ∷ [])
    → current_row Subscriber (tables_in o a f w) key ≡ None
no_current_subscriber s o a f w key l n all = ap (row_at (set_of (present (o ∷ [])))) (take-one key (omega arith)) ∙ subscriber_none (slice_index key 0) s o n all

pub current_access : (s : ℕ) (o : Option Tuple) (a f w : List (Option Tuple)) (i : ℕ) (key : List ℕ) → length key ≡ 3 → slice_index key 0 ≡ s → StandAt s type_keys a → slice_get type_keys i ≡ Some (slice_index key 1 ∷ [])
    → current_row AccessInfo (tables_in o a f w) key ≡ slice_index_or a i None
current_access s o a f w i key l e all k = ap (row_at (set_of (present a))) (take-two key (omega arith)) ∙ type_at (slice_index key 0) s (slice_index key 1) a i e all k

pub current_facility : (s : ℕ) (o : Option Tuple) (a f w : List (Option Tuple)) (i : ℕ) (key : List ℕ) → length key ≡ 3 → slice_index key 0 ≡ s → StandAt s type_keys f → slice_get type_keys i ≡ Some (slice_index key 1 ∷ [])
    → current_row SpecialFacility (tables_in o a f w) key ≡ slice_index_or f i None
current_facility s o a f w i key l e all k = ap (row_at (set_of (present f))) (take-two key (omega arith)) ∙ type_at (slice_index key 0) s (slice_index key 1) f i e all k

take-whole : (key : List ℕ) → length key ≡ 3 → take 3 key ≡ key
take-whole key l = take-three key (omega arith) ∙ sym (key_parts key l)

pub current_forwarding : (s : ℕ) (o : Option Tuple) (a f w : List (Option Tuple)) (i : ℕ) (key : List ℕ) → length key ≡ 3 → slice_index key 0 ≡ s → StandAt s forwarding_keys w
    → slice_get forwarding_keys i ≡ Some (slice_index key 1 ∷ slice_index key 2 ∷ []) → current_row CallForwarding (tables_in o a f w) key ≡ slice_index_or w i None
current_forwarding s o a f w i key l e all k = ap (row_at (set_of (present w))) (take-whole key l) ∙ forwarding_at key s w i l e all k

-- a key that finds nothing, as the places of types and forwardings say it
pub no_current_type : (t : Table) (u : Database) (key : List ℕ) → key_length t ≡ 2 → length key ≡ 3 → row_at (in_table t u) (slice_index key 0 ∷ slice_index key 1 ∷ []) ≡ None → current_row t u key ≡ None
no_current_type t u key n l e = ap (λ m. row_at (in_table t u) (take m key)) n ∙ ap (row_at (in_table t u)) (take-two key (omega arith)) ∙ e

pub no_current_forwarding : (u : Database) (key : List ℕ) → length key ≡ 3 → row_at u.forwardings key ≡ None → current_row CallForwarding u key ≡ None
no_current_forwarding u key l e = ap (row_at u.forwardings) (take-whole key l) ∙ e

-- ---- a column set: the cells after it are a home's, and its tables those of the put
free_place : (t : Table) (c : ℕ) → table_of c ≡ t → is_fixed c ≡ false → key_length t ≤ c - first_column t
free_place t c e free = subst (λ x. key_length x ≤ c - first_column x) e (place_past_key c free)

pub record PutHome (s : ℕ) (u : Database) (c : ℕ) (key : List ℕ) (v : ℕ) (o : Option Tuple) (a f w : List (Option Tuple)) : Type 0 where
  pub tables : tables_in o a f w ≡ put_tables u c key v
  pub cells : HoldHome s o a f w

home_after_put : (s : ℕ) (u : Database) (c : ℕ) (key : List ℕ) (v : ℕ) (after : Database) → is_fixed c ≡ false → IsHome (record { s_id = s; tables = u }) → after ≡ put_tables u c key v → IsHome (record { s_id = s; tables = after })
home_after_put s u c key v after free is e = subst (λ x. IsHome (record { s_id = s; tables = x })) (sym e) (IsHome-put (record { s_id = s; tables = u }) c key v free is)

pub put_subscriber : (s : ℕ) (o : Option Tuple) (a f w : List (Option Tuple)) (c : ℕ) (key : List ℕ) (v : ℕ) → HoldHome s o a f w → table_of c ≡ Subscriber → is_fixed c ≡ false → length key ≡ 3 → slice_index key 0 ≡ s
    → PutHome s (tables_in o a f w) c key v (put_cell c (is_in_domain c v) v o) a f w
put_subscriber s o a f w c key v h t free l e =
    let u = tables_in o a f w in
    let place : c - 0 ≡ c = omega arith in
    let le : 1 ≤ c = omega (arith, free_place Subscriber c t free) in
    let p = puts s [] subscriber_keys (o ∷ []) 0 c v (is_in_domain c v) refl h.subscriber_place refl le in
    let found = put_tables-found Subscriber u c key v o t (current_subscriber s o a f w key l e h.subscriber_place) in
    let after : tables_in (put_cell c (is_in_domain c v) v o) a f w ≡ put_tables u c key v =
    (λ j. record u { subscribers = p.rows j }) ∙ ap (λ n. record u { subscribers = put_rows n (is_in_domain c v) v u.subscribers o }) (sym place) ∙ sym found in
    record {
      tables = after;
      cells = record { subscriber_place = p.stand; access_places = h.access_places; facility_places = h.facility_places; forwarding_places = h.forwarding_places; home = home_after_put s u c key v _ free h.home after };
    }

pub put_access : (s : ℕ) (o : Option Tuple) (a f w : List (Option Tuple)) (c : ℕ) (key : List ℕ) (v i : ℕ) → HoldHome s o a f w → table_of c ≡ AccessInfo → is_fixed c ≡ false → length key ≡ 3 → slice_index key 0 ≡ s → slice_get type_keys i ≡ Some (slice_index key 1 ∷ [])
    → PutHome s (tables_in o a f w) c key v o (slice_set a i (put_cell (c - 34) (is_in_domain c v) v (slice_index_or a i None))) f w
put_access s o a f w c key v i h t free l e k =
    let u = tables_in o a f w in
    let p = puts s (slice_index key 1 ∷ []) type_keys a i (c - 34) v (is_in_domain c v) refl h.access_places k (free_place AccessInfo c t free) in
    let after : tables_in o (slice_set a i (put_cell (c - 34) (is_in_domain c v) v (slice_index_or a i None))) f w ≡ put_tables u c key v =
    (λ j. record u { accesses = p.rows j }) ∙ sym (put_tables-found AccessInfo u c key v (slice_index_or a i None) t (current_access s o a f w i key l e h.access_places k)) in
    record {
      tables = after;
      cells = record { subscriber_place = h.subscriber_place; access_places = p.stand; facility_places = h.facility_places; forwarding_places = h.forwarding_places; home = home_after_put s u c key v _ free h.home after };
    }

pub put_facility : (s : ℕ) (o : Option Tuple) (a f w : List (Option Tuple)) (c : ℕ) (key : List ℕ) (v i : ℕ) → HoldHome s o a f w → table_of c ≡ SpecialFacility → is_fixed c ≡ false → length key ≡ 3 → slice_index key 0 ≡ s → slice_get type_keys i ≡ Some (slice_index key 1 ∷ [])
    → PutHome s (tables_in o a f w) c key v o a (slice_set f i (put_cell (c - 40) (is_in_domain c v) v (slice_index_or f i None))) w
put_facility s o a f w c key v i h t free l e k =
    let u = tables_in o a f w in
    let p = puts s (slice_index key 1 ∷ []) type_keys f i (c - 40) v (is_in_domain c v) refl h.facility_places k (free_place SpecialFacility c t free) in
    let after : tables_in o a (slice_set f i (put_cell (c - 40) (is_in_domain c v) v (slice_index_or f i None))) w ≡ put_tables u c key v =
    (λ j. record u { facilities = p.rows j }) ∙ sym (put_tables-found SpecialFacility u c key v (slice_index_or f i None) t (current_facility s o a f w i key l e h.facility_places k)) in
    record {
      tables = after;
      cells = record { subscriber_place = h.subscriber_place; access_places = h.access_places; facility_places = p.stand; forwarding_places = h.forwarding_places; home = home_after_put s u c key v _ free h.home after };
    }

pub put_forwarding : (s : ℕ) (o : Option Tuple) (a f w : List (Option Tuple)) (c : ℕ) (key : List ℕ) (v i : ℕ) → HoldHome s o a f w → table_of c ≡ CallForwarding → is_fixed c ≡ false → length key ≡ 3 → slice_index key 0 ≡ s
    → slice_get forwarding_keys i ≡ Some (slice_index key 1 ∷ slice_index key 2 ∷ []) → PutHome s (tables_in o a f w) c key v o a f (slice_set w i (put_cell (c - 46) (is_in_domain c v) v (slice_index_or w i None)))
put_forwarding s o a f w c key v i h t free l e k =
    let u = tables_in o a f w in
    let p = puts s (slice_index key 1 ∷ slice_index key 2 ∷ []) forwarding_keys w i (c - 46) v (is_in_domain c v) refl h.forwarding_places k (free_place CallForwarding c t free) in
    let after : tables_in o a f (slice_set w i (put_cell (c - 46) (is_in_domain c v) v (slice_index_or w i None))) ≡ put_tables u c key v =
    (λ j. record u { forwardings = p.rows j }) ∙ sym (put_tables-found CallForwarding u c key v (slice_index_or w i None) t (current_forwarding s o a f w i key l e h.forwarding_places k)) in
    record {
      tables = after;
      cells = record { subscriber_place = h.subscriber_place; access_places = h.access_places; facility_places = h.facility_places; forwarding_places = p.stand; home = home_after_put s u c key v _ free h.home after };
    }

-- ---- a forwarding deleted
pub record DeleteHome (s : ℕ) (u : Database) (key : List ℕ) (o : Option Tuple) (a f w : List (Option Tuple)) : Type 0 where
  pub tables : tables_in o a f w ≡ delete_tables u key
  pub cells : HoldHome s o a f w

pub delete_forwarding : (s : ℕ) (o : Option Tuple) (a f w : List (Option Tuple)) (key : List ℕ) (i : ℕ) → HoldHome s o a f w → length key ≡ 3 → slice_index key 0 ≡ s
    → slice_get forwarding_keys i ≡ Some (slice_index key 1 ∷ slice_index key 2 ∷ []) → DeleteHome s (tables_in o a f w) key o a f (slice_set w i None)
delete_forwarding s o a f w key i h l e k =
    let u = tables_in o a f w in
    let after : tables_in o a f (slice_set w i None) ≡ delete_tables u key =
    (λ j. record u { forwardings = takes_row s (slice_index key 1 ∷ slice_index key 2 ∷ []) forwarding_keys w i refl h.forwarding_places k j })
    ∙ ap (λ x. record u { forwardings = delete_rows u.forwardings x }) (sym (current_forwarding s o a f w i key l e h.forwarding_places k)) in
    record {
      tables = after;
      cells = record {
        subscriber_place = h.subscriber_place;
        access_places = h.access_places;
        facility_places = h.facility_places;
        forwarding_places = StandAt-set s (slice_index key 1 ∷ slice_index key 2 ∷ []) None forwarding_keys w i h.forwarding_places k tt;
        home = subst (λ x. IsHome (record { s_id = s; tables = x })) (sym after) (IsHome-delete (record { s_id = s; tables = u }) key h.home);
      };
    }

-- ---- a forwarding inserted
own_row : (home : SubscriberRows) (row : Tuple) → length row ≡ 5 → is_some (parent_of home.tables row) ≡ true → IsHome home → slice_index row 0 ≡ home.s_id
own_row home row l h is = elim (parent_of home.tables row) as (λ o. parent_of home.tables row ≡ o → is_some o ≡ true → slice_index row 0 ≡ home.s_id) [
  | None ↦ λ e k. cc
  | Some facility ↦ λ e k. first_is home.s_id row (own-from_parent home row facility (omega arith) e is.own)
] refl h

answer_ok : (fits : Bool) (parent there : Option Tuple) → fits ≡ true → is_some parent ≡ true → there ≡ None → insert_answer_at fits parent there ≡ Ok tt
answer_ok false parent there f p n = cc
answer_ok true None there f p n = cc
answer_ok true (Some facility) None f p n = refl
answer_ok true (Some facility) (Some row) f p n = cc

answer_there : (fits : Bool) (parent there : Option Tuple) → fits ≡ true → is_some parent ≡ true → is_some there ≡ true → insert_answer_at fits parent there ≡ Err KeyExists
answer_there false parent there f p n = cc
answer_there true None there f p n = cc
answer_there true (Some facility) None f p n = cc
answer_there true (Some facility) (Some row) f p n = refl

-- the row under the key of a new one is what stands in its place
under_key : (s : ℕ) (o : Option Tuple) (a f w : List (Option Tuple)) (row : Tuple) (i : ℕ) → HoldHome s o a f w → length row ≡ 5 → is_some (parent_of (tables_in o a f w) row) ≡ true
    → slice_get forwarding_keys i ≡ Some (slice_index row 1 ∷ slice_index row 2 ∷ []) → row_at (set_of (present w)) (forwarding_key row) ≡ slice_index_or w i None
under_key s o a f w row i h l p k =
    forwarding_at (forwarding_key row) s w i refl (own_row (record { s_id = s; tables = tables_in o a f w }) row l p h.home) h.forwarding_places k

pub insert_refused : (s : ℕ) (o : Option Tuple) (a f w : List (Option Tuple)) (row : Tuple) (i : ℕ) → HoldHome s o a f w → length row ≡ 5 → are_in_domain 46 row ≡ true → is_some (parent_of (tables_in o a f w) row) ≡ true
    → slice_get forwarding_keys i ≡ Some (slice_index row 1 ∷ slice_index row 2 ∷ []) → is_some (slice_index_or w i None) ≡ true → insert_answer (tables_in o a f w) row ≡ Err KeyExists
insert_refused s o a f w row i h l d p k there = answer_there _ _ _ d p (ap is_some (under_key s o a f w row i h l p k) ∙ there)

pub record InsertHome (s : ℕ) (u : Database) (row : Tuple) (o : Option Tuple) (a f w : List (Option Tuple)) : Type 0 where
  pub answer : insert_answer u row ≡ Ok tt
  pub tables : tables_in o a f w ≡ insert_tables u row
  pub cells : HoldHome s o a f w

row_key : (s : ℕ) (row : Tuple) → length row ≡ 5 → slice_index row 0 ≡ s → has_key (s ∷ slice_index row 1 ∷ slice_index row 2 ∷ []) row ≡ true
row_key s row l e = ap (λ x. has_key (x ∷ slice_index row 1 ∷ slice_index row 2 ∷ []) row) (sym e) ∙ ap (λ key. has_key key row) (sym (take-three row (omega arith))) ∙ has_key-take 3 row

none_there : (o : Option Tuple) → is_some o ≡ false → o ≡ None
none_there None e = refl
none_there (Some row) e = cc

pub insert_forwarding : (s : ℕ) (o : Option Tuple) (a f w : List (Option Tuple)) (row : Tuple) (i : ℕ) → HoldHome s o a f w → length row ≡ 5 → are_in_domain 46 row ≡ true → is_some (parent_of (tables_in o a f w) row) ≡ true
    → slice_get forwarding_keys i ≡ Some (slice_index row 1 ∷ slice_index row 2 ∷ []) → is_some (slice_index_or w i None) ≡ false → InsertHome s (tables_in o a f w) row o a f (slice_set w i (Some row))
insert_forwarding s o a f w row i h l d p k empty =
    let u = tables_in o a f w in
    let none : slice_index_or w i None ≡ None = none_there _ empty in
    let ok : insert_answer u row ≡ Ok tt = answer_ok _ _ _ d p (under_key s o a f w row i h l p k ∙ none) in
    let own = own_row (record { s_id = s; tables = u }) row l p h.home in
    let after : tables_in o a f (slice_set w i (Some row)) ≡ insert_tables u row =
    (λ j. record u { forwardings = holds_row s (slice_index row 1 ∷ slice_index row 2 ∷ []) forwarding_keys w i row refl h.forwarding_places k none j })
    ∙ ap (λ x. record u { forwardings = insert_rows_at u.forwardings row x }) (sym ok) in
    record {
      answer = ok;
      tables = after;
      cells = record {
        subscriber_place = h.subscriber_place;
        access_places = h.access_places;
        facility_places = h.facility_places;
        forwarding_places = StandAt-set s (slice_index row 1 ∷ slice_index row 2 ∷ []) (Some row) forwarding_keys w i h.forwarding_places k (row_key s row l own);
        home = subst (λ x. IsHome (record { s_id = s; tables = x })) (sym after) (IsHome-insert (record { s_id = s; tables = u }) row l h.home);
      };
    }

-- the columns of a forwarding, one by one
pub five_in_domain : (row : Tuple) → length row ≡ 5 → are_in_domain 46 row
    ≡ (is_in_domain 46 (slice_index row 0) && (is_in_domain 47 (slice_index row 1) && (is_in_domain 48 (slice_index row 2) && (is_in_domain 49 (slice_index row 3) && (is_in_domain 50 (slice_index row 4) && true)))))
five_in_domain [] l = absurd (omega arith)
five_in_domain (a ∷ []) l = absurd (omega arith)
five_in_domain (a ∷ b ∷ []) l = absurd (omega arith)
five_in_domain (a ∷ b ∷ c ∷ []) l = absurd (omega arith)
five_in_domain (a ∷ b ∷ c ∷ d ∷ []) l = absurd (omega arith)
five_in_domain (a ∷ b ∷ c ∷ d ∷ e ∷ []) l = refl
five_in_domain (a ∷ b ∷ c ∷ d ∷ e ∷ f ∷ more) l = absurd (omega arith)

pub five_fit : (a b c d e : Bool) → a ≡ true → d ≡ true → e ≡ true → (b && c) ≡ (a && (b && (c && (d && (e && true)))))
five_fit a b c d e f g h = λ i. sym f i && (b && and_true c d e g h i)
  where
    and_true : (c d e : Bool) → d ≡ true → e ≡ true → c ≡ (c && (d && (e && true)))
    and_true true d e g h = λ i. sym g i && (sym h i && true)
    and_true false d e g h = refl

pub deleted_answer : (o : Option Tuple) → ok_or o NoCurrent ≡ delete_answer_at o
deleted_answer None = refl
deleted_answer (Some row) = refl

-- ---- each change undone, as the clauses say it
pub put_undone : (home : SubscriberRows) (c : ℕ) (key : List ℕ) (v : ℕ) (answer : Result ℕ Refusal) (after : Database) → IsHome home → is_fixed c ≡ false → c ≤ 50 → length key ≡ 3
    → answer ≡ put_answer home.tables c key v → after ≡ put_tables home.tables c key v → IfOk answer (λ before. put_tables after c key before ≡ home.tables)
put_undone home c key v (Ok before) after is free le l e t = ap (λ u. put_tables u c key before) t ∙ put-back home c key v before is free le l (sym e)
put_undone home c key v (Err refusal) after is free le l e t = tt

pub delete_undone : (home : SubscriberRows) (key : List ℕ) (answer : Result Tuple Refusal) (after : Database) → IsHome home
    → answer ≡ delete_answer home.tables key → after ≡ delete_tables home.tables key → IfOk answer (λ row. insert_tables after row ≡ home.tables)
delete_undone home key (Ok row) after is e t = ap (λ u. insert_tables u row) t ∙ delete-back home key row is (sym e)
delete_undone home key (Err refusal) after is e t = tt
