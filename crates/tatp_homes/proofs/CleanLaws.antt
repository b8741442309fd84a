-- What clean lists say of the row at a place: it fits, its key is new, its parent is there.
use Rattle.std.specs.Prelude.{◌≡◌, ℕ, ◌≤◌, ◌<◌, true, List, [], ◌∷◌, take, length, None, is_some, slice_index, slice_index_or}
use Rattle.std.proofs.Common.{sym, ap, ◌∙◌, arith}
use Rattle.std.proofs.lemmas.Bool.{and_parts, and_from}
use Rattle.tatp_tables.specs.Tuples.{Tuple, has, set_of, insert_row}
use Rattle.tatp_tables.proofs.TupleLaws.{has-set_of}
use Rattle.tatp_tables.proofs.FindLaws.{none_in}
use Rattle.tatp_tables.proofs.CountLaws.{none_counted, one_counted, none_before, ids_stand_once}
use Rattle.tatp_tables.specs.Keys.{has_key, row_at}
use Rattle.tatp_tables.proofs.KeyLaws.{heads_equal, has_key-head, has_key-front, has_key-take, row_at-some, take-one, take-two, take-three}
use Rattle.tatp_tables.specs.Columns.{key_length}
use Rattle.tatp_tables.specs.Domains.{is_row}
use Rattle.tatp_tables.specs.Rows.{rows_in}
use Rattle.tatp_tables.specs.Database.{Database, in_table, with_table, rows_with_s_id}
use Rattle.tatp_homes.specs.Home.{SubscriberRows, HasParent, IsHome}
use Rattle.tatp_homes.proofs.ChangeLaws.{IsHome-hold}
use Rattle.tatp_homes.proofs.UndoLaws.{is_row-length}
use Rattle.tatp_homes.proofs.SubscriberLaws.{has-rows_with_s_id}
use Rattle.tatp_tables.specs.Clean.{count_of_key, IdsRunFromOne, KeysStandOnce, ParentsStand, ValuesFit, IsClean}
use Rattle.tatp_tables.specs.declared.row.Rows.{Rows}
use Rattle.tatp_tables.specs.declared.table.Table.{Table}
use Rattle.tatp_tables.specs.declared.table.Table.TheVariants.{Subscriber, AccessInfo, SpecialFacility, CallForwarding}

-- ---- a key that is counted once is new at its place
pub key_is_new : (n s : ℕ) (xs : List Tuple) (i : ℕ) (d : Tuple) → i < length xs → count_of_key (take n (slice_index_or xs i d)) xs ≤ 1
    → row_at (rows_with_s_id s (set_of (take i xs))) (take n (slice_index_or xs i d)) ≡ None
key_is_new n s xs i d lt once =
    let key : Tuple = take n (slice_index_or xs i d) in
    none_in (has_key key) (rows_with_s_id s (set_of (take i xs))) (λ q hq. none_counted (has_key key) (take i xs) q
    (none_before (has_key key) xs i d lt (has_key-take n (slice_index_or xs i d)) once)
    (sym (has-set_of (take i xs) q) ∙ (and_parts (has (set_of (take i xs)) q) (has_key (s ∷ []) q) (sym (has-rows_with_s_id s (set_of (take i xs)) q) ∙ hq)).0))

-- a row with a key that has the s_id has the s_id
s_id-from_key : (s : ℕ) (key row : Tuple) → has_key (s ∷ []) key ≡ true → has_key key row ≡ true → has_key (s ∷ []) row ≡ true
s_id-from_key s [] row h k = cc
s_id-from_key s (x ∷ key) row h k = ap (λ a. has_key (a ∷ []) row) (sym (heads_equal x s true h)) ∙ has_key-head x key row k

s_id-of_key : (n s : ℕ) (row : Tuple) → 1 ≤ n → has_key (s ∷ []) row ≡ true → has_key (s ∷ []) (take n row) ≡ true
s_id-of_key n s row l h = sym (has_key-front n (s ∷ []) row l) ∙ h

-- a parent that is counted is found among the rows of the s_id
pub parent_is_there : (n s : ℕ) (parents : List Tuple) (row : Tuple) → 1 ≤ n → has_key (s ∷ []) row ≡ true → 1 ≤ count_of_key (take n row) parents
    → is_some (row_at (rows_with_s_id s (set_of parents)) (take n row)) ≡ true
parent_is_there n s parents row l own h =
    let one = one_counted (has_key (take n row)) parents h in
    row_at-some (rows_with_s_id s (set_of parents)) (take n row) one.row
    (has-rows_with_s_id s (set_of parents) one.row ∙ and_from (has (set_of parents) one.row) (has_key (s ∷ []) one.row) (has-set_of parents one.row ∙ one.is_in)
    (s_id-from_key s (take n row) one.row (s_id-of_key n s row l own) one.passes))
    one.passes

-- ---- the row at a place of a clean list
-- it has its table's columns, each in its domain
pub row_fits : (t : Table) (r : Rows) (i : ℕ) (d : Tuple) → ValuesFit r → i < length (rows_in t r) → is_row t (slice_index_or (rows_in t r) i d) ≡ true
row_fits Subscriber r i d fit lt = fit.subscribers i d lt
row_fits AccessInfo r i d fit lt = fit.accesses i d lt
row_fits SpecialFacility r i d fit lt = fit.facilities i d lt
row_fits CallForwarding r i d fit lt = fit.forwardings i d lt

-- a row's primary key stands once in its table's list
pub row_key_stands_once : (t : Table) (r : Rows) (row : Tuple) → IdsRunFromOne r → KeysStandOnce r → is_row t row ≡ true → count_of_key (take (key_length t) row) (rows_in t r) ≤ 1
row_key_stands_once Subscriber r row ids keys fits = let l = is_row-length Subscriber row fits in
    rw (take-one row (omega arith)) (ids_stand_once r ids (slice_index row 0))
row_key_stands_once AccessInfo r row ids keys fits = let l = is_row-length AccessInfo row fits in
    rw (take-two row (omega arith)) (keys.accesses (slice_index row 0) (slice_index row 1))
row_key_stands_once SpecialFacility r row ids keys fits = let l = is_row-length SpecialFacility row fits in
    rw (take-two row (omega arith)) (keys.facilities (slice_index row 0) (slice_index row 1))
row_key_stands_once CallForwarding r row ids keys fits = let l = is_row-length CallForwarding row fits in
    rw (take-three row (omega arith)) (keys.forwardings (slice_index row 0) (slice_index row 1) (slice_index row 2))

-- no row before it, of any s_id, has its key
pub row_is_new : (t : Table) (r : Rows) (s i : ℕ) (d : Tuple) → IsClean r → i < length (rows_in t r)
    → row_at (rows_with_s_id s (set_of (take i (rows_in t r)))) (take (key_length t) (slice_index_or (rows_in t r) i d)) ≡ None
row_is_new t r s i d clean lt = key_is_new (key_length t) s (rows_in t r) i d lt
    (row_key_stands_once t r (slice_index_or (rows_in t r) i d) clean.ids clean.keys (row_fits t r i d clean.values lt))

pub access_has_parent : (r : Rows) (s i : ℕ) (d : Tuple) → ParentsStand r → i < length r.accesses → has_key (s ∷ []) (slice_index_or r.accesses i d) ≡ true
    → is_some (row_at (rows_with_s_id s (set_of r.subscribers)) (take 1 (slice_index_or r.accesses i d))) ≡ true
access_has_parent r s i d stand lt own = parent_is_there 1 s r.subscribers (slice_index_or r.accesses i d) (omega arith) own (stand.accesses i d lt)

pub facility_has_parent : (r : Rows) (s i : ℕ) (d : Tuple) → ParentsStand r → i < length r.facilities → has_key (s ∷ []) (slice_index_or r.facilities i d) ≡ true
    → is_some (row_at (rows_with_s_id s (set_of r.subscribers)) (take 1 (slice_index_or r.facilities i d))) ≡ true
facility_has_parent r s i d stand lt own = parent_is_there 1 s r.subscribers (slice_index_or r.facilities i d) (omega arith) own (stand.facilities i d lt)

pub forwarding_has_parent : (r : Rows) (s i : ℕ) (d : Tuple) → ParentsStand r → i < length r.forwardings → has_key (s ∷ []) (slice_index_or r.forwardings i d) ≡ true
    → is_some (row_at (rows_with_s_id s (set_of r.facilities)) (take 2 (slice_index_or r.forwardings i d))) ≡ true
forwarding_has_parent r s i d stand lt own = parent_is_there 2 s r.facilities (slice_index_or r.forwardings i d) (omega arith) own (stand.forwardings i d lt)

-- ---- the next row of a clean list goes into its home
-- the rows that may be parents of a table's rows are all there
abbrev pub ParentsLoaded : Table → ℕ → Rows → Database → Type 0
ParentsLoaded Subscriber s r u = Unit {0}
ParentsLoaded AccessInfo s r u = u.subscribers ≡ rows_with_s_id s (set_of r.subscribers)
ParentsLoaded SpecialFacility s r u = u.subscribers ≡ rows_with_s_id s (set_of r.subscribers)
ParentsLoaded CallForwarding s r u = u.facilities ≡ rows_with_s_id s (set_of r.facilities)

pub row_has_parent : (t : Table) (r : Rows) (u : Database) (s i : ℕ) (d : Tuple) → ParentsStand r → ParentsLoaded t s r u → i < length (rows_in t r)
    → has_key (s ∷ []) (slice_index_or (rows_in t r) i d) ≡ true → HasParent t u (slice_index_or (rows_in t r) i d)
row_has_parent Subscriber r u s i d stand loaded lt own = tt
row_has_parent AccessInfo r u s i d stand loaded lt own = rw loaded (access_has_parent r s i d stand lt own)
row_has_parent SpecialFacility r u s i d stand loaded lt own = rw loaded (facility_has_parent r s i d stand lt own)
row_has_parent CallForwarding r u s i d stand loaded lt own = rw loaded (forwarding_has_parent r s i d stand lt own)

pub IsHome-next : (home : SubscriberRows) (t : Table) (r : Rows) (i : ℕ) (d : Tuple) → IsClean r → i < length (rows_in t r)
    → in_table t home.tables ≡ rows_with_s_id home.s_id (set_of (take i (rows_in t r))) → ParentsLoaded t home.s_id r home.tables
    → has_key (home.s_id ∷ []) (slice_index_or (rows_in t r) i d) ≡ true → IsHome home
    → IsHome (record { s_id = home.s_id; tables = with_table t home.tables (insert_row (in_table t home.tables) (slice_index_or (rows_in t r) i d)) })
IsHome-next home t r i d clean lt so_far loaded own is =
    let row = slice_index_or (rows_in t r) i d in
    IsHome-hold home t row (row_fits t r i d clean.values lt) own
    (ap (λ u. row_at u (take (key_length t) row)) so_far ∙ row_is_new t r home.s_id i d clean lt)
    (row_has_parent t r home.tables home.s_id i d clean.parents loaded lt own) is
