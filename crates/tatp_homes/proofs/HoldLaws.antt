-- A row put into the empty cell of its key: the cells hold a home with that row besides.
use Rattle.std.specs.Prelude.{◌≡◌, ◌≢◌, ℕ, ◌+◌, ◌<◌, ◌≤◌, true, List, [], ◌∷◌, Option, Some, None, length, take, slice_get, slice_set, slice_index, slice_index_or}
use Rattle.std.proofs.Common.{refl, sym, ap, subst, ◌∙◌, arith}
use Rattle.tatp_tables.specs.Tuples.{Tuple, set_of, insert_row}
use Rattle.tatp_tables.specs.Keys.{has_key, row_at}
use Rattle.tatp_tables.specs.Columns.{key_length, column_count}
use Rattle.tatp_tables.specs.Domains.{is_in_domain, is_row}
use Rattle.tatp_tables.specs.Rows.{rows_in}
use Rattle.tatp_tables.specs.Database.{Database, in_table, with_table, of_subscriber}
use Rattle.tatp_homes.specs.Home.{SubscriberRows, home_in, home_with, HasParent, IsHome}
use Rattle.tatp_tables.specs.Clean.{IsClean}
use Rattle.tatp_homes.specs.Loading.{read_until}
use Rattle.tatp_homes.specs.Cells.{present, StandAt, HoldHome, tables_in, subscriber_keys, type_keys}
use Rattle.tatp_tables.proofs.KeyLaws.{take-one, take-two, has_key-take, first_is, first_has_key}
use Rattle.tatp_homes.proofs.ChangeLaws.{IsHome-hold}
use Rattle.tatp_homes.proofs.UndoLaws.{is_row-length, is_row-at}
use Rattle.tatp_homes.proofs.CleanLaws.{row_fits, row_is_new, row_has_parent}
use Rattle.tatp_homes.proofs.CellLaws.{StandAt-set}
use Rattle.tatp_homes.proofs.PlaceLaws.{subscriber_at, type_at}
use Rattle.tatp_homes.proofs.StorageLaws.{holds_row}
use Rattle.tatp_homes.proofs.LoadingLaws.{own-next, other-next, not_own}
use Rattle.tatp_tables.specs.declared.row.Rows.{Rows}
use Rattle.tatp_tables.specs.declared.table.Table.{Table}
use Rattle.tatp_tables.specs.declared.table.Table.TheVariants.{Subscriber, AccessInfo, SpecialFacility, CallForwarding}

-- ---- one home
pub record RowHeld (s : ℕ) (u : Database) (t : Table) (row : Tuple) (o : Option Tuple) (a f w : List (Option Tuple)) : Type 0 where
  pub tables : tables_in o a f w ≡ with_table t u (insert_row (in_table t u) row)
  pub cells : HoldHome s o a f w

home_after_hold : (s : ℕ) (u : Database) (t : Table) (row : Tuple) (after : Database) → is_row t row ≡ true → has_key (s ∷ []) row ≡ true → row_at (in_table t u) (take (key_length t) row) ≡ None → HasParent t u row
    → IsHome (record { s_id = s; tables = u }) → after ≡ with_table t u (insert_row (in_table t u) row) → IsHome (record { s_id = s; tables = after })
home_after_hold s u t row after fits own free parent is e = subst (λ x. IsHome (record { s_id = s; tables = x })) (sym e) (IsHome-hold (record { s_id = s; tables = u }) t row fits own free parent is)

pub hold_subscriber : (s : ℕ) (o : Option Tuple) (a f w : List (Option Tuple)) (row : Tuple) → HoldHome s o a f w → is_row Subscriber row ≡ true → has_key (s ∷ []) row ≡ true
    → row_at (set_of (present (o ∷ []))) (take 1 row) ≡ None → RowHeld s (tables_in o a f w) Subscriber row (Some row) a f w
hold_subscriber s o a f w row h fits own free =
    let u = tables_in o a f w in
    let long : length row ≡ 34 = is_row-length Subscriber row fits in
    let empty : o ≡ None = sym (subscriber_at (slice_index row 0) s o (first_is s row own) h.subscriber_place) ∙ ap (row_at (set_of (present (o ∷ [])))) (sym (take-one row (omega arith))) ∙ free in
    let after : tables_in (Some row) a f w ≡ with_table Subscriber u (insert_row u.subscribers row) = λ j. record u { subscribers = holds_row s [] subscriber_keys (o ∷ []) 0 row refl h.subscriber_place refl empty j } in
    record {
      tables = after;
      cells = record {
        subscriber_place = StandAt-set s [] (Some row) subscriber_keys (o ∷ []) 0 h.subscriber_place refl own;
        access_places = h.access_places;
        facility_places = h.facility_places;
        forwarding_places = h.forwarding_places;
        home = home_after_hold s u Subscriber row _ fits own free tt h.home after;
      };
    }

-- a row's key of two parts
type_key : (s : ℕ) (row : Tuple) → 2 ≤ length row → has_key (s ∷ []) row ≡ true → has_key (s ∷ slice_index row 1 ∷ []) row ≡ true
type_key s row l own = ap (λ x. has_key (x ∷ slice_index row 1 ∷ []) row) (sym (first_is s row own)) ∙ ap (λ key. has_key key row) (sym (take-two row l)) ∙ has_key-take 2 row

empty_type : (s : ℕ) (cells : List (Option Tuple)) (row : Tuple) (i : ℕ) → 2 ≤ length row → has_key (s ∷ []) row ≡ true → StandAt s type_keys cells → slice_get type_keys i ≡ Some (slice_index row 1 ∷ [])
    → row_at (set_of (present cells)) (take 2 row) ≡ None → slice_index_or cells i None ≡ None
empty_type s cells row i l own all k free =
    sym (type_at (slice_index row 0) s (slice_index row 1) cells i (first_is s row own) all k) ∙ ap (row_at (set_of (present cells))) (sym (take-two row l)) ∙ free

pub hold_access : (s : ℕ) (o : Option Tuple) (a f w : List (Option Tuple)) (row : Tuple) (i : ℕ) → HoldHome s o a f w → is_row AccessInfo row ≡ true → has_key (s ∷ []) row ≡ true
    → row_at (set_of (present a)) (take 2 row) ≡ None → HasParent AccessInfo (tables_in o a f w) row → slice_get type_keys i ≡ Some (slice_index row 1 ∷ [])
    → RowHeld s (tables_in o a f w) AccessInfo row o (slice_set a i (Some row)) f w
hold_access s o a f w row i h fits own free parent k =
    let u = tables_in o a f w in
    let long : length row ≡ 6 = is_row-length AccessInfo row fits in
    let empty = empty_type s a row i (omega arith) own h.access_places k free in
    let after : tables_in o (slice_set a i (Some row)) f w ≡ with_table AccessInfo u (insert_row u.accesses row) = λ j. record u { accesses = holds_row s (slice_index row 1 ∷ []) type_keys a i row refl h.access_places k empty j } in
    record {
      tables = after;
      cells = record {
        subscriber_place = h.subscriber_place;
        access_places = StandAt-set s (slice_index row 1 ∷ []) (Some row) type_keys a i h.access_places k (type_key s row (omega arith) own);
        facility_places = h.facility_places;
        forwarding_places = h.forwarding_places;
        home = home_after_hold s u AccessInfo row _ fits own free parent h.home after;
      };
    }

pub hold_facility : (s : ℕ) (o : Option Tuple) (a f w : List (Option Tuple)) (row : Tuple) (i : ℕ) → HoldHome s o a f w → is_row SpecialFacility row ≡ true → has_key (s ∷ []) row ≡ true
    → row_at (set_of (present f)) (take 2 row) ≡ None → HasParent SpecialFacility (tables_in o a f w) row → slice_get type_keys i ≡ Some (slice_index row 1 ∷ [])
    → RowHeld s (tables_in o a f w) SpecialFacility row o a (slice_set f i (Some row)) w
hold_facility s o a f w row i h fits own free parent k =
    let u = tables_in o a f w in
    let long : length row ≡ 6 = is_row-length SpecialFacility row fits in
    let empty = empty_type s f row i (omega arith) own h.facility_places k free in
    let after : tables_in o a (slice_set f i (Some row)) w ≡ with_table SpecialFacility u (insert_row u.facilities row) = λ j. record u { facilities = holds_row s (slice_index row 1 ∷ []) type_keys f i row refl h.facility_places k empty j } in
    record {
      tables = after;
      cells = record {
        subscriber_place = h.subscriber_place;
        access_places = h.access_places;
        facility_places = StandAt-set s (slice_index row 1 ∷ []) (Some row) type_keys f i h.facility_places k (type_key s row (omega arith) own);
        forwarding_places = h.forwarding_places;
        home = home_after_hold s u SpecialFacility row _ fits own free parent h.home after;
      };
    }

-- a row's type has a place
types_alike : (v : ℕ) → is_in_domain 35 v ≡ is_in_domain 47 v
unfolding is_in_domain
types_alike v = refl

types_of_facilities : (v : ℕ) → is_in_domain 41 v ≡ is_in_domain 47 v
unfolding is_in_domain
types_of_facilities v = refl

pub type_of_access : (row : Tuple) → is_row AccessInfo row ≡ true → is_in_domain 47 (slice_index row 1) ≡ true
type_of_access row fits = sym (types_alike (slice_index row 1)) ∙ is_row-at AccessInfo row 1 fits (omega arith)

pub type_of_facility : (row : Tuple) → is_row SpecialFacility row ≡ true → is_in_domain 47 (slice_index row 1) ≡ true
type_of_facility row fits = sym (types_of_facilities (slice_index row 1)) ∙ is_row-at SpecialFacility row 1 fits (omega arith)

-- ---- the next row of a table, and its home
-- what its home asks of the row
pub record RowWanted (t : Table) (home : SubscriberRows) (row : Tuple) : Type 0 where
  pub own : has_key (home.s_id ∷ []) row ≡ true
  pub free : row_at (in_table t home.tables) (take (key_length t) row) ≡ None
  pub parent : HasParent t home.tables row

wanted_at : (t : Table) (r : Rows) (i s : ℕ) (d : Tuple) → IsClean r → i < length (rows_in t r) → has_key (s ∷ []) (slice_index_or (rows_in t r) i d) ≡ true → RowWanted t (home_in (read_until t r i) s) (slice_index_or (rows_in t r) i d)
wanted_at Subscriber r i s d clean lt own = record { own = own; free = row_is_new Subscriber r s i d clean lt; parent = tt }
wanted_at AccessInfo r i s d clean lt own = record { own = own; free = row_is_new AccessInfo r s i d clean lt; parent = row_has_parent AccessInfo r (of_subscriber (read_until AccessInfo r i) s) s i d clean.parents refl lt own }
wanted_at SpecialFacility r i s d clean lt own = record { own = own; free = row_is_new SpecialFacility r s i d clean lt; parent = row_has_parent SpecialFacility r (of_subscriber (read_until SpecialFacility r i) s) s i d clean.parents refl lt own }
wanted_at CallForwarding r i s d clean lt own = record { own = own; free = row_is_new CallForwarding r s i d clean lt; parent = row_has_parent CallForwarding r (of_subscriber (read_until CallForwarding r i) s) s i d clean.parents refl lt own }

one_column : (t : Table) → 1 ≤ column_count t
one_column Subscriber = omega arith
one_column AccessInfo = omega arith
one_column SpecialFacility = omega arith
one_column CallForwarding = omega arith

-- a row that is read next
pub record IsNext (t : Table) (r : Rows) (i : ℕ) (row : Tuple) : Type 0 where
  pub clean : IsClean r
  pub more : i < length (rows_in t r)
  pub is : row ≡ slice_index_or (rows_in t r) i []

pub next_fits : (t : Table) (r : Rows) (i : ℕ) (row : Tuple) → IsNext t r i row → is_row t row ≡ true
next_fits t r i row next = ap (is_row t) next.is ∙ row_fits t r i [] next.clean.values next.more

pub next_has_column : (t : Table) (r : Rows) (i : ℕ) (row : Tuple) → IsNext t r i row → 0 < length row
next_has_column t r i row next = omega (arith, is_row-length t row (next_fits t r i row next), one_column t)

pub next_own : (t : Table) (r : Rows) (i s : ℕ) (row : Tuple) → IsNext t r i row → slice_index row 0 ≡ s → has_key (s ∷ []) (slice_index_or (rows_in t r) i []) ≡ true
next_own t r i s row next at =
    ap (has_key (s ∷ [])) (sym next.is) ∙ ap (λ q. has_key (q ∷ []) row) (sym at) ∙ first_has_key (slice_index row 0) row (next_has_column t r i row next) refl

pub wanted : (t : Table) (r : Rows) (i s : ℕ) (row : Tuple) (home : SubscriberRows) → IsNext t r i row → home ≡ home_in (read_until t r i) s → slice_index row 0 ≡ s → RowWanted t home row
wanted t r i s row home next is at =
    subst (λ h. RowWanted t h row) (sym is) (subst (RowWanted t (home_in (read_until t r i) s)) (sym next.is) (wanted_at t r i s [] next.clean next.more (next_own t r i s row next at)))

-- one home after it
pub home_held : (t : Table) (r : Rows) (i s : ℕ) (row : Tuple) (home new : SubscriberRows) → IsNext t r i row → home ≡ home_in (read_until t r i) s → slice_index row 0 ≡ s
    → new ≡ home_with home t (insert_row (in_table t home.tables) row) → new ≡ home_in (read_until t r (i + 1)) s
home_held t r i s row home new next is at held =
    held ∙ (λ j. home_with (is j) t (insert_row (in_table t (is j).tables) (next.is j))) ∙ sym (own-next t r i s [] next.more (next_own t r i s row next at))

pub home_passed : (t : Table) (r : Rows) (i s : ℕ) (row : Tuple) (home : SubscriberRows) → IsNext t r i row → home ≡ home_in (read_until t r i) s → slice_index row 0 ≢ s → home ≡ home_in (read_until t r (i + 1)) s
home_passed t r i s row home next is other =
    is ∙ sym (other-next t r i s [] next.more (not_own (slice_index row 0) s (slice_index_or (rows_in t r) i []) (next_own t r i (slice_index row 0) row next refl) (λ e. other (sym e))))
