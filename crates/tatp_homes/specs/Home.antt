-- A home: the rows of one s_id, and what holds of every home.
use Rattle.std.specs.Prelude.{◌≡◌, ℕ, nat_eq, Bool, true, is_some, [], ◌∷◌, take, refl}
use Rattle.std.specs.Cmp.Lexicographic.{pointwise}
use Rattle.std.specs.Ordering.{on, eq_of_both}
use Rattle.std.specs.Coded.{Coded, code_by, coded×, coded_ℕ}
use Rattle.tatp_tables.specs.Tuples.{Tuple, Tuples, tuples_code, rows_of, has, insert_row}
use Rattle.tatp_tables.specs.Keys.{has_key, row_at}
use Rattle.tatp_tables.specs.Columns.{key_length}
use Rattle.tatp_tables.specs.Domains.{is_row}
use Rattle.tatp_tables.specs.Database.{Database, in_table, with_table, of_subscriber}
use Rattle.tatp_tables.specs.declared.table.Table.{Table}
use Rattle.tatp_tables.specs.declared.table.Table.TheVariants.{Subscriber, AccessInfo, SpecialFacility, CallForwarding}

-- what contracts see of a home
pub record SubscriberRows : Type 0 where
  pub s_id : ℕ
  pub tables : Database

abbrev pub subscriber_rows_code : Coded SubscriberRows
subscriber_rows_code = code_by
    (ℕ × (Tuples × (Tuples × (Tuples × Tuples))))
    (coded× coded_ℕ (coded× tuples_code (coded× tuples_code (coded× tuples_code tuples_code))))
    (λ h. (
      h.s_id,
      (h.tables.subscribers, (h.tables.accesses, (h.tables.facilities, h.tables.forwardings))),
    ))
    (λ p. record {
      s_id = p.0;
      tables = record {
        subscribers = p.1.0;
        accesses = p.1.1.0;
        facilities = p.1.1.1.0;
        forwardings = p.1.1.1.1;
      };
    })
    (λ _. refl)

-- whether two sets have the same rows
abbrev pub same_rows : Tuples → Tuples → Bool
same_rows = on rows_of (pointwise (pointwise nat_eq))

-- whether two databases have the same rows in each table
abbrev pub same_tables : Database → Database → Bool
same_tables =
    eq_of_both (on (λ u. u.subscribers) same_rows)
    (eq_of_both (on (λ u. u.accesses) same_rows)
    (eq_of_both (on (λ u. u.facilities) same_rows) (on (λ u. u.forwardings) same_rows)))

-- whether two homes have the same s_id and the same rows
abbrev pub same_home : SubscriberRows → SubscriberRows → Bool
same_home = eq_of_both (on (λ h. h.s_id) nat_eq) (on (λ h. h.tables) same_tables)

-- the home of an s_id in a database
abbrev pub home_in : Database → ℕ → SubscriberRows
home_in u s = record { s_id = s; tables = of_subscriber u s }

-- a home with the rows of one table changed
abbrev pub home_with : SubscriberRows → Table → Tuples → SubscriberRows
home_with home t rows = record { s_id = home.s_id; tables = with_table t home.tables rows }

-- a home with one more row of a table
abbrev pub home_with_row : SubscriberRows → Table → Tuple → SubscriberRows
home_with_row home t row = home_with home t (insert_row (in_table t home.tables) row)

-- each row has this s_id
abbrev pub HaveSId : ℕ → Database → Type 0
HaveSId s u = (t : Table) (row : Tuple) → has (in_table t u) row ≡ true
    → has_key (s ∷ []) row ≡ true

-- each row has its table's columns, each value in its domain
abbrev pub AreRows : Database → Type 0
AreRows u = (t : Table) (row : Tuple) → has (in_table t u) row ≡ true → is_row t row ≡ true

-- no two rows of a table have one primary key
abbrev pub KeysAreUnique : Database → Type 0
KeysAreUnique u = (t : Table) (row other : Tuple)
    → has (in_table t u) row ≡ true → has (in_table t u) other ≡ true
    → take (key_length t) row ≡ take (key_length t) other → row ≡ other

-- each row of these has its parent, whose key is the row's first n columns, among those
abbrev pub HaveParents : ℕ → Tuples → Tuples → Type 0
HaveParents n parents rows = (row : Tuple) → has rows row ≡ true
    → is_some (row_at parents (take n row)) ≡ true

-- Access_Info and Special_Facility rows have their subscriber, Call_Forwarding rows their facility
pub record ParentsExist (u : Database) : Type 0 where
  pub of_accesses : HaveParents 1 u.subscribers u.accesses
  pub of_facilities : HaveParents 1 u.subscribers u.facilities
  pub of_forwardings : HaveParents 2 u.facilities u.forwardings

-- the parent of a row of a table is there
abbrev pub HasParent : Table → Database → Tuple → Type 0
HasParent Subscriber u row = Unit {0}
HasParent AccessInfo u row = is_some (row_at u.subscribers (take 1 row)) ≡ true
HasParent SpecialFacility u row = is_some (row_at u.subscribers (take 1 row)) ≡ true
HasParent CallForwarding u row = is_some (row_at u.facilities (take 2 row)) ≡ true

-- what holds of every home
pub record IsHome (home : SubscriberRows) : Type 0 where
  pub own : HaveSId home.s_id home.tables
  pub rows : AreRows home.tables
  pub keys : KeysAreUnique home.tables
  pub parents : ParentsExist home.tables
