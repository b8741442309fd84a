-- trusted: read it
-- A database: four finite sets of tuples. The rows of one subscriber in it, and the database with
-- those replaced.
use Rattle.std.specs.Prelude.{ℕ, not, List, [], ◌∷◌, Option, take}
use Rattle.tatp_tables.specs.Tuples.{Tuple, Tuples, no_rows, retain_rows, set_of, union}
use Rattle.tatp_tables.specs.Keys.{has_key, row_at}
use Rattle.tatp_tables.specs.Columns.{key_length}
use Rattle.tatp_tables.specs.declared.row.Rows.{Rows}
use Rattle.tatp_tables.specs.declared.table.Table.{Table}
use Rattle.tatp_tables.specs.declared.table.Table.TheVariants.{Subscriber, AccessInfo, SpecialFacility, CallForwarding}

pub record Database : Type 0 where
  pub subscribers : Tuples
  pub accesses : Tuples
  pub facilities : Tuples
  pub forwardings : Tuples

abbrev pub no_tables : Database
no_tables = record {
  subscribers = no_rows;
  accesses = no_rows;
  facilities = no_rows;
  forwardings = no_rows;
}

-- the database of four lists of rows
abbrev pub database_of : Rows → Database
database_of r = record {
  subscribers = set_of r.subscribers;
  accesses = set_of r.accesses;
  facilities = set_of r.facilities;
  forwardings = set_of r.forwardings;
}

abbrev pub in_table : Table → Database → Tuples
in_table Subscriber u = u.subscribers
in_table AccessInfo u = u.accesses
in_table SpecialFacility u = u.facilities
in_table CallForwarding u = u.forwardings

abbrev pub with_table : Table → Database → Tuples → Database
with_table Subscriber u rows = record u { subscribers = rows }
with_table AccessInfo u rows = record u { accesses = rows }
with_table SpecialFacility u rows = record u { facilities = rows }
with_table CallForwarding u rows = record u { forwardings = rows }

-- the rows of one table whose s_id is this
abbrev pub rows_with_s_id : ℕ → Tuples → Tuples
rows_with_s_id s u = retain_rows (has_key (s ∷ [])) u

-- the rows of one table whose s_id is another
abbrev pub rows_without_s_id : ℕ → Tuples → Tuples
rows_without_s_id s u = retain_rows (λ row. not (has_key (s ∷ []) row)) u

-- the rows of one subscriber: the four sets filtered by s_id
abbrev pub of_subscriber : Database → ℕ → Database
of_subscriber u s = record {
  subscribers = rows_with_s_id s u.subscribers;
  accesses = rows_with_s_id s u.accesses;
  facilities = rows_with_s_id s u.facilities;
  forwardings = rows_with_s_id s u.forwardings;
}

-- the database with the rows of one subscriber replaced by these
abbrev pub with_subscriber : Database → ℕ → Database → Database
with_subscriber u s v = record {
  subscribers = union (rows_without_s_id s u.subscribers) v.subscribers;
  accesses = union (rows_without_s_id s u.accesses) v.accesses;
  facilities = union (rows_without_s_id s u.facilities) v.facilities;
  forwardings = union (rows_without_s_id s u.forwardings) v.forwardings;
}

-- the row of a table with the key that these values begin with: a key of three parts, or a row
abbrev pub current_row : Table → Database → List ℕ → Option Tuple
current_row t u key = row_at (in_table t u) (take (key_length t) key)
