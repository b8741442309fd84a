-- Lists of rows, table by table.
use Rattle.std.specs.Prelude.{◌≡◌, List, [], ◌∷◌, ◌++◌, length, take}
use Rattle.tatp_tables.specs.Tuples.{Tuple, rows_of}
use Rattle.tatp_tables.specs.Database.{Database}
use Rattle.tatp_tables.specs.declared.row.Row.{Row}
use Rattle.tatp_tables.specs.declared.row.Row.TheVariants.{S, A, F, C}
use Rattle.tatp_tables.specs.declared.row.Rows.{Rows}
use Rattle.tatp_tables.specs.declared.table.Table.{Table}
use Rattle.tatp_tables.specs.declared.table.Table.TheVariants.{Subscriber, AccessInfo, SpecialFacility, CallForwarding}

-- the list of a table
abbrev pub rows_in : Table → Rows → List Tuple
rows_in Subscriber r = r.subscribers
rows_in AccessInfo r = r.accesses
rows_in SpecialFacility r = r.facilities
rows_in CallForwarding r = r.forwardings

-- the lists with one more row at the end of its table
abbrev pub with_row : Rows → Row → Rows
with_row r (S columns) = record r { subscribers = r.subscribers ++ columns ∷ [] }
with_row r (A columns) = record r { accesses = r.accesses ++ columns ∷ [] }
with_row r (F columns) = record r { facilities = r.facilities ++ columns ∷ [] }
with_row r (C columns) = record r { forwardings = r.forwardings ++ columns ∷ [] }

-- the lists with the rows of a database at the end of their tables, each table by key
abbrev pub with_home : Rows → Database → Rows
with_home r u = record {
  subscribers = r.subscribers ++ rows_of u.subscribers;
  accesses = r.accesses ++ rows_of u.accesses;
  facilities = r.facilities ++ rows_of u.facilities;
  forwardings = r.forwardings ++ rows_of u.forwardings;
}

-- the lists of the first begin those of the second, and their Call_Forwarding rows are the same
pub record StartWith (r more : Rows) : Type 0 where
  pub subscribers : take (length r.subscribers) more.subscribers ≡ r.subscribers
  pub accesses : take (length r.accesses) more.accesses ≡ r.accesses
  pub facilities : take (length r.facilities) more.facilities ≡ r.facilities
  pub forwardings : more.forwardings ≡ r.forwardings
