-- Lists of rows read into homes, table by table.
use Rattle.std.specs.Prelude.{ℕ, ◌+◌, ◌*◌, ◌-◌, min, List, map, take}
use Rattle.std.specs.Int.{div_ceil}
use Rattle.std.specs.List.{range_with_len}
use Rattle.tatp_tables.specs.Tuples.{no_rows, set_of}
use Rattle.tatp_tables.specs.Database.{Database, no_tables, database_of}
use Rattle.tatp_homes.specs.Home.{SubscriberRows, home_in}
use Rattle.tatp_tables.specs.declared.row.Rows.{Rows}
use Rattle.tatp_tables.specs.declared.table.Table.{Table}
use Rattle.tatp_tables.specs.declared.table.Table.TheVariants.{Subscriber, AccessInfo, SpecialFacility, CallForwarding}

-- the database of the tables before this one, and of this one's first i rows
abbrev pub read_until : Table → Rows → ℕ → Database
read_until Subscriber r i = record no_tables { subscribers = set_of (take i r.subscribers) }
read_until AccessInfo r i = record no_tables {
  subscribers = set_of r.subscribers;
  accesses = set_of (take i r.accesses);
}
read_until SpecialFacility r i = record (database_of r) {
  facilities = set_of (take i r.facilities);
  forwardings = no_rows;
}
read_until CallForwarding r i = record (database_of r) {
  forwardings = set_of (take i r.forwardings);
}

-- the database of the tables up to this one
abbrev pub read_with : Table → Rows → Database
read_with Subscriber r = read_until AccessInfo r 0
read_with AccessInfo r = read_until SpecialFacility r 0
read_with SpecialFacility r = read_until CallForwarding r 0
read_with CallForwarding r = database_of r

-- the homes of n s_ids from the first on in a database
abbrev pub homes_in : Database → ℕ → ℕ → List SubscriberRows
homes_in u first n = map (home_in u) (range_with_len first n)

-- list k of the homes of the s_ids 1 to n in lists of this size, counted from 0
abbrev pub list_in : Database → ℕ → ℕ → ℕ → List SubscriberRows
list_in u size n k = homes_in u (size * k + 1) (min size (n - size * k))

-- the homes of the s_ids 1 to n in lists of this size, of which the last may be shorter
abbrev pub lists_in : Database → ℕ → ℕ → List (List SubscriberRows)
lists_in u size n = map (list_in u size n) (range_with_len 0 (div_ceil n size))
