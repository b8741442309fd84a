-- The 51 columns: the table of each, its place in a row, the primary keys, the columns that are
-- fixed. TATP Benchmark Description 1.0, schema. The columns are numbered over the four tables:
-- 0 to 33, 34 to 39, 40 to 45, 46 to 50.
use Rattle.std.specs.Prelude.{ℕ, ◌-◌, Bool, ◌||◌, ◌==◌, nat_le, nat_lt, if◌then◌else◌}
use Rattle.tatp_tables.specs.declared.table.Table.{Table}
use Rattle.tatp_tables.specs.declared.table.Table.TheVariants.{Subscriber, AccessInfo, SpecialFacility, CallForwarding}

-- whether there is such a column
abbrev pub is_column : ℕ → Bool
is_column c = nat_le c 50

-- the table of a column
abbrev pub table_of : ℕ → Table
table_of c =
    if nat_lt c 34 then Subscriber else
    if nat_lt c 40 then AccessInfo else
    if nat_lt c 46 then SpecialFacility else
    CallForwarding

-- the number of a table's first column
abbrev pub first_column : Table → ℕ
first_column Subscriber = 0
first_column AccessInfo = 34
first_column SpecialFacility = 40
first_column CallForwarding = 46

-- how many columns a table has
abbrev pub column_count : Table → ℕ
column_count Subscriber = 34
column_count AccessInfo = 6
column_count SpecialFacility = 6
column_count CallForwarding = 5

-- how many columns make a table's primary key: (s_id), (s_id, ai_type), (s_id, sf_type),
-- (s_id, sf_type, start_time)
abbrev pub key_length : Table → ℕ
key_length Subscriber = 1
key_length AccessInfo = 2
key_length SpecialFacility = 2
key_length CallForwarding = 3

-- the place of a column in its table's rows
abbrev pub place_of : ℕ → ℕ
place_of c = c - first_column (table_of c)

-- the columns that never change: those of primary keys, and a subscriber's number
abbrev pub is_fixed : ℕ → Bool
is_fixed c = nat_lt c 2 || c == 34 || c == 35 || c == 40 || c == 41 || c == 46 || c == 47 || c == 48
