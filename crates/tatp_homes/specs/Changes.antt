-- Reading one column, and the three changes of a database: a column set, a Call_Forwarding row
-- inserted, one deleted. Each change has an answer, which refuses by the first test that fails, and
-- a database after it; a refusal leaves the database as it is.
use Rattle.std.specs.Prelude.{ℕ, Bool, true, false, List, [], ◌∷◌, Option, Some, None, Result, Ok, Err, slice_index, slice_set, if◌then◌else◌}
use Rattle.std.specs.Option.{option_map}
use Rattle.tatp_tables.specs.Tuples.{Tuple, Tuples, insert_row, remove_row, replace_row}
use Rattle.tatp_tables.specs.Keys.{row_at}
use Rattle.tatp_tables.specs.Columns.{is_column, table_of, place_of}
use Rattle.tatp_tables.specs.Domains.{is_in_domain, are_in_domain}
use Rattle.tatp_tables.specs.Database.{Database, in_table, with_table, current_row}
use Rattle.tatp_tables.specs.declared.table.Table.TheVariants.{CallForwarding}
use Rattle.tatp_homes.specs.declared.refusal.Refusal.{Refusal}
use Rattle.tatp_homes.specs.declared.refusal.Refusal.TheVariants.{NoCurrent, Domain, KeyExists, NoParent}

-- the value of a column in the row with this key, where there is such a column
abbrev pub cell : Database → ℕ → List ℕ → Option ℕ
cell u c key =
    if is_column c
    then option_map (λ row. slice_index row (place_of c)) (current_row (table_of c) u key)
    else None

-- ---- a column of the row with a key is set
-- what it answers, by the row that was found and whether the value is in the domain: the value
-- before
abbrev pub put_answer_at : ℕ → Bool → Option Tuple → Result ℕ Refusal
put_answer_at place fits None = Err NoCurrent
put_answer_at place false (Some row) = Err Domain
put_answer_at place true (Some row) = Ok (slice_index row place)

abbrev pub put_answer : Database → ℕ → List ℕ → ℕ → Result ℕ Refusal
put_answer u c key v =
    put_answer_at (place_of c) (is_in_domain c v) (current_row (table_of c) u key)

-- the rows after it
abbrev pub put_rows : ℕ → Bool → ℕ → Tuples → Option Tuple → Tuples
put_rows place fits v u None = u
put_rows place false v u (Some row) = u
put_rows place true v u (Some row) = replace_row u row (slice_set row place v)

abbrev pub put_tables : Database → ℕ → List ℕ → ℕ → Database
put_tables u c key v = with_table (table_of c) u (put_rows
    (place_of c) (is_in_domain c v) v (in_table (table_of c) u) (current_row (table_of c) u key))

-- ---- a Call_Forwarding row is inserted
-- its parent: the facility (s_id, sf_type)
abbrev pub parent_of : Database → Tuple → Option Tuple
parent_of u row = row_at u.facilities (slice_index row 0 ∷ slice_index row 1 ∷ [])

-- its primary key: (s_id, sf_type, start_time)
abbrev pub forwarding_key : Tuple → List ℕ
forwarding_key row = slice_index row 0 ∷ slice_index row 1 ∷ slice_index row 2 ∷ []

-- what it answers, by the domains, then the parent, then the row that has its key
abbrev pub insert_answer_at : Bool → Option Tuple → Option Tuple → Result (Unit {0}) Refusal
insert_answer_at false parent there = Err Domain
insert_answer_at true None there = Err NoParent
insert_answer_at true (Some facility) (Some row) = Err KeyExists
insert_answer_at true (Some facility) None = Ok tt

abbrev pub insert_answer : Database → Tuple → Result (Unit {0}) Refusal
insert_answer u row = insert_answer_at
    (are_in_domain 46 row) (parent_of u row) (row_at u.forwardings (forwarding_key row))

-- the rows after it
abbrev pub insert_rows_at : Tuples → Tuple → Result (Unit {0}) Refusal → Tuples
insert_rows_at u row (Err refusal) = u
insert_rows_at u row (Ok done) = insert_row u row

abbrev pub insert_tables : Database → Tuple → Database
insert_tables u row =
    record u { forwardings = insert_rows_at u.forwardings row (insert_answer u row) }

-- ---- the Call_Forwarding row with a key is deleted
-- what it answers, by the row that was found: that row
abbrev pub delete_answer_at : Option Tuple → Result Tuple Refusal
delete_answer_at None = Err NoCurrent
delete_answer_at (Some row) = Ok row

abbrev pub delete_answer : Database → List ℕ → Result Tuple Refusal
delete_answer u key = delete_answer_at (current_row CallForwarding u key)

-- the rows after it
abbrev pub delete_rows : Tuples → Option Tuple → Tuples
delete_rows u None = u
delete_rows u (Some row) = remove_row u row

abbrev pub delete_tables : Database → List ℕ → Database
delete_tables u key =
    record u { forwardings = delete_rows u.forwardings (current_row CallForwarding u key) }
