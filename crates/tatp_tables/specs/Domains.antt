-- The values that each column may have. TATP Benchmark Description 1.0, schema and population;
-- docs/FORMATS.md.
use Rattle.std.specs.Prelude.{ℕ, suc, zero, ◌/◌, ◌%◌, Bool, true, false, ◌&&◌, ◌||◌, ◌==◌, nat_le, List, [], ◌∷◌, length, if◌then◌else◌}
use Rattle.tatp_lines.specs.Numbers.{is_between}
use Rattle.tatp_tables.specs.Tuples.{Tuple}
use Rattle.tatp_tables.specs.Columns.{first_column, column_count}
use Rattle.tatp_tables.specs.declared.table.Table.{Table}

-- n letters A..Z, packed as bytes, the first letter highest
abbrev pub are_letters : ℕ → ℕ → Bool
are_letters zero v = v == 0
are_letters (suc n) v = is_between 65 90 (v % 256) && are_letters n (v / 256)

-- whether column c may have the value v
unfoldable pub is_in_domain : ℕ → ℕ → Bool
is_in_domain c v =
    -- Subscriber: s_id, sub_nbr, bit_1..bit_10, hex_1..hex_10, byte2_1..byte2_10, msc_location and
    -- vlr_location
    if c == 0 then is_between 1 4294967295 v else
    if c == 1 then is_between 0 999999999999999 v else
    if nat_le c 11 then is_between 0 1 v else
    if nat_le c 21 then is_between 0 15 v else
    if nat_le c 31 then is_between 0 255 v else
    if nat_le c 33 then is_between 1 4294967295 v else
    -- Access_Info: s_id, ai_type, data1 and data2, data3, data4
    if c == 34 then is_between 1 4294967295 v else
    if c == 35 then is_between 1 4 v else
    if nat_le c 37 then is_between 0 255 v else
    if c == 38 then are_letters 3 v else
    if c == 39 then are_letters 5 v else
    -- Special_Facility: s_id, sf_type, is_active, error_cntrl and data_a, data_b
    if c == 40 then is_between 1 4294967295 v else
    if c == 41 then is_between 1 4 v else
    if c == 42 then is_between 0 1 v else
    if nat_le c 44 then is_between 0 255 v else
    if c == 45 then are_letters 5 v else
    -- Call_Forwarding: s_id, sf_type, start_time, end_time, numberx
    if c == 46 then is_between 1 4294967295 v else
    if c == 47 then is_between 1 4 v else
    if c == 48 then (v == 0 || v == 8 || v == 16) else
    if c == 49 then is_between 1 24 v else
    if c == 50 then is_between 0 999999999999999 v else
    false

-- whether the values of the columns from c on are in their domains
abbrev pub are_in_domain : ℕ → List ℕ → Bool
are_in_domain c [] = true
are_in_domain c (v ∷ more) = is_in_domain c v && are_in_domain (suc c) more

-- whether a tuple has the columns of a table, each in its domain
abbrev pub is_row : Table → Tuple → Bool
is_row t row = (length row == column_count t) && are_in_domain (first_column t) row
