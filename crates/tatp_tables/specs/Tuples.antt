-- A finite set of tuples, a tuple being the list of its columns. It is a finite map with nothing at
-- each tuple.
use Rattle.std.specs.Prelude.{ℕ, Bool, List, [], ◌∷◌}
use Rattle.std.specs.Cmp.Lexicographic.{slice_cmp}
use Rattle.std.specs.Ordering.{nat_cmp, eq_by_cmp}
use Rattle.std.specs.Coded.{Coded, coded_ℕ, coded_list}
use Rattle.std.specs.FinMap as map
use Rattle.std.specs.FinSet as set

abbrev pub Tuple : Type 0
Tuple = List ℕ

abbrev pub Tuples : Type 0
Tuples = map.FinMap (slice_cmp nat_cmp) (Unit {0})

abbrev pub tuples_code : Coded Tuples
tuples_code = set.code (coded_list coded_ℕ)

-- the tuples of a set, in the order of their columns
abbrev pub rows_of : Tuples → List Tuple
rows_of u = map.keys u

-- whether two tuples are one
abbrev pub same : Tuple → Tuple → Bool
same = eq_by_cmp (slice_cmp nat_cmp)

-- whether the set has the tuple
abbrev pub has : Tuples → Tuple → Bool
has u row = map.contains_key u row

abbrev pub no_rows : Tuples
no_rows = map.empty

-- the set with one more tuple
abbrev pub insert_row : Tuples → Tuple → Tuples
insert_row u row = map.insert u row tt

-- the set without a tuple
abbrev pub remove_row : Tuples → Tuple → Tuples
remove_row u row = map.remove u row

-- the set with one tuple in another's place
abbrev pub replace_row : Tuples → Tuple → Tuple → Tuples
replace_row u old new = insert_row (remove_row u old) new

-- the tuples that pass a test
abbrev pub retain_rows : (Tuple → Bool) → Tuples → Tuples
retain_rows test u = map.retain_keys u test

-- the set of a list's elements
abbrev pub set_of : List Tuple → Tuples
set_of [] = no_rows
set_of (row ∷ more) = insert_row (set_of more) row

-- the set with each tuple of a list besides
abbrev pub insert_rows : Tuples → List Tuple → Tuples
insert_rows u [] = u
insert_rows u (row ∷ more) = insert_row (insert_rows u more) row

-- the tuples of both
unfoldable pub union : Tuples → Tuples → Tuples
union u v = insert_rows u (rows_of v)
