-- The six audits in their order, each a list of tests on keys, table by table, and the verdict.
use Rattle.std.specs.Prelude.{◌≡◌, ℕ, suc, ◌==◌, ◌⊎◌, ◌||◌, ◌&&◌, not, nat_le, max, Bool, true, false, List, [], ◌∷◌, ◌++◌, map, take, length, All, slice_index, Option, MatchOption, if◌then◌else◌}
use Rattle.tatp_lines.specs.Numbers.{is_between}
use Rattle.tatp_tables.specs.Tuples.{Tuple}
use Rattle.tatp_tables.specs.Columns.{key_length, column_count, first_column}
use Rattle.tatp_tables.specs.Domains.{is_in_domain, is_row}
use Rattle.tatp_tables.specs.Clean.{count_of_key}
use Rattle.tatp_tables.specs.declared.row.Rows.{Rows}
use Rattle.tatp_tables.specs.declared.table.Table.{Table}
use Rattle.tatp_tables.specs.declared.table.Table.TheVariants.{Subscriber, AccessInfo, SpecialFacility, CallForwarding}
use Rattle.tatp_audits.specs.Failing.{is_twice, is_wrong, NoneFails, IsLeast}
use Rattle.tatp_audits.specs.declared.verdict.FailedKey.TheVariants.{S, A, F, C}
use Rattle.tatp_audits.specs.declared.verdict.Verdict.{Verdict}
use Rattle.tatp_audits.specs.declared.verdict.Verdict.TheVariants.{Clean, Ids, NumberTwice, KeyTwice, NoParent, OutsideDomain, Counts}

-- ---- the tests
-- whether the key is one of 1 to the number of rows, or 1, and isn't the s_id of exactly one row
abbrev pub is_astray : List Tuple → Tuple → Bool
is_astray rows [] = false
is_astray rows (s ∷ []) =
    nat_le 1 s && (nat_le s (max 1 (length rows)) && not (count_of_key (s ∷ []) rows == 1))
is_astray rows (s ∷ t ∷ more) = false

-- the numbers of Subscriber rows, as keys
abbrev pub numbers : List Tuple → List Tuple
numbers rows = map (λ row. slice_index row 1 ∷ []) rows

-- whether some row with this key, of m columns, has no parent, whose key is the row's first n
-- columns
abbrev pub is_orphan : ℕ → List Tuple → ℕ → List Tuple → Tuple → Bool
is_orphan n parents m rows =
    is_wrong (λ row. nat_le 1 (count_of_key (take n row) parents)) (take m) rows

-- the first column, from c on, whose value is outside its domain; the one after the last where none
-- is
abbrev pub column_outside : ℕ → Tuple → ℕ
column_outside c [] = c
column_outside c (v ∷ more) = if is_in_domain c v then column_outside (suc c) more else c

-- a row's primary key and its first column outside its domain
abbrev pub place_outside : Table → Tuple → Tuple
place_outside t row = take (key_length t) row ++ column_outside (first_column t) row ∷ []

-- whether this is the key of a row with a value outside its domain, and the first such column
abbrev pub is_outside : Table → List Tuple → Tuple → Bool
is_outside t rows = is_wrong (is_row t) (place_outside t) rows

-- whether a row with this s_id has fewer or more rows below it, which begin with its first n
-- columns
abbrev pub is_miscounted : ℕ → ℕ → ℕ → List Tuple → List Tuple → Tuple → Bool
is_miscounted n least most below rows =
    is_wrong (λ row. is_between least most (count_of_key (take n row) below)) (take 1) rows

-- whether a subscriber or one of its facilities has fewer or more rows below it
abbrev pub is_short_or_long : Rows → Tuple → Bool
is_short_or_long r k =
    is_miscounted 1 1 4 r.accesses r.subscribers k
    || is_miscounted 1 1 4 r.facilities r.subscribers k
    || is_miscounted 2 0 3 r.forwardings r.facilities k

-- ---- the audits
-- a test on keys, and the verdict on a key that fails it
pub record Test : Type 0 where
  pub fails : Tuple → Bool
  pub verdict : Tuple → Verdict

-- each of 1 to the number of Subscriber rows, and 1 in any case, is the s_id of exactly one of them
abbrev pub id_tests : Rows → List Test
id_tests r = record { fails = is_astray r.subscribers; verdict = λ k. Ids (slice_index k 0) } ∷ []

-- no number occurs twice
abbrev pub number_tests : Rows → List Test
number_tests r = record {
  fails = is_twice (numbers r.subscribers);
  verdict = λ k. NumberTwice (slice_index k 0);
} ∷ []

-- no primary key occurs twice
abbrev pub key_tests : Rows → List Test
key_tests r =
    record { fails = is_twice (map (take 2) r.accesses); verdict = λ k. KeyTwice (A k) }
    ∷ record { fails = is_twice (map (take 2) r.facilities); verdict = λ k. KeyTwice (F k) }
    ∷ record { fails = is_twice (map (take 3) r.forwardings); verdict = λ k. KeyTwice (C k) }
    ∷ []

-- each row has its parent
abbrev pub parent_tests : Rows → List Test
parent_tests r =
    record { fails = is_orphan 1 r.subscribers 2 r.accesses; verdict = λ k. NoParent (A k) }
    ∷ record { fails = is_orphan 1 r.subscribers 2 r.facilities; verdict = λ k. NoParent (F k) }
    ∷ record { fails = is_orphan 2 r.facilities 3 r.forwardings; verdict = λ k. NoParent (C k) }
    ∷ []

-- every value is in its column's domain
abbrev pub value_tests : Rows → List Test
value_tests r =
    record {
      fails = is_outside Subscriber r.subscribers;
      verdict = λ k. OutsideDomain (S (take 1 k)) (slice_index k 1);
    }
    ∷ record {
      fails = is_outside AccessInfo r.accesses;
      verdict = λ k. OutsideDomain (A (take 2 k)) (slice_index k 2);
    }
    ∷ record {
      fails = is_outside SpecialFacility r.facilities;
      verdict = λ k. OutsideDomain (F (take 2 k)) (slice_index k 2);
    }
    ∷ record {
      fails = is_outside CallForwarding r.forwardings;
      verdict = λ k. OutsideDomain (C (take 3 k)) (slice_index k 3);
    }
    ∷ []

-- each subscriber and each facility has as many rows below it as it may
abbrev pub count_tests : Rows → List Test
count_tests r = record { fails = is_short_or_long r; verdict = λ k. Counts (slice_index k 0) } ∷ []

-- the six audits
abbrev pub tests : Rows → List Test
tests r =
    id_tests r
    ++ (number_tests r ++ (key_tests r ++ (parent_tests r ++ (value_tests r ++ count_tests r))))

-- ---- the verdict
-- no key fails any of the tests
abbrev pub AllPass : List Test → Type 0
AllPass [] = Unit {0}
AllPass (t ∷ more) = NoneFails t.fails × AllPass more

-- each row that has a key has all its table's columns
pub record HaveTheirColumns (r : Rows) : Type 0 where
  pub accesses : All (λ row. length row ≡ column_count AccessInfo) r.accesses
  pub facilities : All (λ row. length row ≡ column_count SpecialFacility) r.facilities
  pub forwardings : All (λ row. length row ≡ column_count CallForwarding) r.forwardings

-- the verdict is that of the first test that some key fails, on the least such key
abbrev pub FirstFails : List Test → Verdict → Type 0
FirstFails [] v = ⊥
FirstFails (t ∷ more) v =
    ((k : Tuple) × IsLeast t.fails k × (v ≡ t.verdict k))
    ⊎ (NoneFails t.fails × FirstFails more v)

-- the verdict of some of the tests, if one fails
abbrev pub Told : List Test → Option Verdict → Type 0
Told tests told = MatchOption told (AllPass tests) (FirstFails tests)

-- clean, with how many rows there are
abbrev pub clean_of : Rows → Verdict
clean_of r =
    Clean (length r.subscribers) (length r.accesses) (length r.facilities) (length r.forwardings)

-- the verdict on rows: on the first audit that fails, and where none does that they are clean
abbrev pub IsVerdict : Rows → Verdict → Type 0
IsVerdict r v = FirstFails (tests r) v ⊎ (AllPass (tests r) × (v ≡ clean_of r))

-- whether a verdict is that the rows are clean
abbrev pub says_clean : Verdict → Bool
says_clean (Clean a b c d) = true
says_clean v = false
