-- Cells: a fixed place for each key that a home's rows of a table may have.
use Rattle.std.specs.Prelude.{◌≡◌, ℕ, Bool, true, false, List, [], ◌∷◌, Option, Some, None, slice_set}
use Rattle.tatp_tables.specs.Tuples.{Tuple, set_of}
use Rattle.tatp_tables.specs.Keys.{has_key}
use Rattle.tatp_tables.specs.Database.{Database}
use Rattle.tatp_homes.specs.Home.{IsHome}

-- cells of one table, each with a row or none
abbrev pub Cells : Type 0
Cells = List (Option Tuple)

-- the rows in cells
abbrev pub present : Cells → List Tuple
present [] = []
present (None ∷ more) = present more
present (Some row ∷ more) = row ∷ present more

-- what follows the s_id in the key of each place: nothing; the type; the type and the start time
abbrev pub subscriber_keys : List (List ℕ)
subscriber_keys = [] ∷ []

abbrev pub type_keys : List (List ℕ)
type_keys = (1 ∷ []) ∷ (2 ∷ []) ∷ (3 ∷ []) ∷ (4 ∷ []) ∷ []

abbrev pub forwarding_keys : List (List ℕ)
forwarding_keys =
    (1 ∷ 0 ∷ []) ∷ (1 ∷ 8 ∷ []) ∷ (1 ∷ 16 ∷ []) ∷ (2 ∷ 0 ∷ []) ∷ (2 ∷ 8 ∷ []) ∷ (2 ∷ 16 ∷ [])
    ∷ (3 ∷ 0 ∷ []) ∷ (3 ∷ 8 ∷ []) ∷ (3 ∷ 16 ∷ []) ∷ (4 ∷ 0 ∷ []) ∷ (4 ∷ 8 ∷ []) ∷ (4 ∷ 16 ∷ []) ∷ []

-- each row is at the place of its key
abbrev pub StandAt : ℕ → List (List ℕ) → Cells → Type 0
StandAt s [] [] = Unit {0}
StandAt s [] (c ∷ cells) = ⊥
StandAt s (k ∷ keys) [] = ⊥
StandAt s (k ∷ keys) (None ∷ cells) = StandAt s keys cells
StandAt s (k ∷ keys) (Some row ∷ cells) = (has_key (s ∷ k) row ≡ true) × StandAt s keys cells

-- a cell after a column of its row is set, where the value is in the domain
abbrev pub put_cell : ℕ → Bool → ℕ → Option Tuple → Option Tuple
put_cell place fits v None = None
put_cell place false v (Some row) = Some row
put_cell place true v (Some row) = Some (slice_set row place v)

-- the database of a home's cells
abbrev pub tables_in : Option Tuple → Cells → Cells → Cells → Database
tables_in subscriber accesses facilities forwardings = record {
  subscribers = set_of (present (subscriber ∷ []));
  accesses = set_of (present accesses);
  facilities = set_of (present facilities);
  forwardings = set_of (present forwardings);
}

-- the cells hold a home's rows, each at its place
pub record HoldHome
    (s : ℕ) (subscriber : Option Tuple) (accesses facilities forwardings : Cells) : Type 0 where
  pub subscriber_place : StandAt s subscriber_keys (subscriber ∷ [])
  pub access_places : StandAt s type_keys accesses
  pub facility_places : StandAt s type_keys facilities
  pub forwarding_places : StandAt s forwarding_keys forwardings
  pub home : IsHome (record {
    s_id = s;
    tables = tables_in subscriber accesses facilities forwardings;
  })
