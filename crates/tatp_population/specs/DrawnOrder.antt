-- The rows of a drawn population in the order drawn, and their text: docs/FORMATS.md, "A population
-- from random words". It is the same drawing as in DrawnRows.antt, which keeps the rows table by
-- table.
use Rattle.std.specs.Prelude.{ℕ, zero, suc, List, [], ◌∷◌, ◌++◌}
use Rattle.std.specs.List.{flat_map}
use Rattle.tatp_tables.specs.declared.row.Row.{Row}
use Rattle.tatp_tables.specs.declared.row.Row.TheVariants.{S, A, F, C}
use Rattle.tatp_tables.specs.declared.row.Rows.{Rows}
use Rattle.tatp_texts.specs.Text.{text_of}
use Rattle.tatp_population.specs.Drawn.{choice, taken, parts}
use Rattle.tatp_population.specs.DrawnRows.{types, start_times, subscriber_row, access_row, facility_row, forwarding_row, access, forwarding, facility, accesses, population}

-- ---- text
-- the line of a row, with its line feed
abbrev pub line_of : Row → List ℕ
line_of row = text_of row ++ 10 ∷ []

-- rows, each a line
abbrev pub rows_text : List Row → List ℕ
rows_text rows = flat_map line_of rows

-- ---- order
module _ {W : Type 0} (word : W → ℕ × W) where
  -- of n parts, one part after another; a part has these rows
  unfoldable pub in_order : (ℕ → W → Rows × W) → (ℕ → W → List Row) → ℕ → List ℕ → W → List Row
  in_order part rows zero left w = []
  in_order part rows (suc n) left w =
      let before = parts word part n left w in
      let next = taken word before.left before.words in
      in_order part rows n left w ++ rows next.value next.words

  -- an Access_Info row of this type
  unfoldable pub access_in_order : ℕ → ℕ → W → List Row
  access_in_order s_id kind w = A (access_row word s_id kind w).0 ∷ []

  -- a Call_Forwarding row from this start time on
  unfoldable pub forwarding_in_order : ℕ → ℕ → ℕ → W → List Row
  forwarding_in_order s_id kind start_time w =
      C (forwarding_row word s_id kind start_time w).0 ∷ []

  -- the Call_Forwarding rows of a facility
  unfoldable pub forwardings_in_order : ℕ → ℕ → W → List Row
  forwardings_in_order s_id kind w =
      let count = choice word 0 3 w in
      in_order (forwarding word s_id kind) (forwarding_in_order s_id kind)
      count.0 start_times count.1

  -- a Special_Facility row of this type, and then its forwardings
  unfoldable pub facility_in_order : ℕ → ℕ → W → List Row
  facility_in_order s_id kind w =
      let row = facility_row word s_id kind w in
      F row.0 ∷ forwardings_in_order s_id kind row.1

  -- the Access_Info rows of a subscriber
  unfoldable pub accesses_in_order : ℕ → W → List Row
  accesses_in_order s_id w =
      let count = choice word 1 4 w in
      in_order (access word s_id) (access_in_order s_id) count.0 types count.1

  -- the facilities of a subscriber, each with its forwardings
  unfoldable pub facilities_in_order : ℕ → W → List Row
  facilities_in_order s_id w =
      let count = choice word 1 4 w in
      in_order (facility word s_id) (facility_in_order s_id) count.0 types count.1

  -- a Subscriber row, and then its Access_Info rows and facilities
  unfoldable pub subscriber_in_order : ℕ → W → List Row
  subscriber_in_order s_id w =
      let row = subscriber_row word s_id w in
      let own_accesses = accesses word s_id row.1 in
      S row.0 ∷ accesses_in_order s_id row.1 ++ facilities_in_order s_id own_accesses.words

  -- the subscribers 1 to n
  unfoldable pub population_in_order : ℕ → W → List Row
  population_in_order zero w = []
  population_in_order (suc n) w =
      population_in_order n w ++ subscriber_in_order (suc n) (population word n w).1
