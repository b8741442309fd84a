-- Rows in the order drawn, put into their tables one after another, are the drawn population.
use Rattle.std.specs.Prelude.{◌≡◌, ℕ, zero, suc, List, [], ◌∷◌, ◌++◌}
use Rattle.std.specs.List.{fold}
use Rattle.std.proofs.Common.{sym, ap, ◌∙◌, append-nil}
use Rattle.std.proofs.lemmas.Grind.{fold-append}
use Rattle.tatp_tables.specs.Tuples.{Tuple}
use Rattle.tatp_tables.specs.Rows.{with_row}
use Rattle.tatp_tables.specs.declared.row.Row.{Row}
use Rattle.tatp_tables.specs.declared.row.Row.TheVariants.{S, A, F, C}
use Rattle.tatp_tables.specs.declared.row.Rows.{Rows}
use Rattle.tatp_population.specs.Drawn.{none, joined, choice, taken, parts}
use Rattle.tatp_population.specs.DrawnRows.{types, start_times, subscriber_row, access_row, facility_row, forwarding_row, access, forwarding, forwardings, facility, accesses, facilities, subscriber, population}
use Rattle.tatp_population.specs.DrawnOrder.{in_order, access_in_order, forwarding_in_order, forwardings_in_order, facility_in_order, accesses_in_order, facilities_in_order, subscriber_in_order, population_in_order}
use Rattle.tatp_population.proofs.PartLaws.{joined_none, joined_assoc}

-- ---- one row
with_subscriber : (r : Rows) (row : Tuple) → with_row r (S row) ≡ joined r (record none { subscribers = row ∷ [] })
with_subscriber r row =
    let back : joined r (record none { subscribers = row ∷ [] }) ≡ with_row r (S row) = λ i. record {
      subscribers = r.subscribers ++ row ∷ [];
      accesses = append-nil r.accesses i;
      facilities = append-nil r.facilities i;
      forwardings = append-nil r.forwardings i;
    } in
    sym back

with_access : (r : Rows) (row : Tuple) → with_row r (A row) ≡ joined r (record none { accesses = row ∷ [] })
with_access r row =
    let back : joined r (record none { accesses = row ∷ [] }) ≡ with_row r (A row) = λ i. record {
      subscribers = append-nil r.subscribers i;
      accesses = r.accesses ++ row ∷ [];
      facilities = append-nil r.facilities i;
      forwardings = append-nil r.forwardings i;
    } in
    sym back

with_facility : (r : Rows) (row : Tuple) → with_row r (F row) ≡ joined r (record none { facilities = row ∷ [] })
with_facility r row =
    let back : joined r (record none { facilities = row ∷ [] }) ≡ with_row r (F row) = λ i. record {
      subscribers = append-nil r.subscribers i;
      accesses = append-nil r.accesses i;
      facilities = r.facilities ++ row ∷ [];
      forwardings = append-nil r.forwardings i;
    } in
    sym back

with_forwarding : (r : Rows) (row : Tuple) → with_row r (C row) ≡ joined r (record none { forwardings = row ∷ [] })
with_forwarding r row =
    let back : joined r (record none { forwardings = row ∷ [] }) ≡ with_row r (C row) = λ i. record {
      subscribers = append-nil r.subscribers i;
      accesses = append-nil r.accesses i;
      facilities = append-nil r.facilities i;
      forwardings = r.forwardings ++ row ∷ [];
    } in
    sym back

-- ---- parts
module _ {W : Type 0} (word : W → ℕ × W) where
  each_in_order : (part : ℕ → W → Rows × W) (rows : ℕ → W → List Row)
      → ((v : ℕ) (u : W) (r : Rows) → fold with_row r (rows v u) ≡ joined r (part v u).0)
      → (n : ℕ) (left : List ℕ) (w : W) (r : Rows) → fold with_row r (in_order word part rows n left w) ≡ joined r (parts word part n left w).rows
  unfolding parts in_order
  each_in_order part rows same zero left w r = sym (joined_none r)
  each_in_order part rows same (suc n) left w r =
      let before = parts word part n left w in
      let next = taken word before.left before.words in
      fold-append with_row r (in_order word part rows n left w) (rows next.value next.words)
      ∙ same next.value next.words (fold with_row r (in_order word part rows n left w))
      ∙ ap (λ (q : Rows). joined q (part next.value next.words).0) (each_in_order part rows same n left w r)
      ∙ joined_assoc r before.rows (part next.value next.words).0

  access_same : (s_id kind : ℕ) (u : W) (r : Rows) → fold with_row r (access_in_order word s_id kind u) ≡ joined r (access word s_id kind u).0
  unfolding access access_in_order
  access_same s_id kind u r = with_access r (access_row word s_id kind u).0

  forwarding_same : (s_id kind start : ℕ) (u : W) (r : Rows) → fold with_row r (forwarding_in_order word s_id kind start u) ≡ joined r (forwarding word s_id kind start u).0
  unfolding forwarding forwarding_in_order
  forwarding_same s_id kind start u r = with_forwarding r (forwarding_row word s_id kind start u).0

  forwardings_same : (s_id kind : ℕ) (u : W) (r : Rows) → fold with_row r (forwardings_in_order word s_id kind u) ≡ joined r (forwardings word s_id kind u).rows
  unfolding forwardings forwardings_in_order
  forwardings_same s_id kind u r =
      let count = choice word 0 3 u in
      each_in_order (forwarding word s_id kind) (forwarding_in_order word s_id kind) (forwarding_same s_id kind) count.0 start_times count.1 r

  facility_same : (s_id kind : ℕ) (u : W) (r : Rows) → fold with_row r (facility_in_order word s_id kind u) ≡ joined r (facility word s_id kind u).0
  unfolding facility facility_in_order
  facility_same s_id kind u r =
      let row = facility_row word s_id kind u in
      let one = record none { facilities = row.0 ∷ [] } in
      let own = forwardings word s_id kind row.1 in
      forwardings_same s_id kind row.1 (with_row r (F row.0))
      ∙ ap (λ (q : Rows). joined q own.rows) (with_facility r row.0)
      ∙ joined_assoc r one own.rows

  accesses_same : (s_id : ℕ) (u : W) (r : Rows) → fold with_row r (accesses_in_order word s_id u) ≡ joined r (accesses word s_id u).rows
  unfolding accesses accesses_in_order
  accesses_same s_id u r =
      let count = choice word 1 4 u in
      each_in_order (access word s_id) (access_in_order word s_id) (access_same s_id) count.0 types count.1 r

  facilities_same : (s_id : ℕ) (u : W) (r : Rows) → fold with_row r (facilities_in_order word s_id u) ≡ joined r (facilities word s_id u).rows
  unfolding facilities facilities_in_order
  facilities_same s_id u r =
      let count = choice word 1 4 u in
      each_in_order (facility word s_id) (facility_in_order word s_id) (facility_same s_id) count.0 types count.1 r

  subscriber_same : (s_id : ℕ) (u : W) (r : Rows) → fold with_row r (subscriber_in_order word s_id u) ≡ joined r (subscriber word s_id u).0
  unfolding subscriber subscriber_in_order
  subscriber_same s_id u r =
      let row = subscriber_row word s_id u in
      let one = record none { subscribers = row.0 ∷ [] } in
      let own_accesses = accesses word s_id row.1 in
      let own_facilities = facilities word s_id own_accesses.words in
      let first = with_row r (S row.0) in
      fold-append with_row first (accesses_in_order word s_id row.1) (facilities_in_order word s_id own_accesses.words)
      ∙ facilities_same s_id own_accesses.words (fold with_row first (accesses_in_order word s_id row.1))
      ∙ ap (λ (q : Rows). joined q own_facilities.rows) (accesses_same s_id row.1 first ∙ ap (λ (q : Rows). joined q own_accesses.rows) (with_subscriber r row.0) ∙ joined_assoc r one own_accesses.rows)
      ∙ joined_assoc r (joined one own_accesses.rows) own_facilities.rows

  population_same : (n : ℕ) (w : W) (r : Rows) → fold with_row r (population_in_order word n w) ≡ joined r (population word n w).0
  unfolding population population_in_order
  population_same zero w r = sym (joined_none r)
  population_same (suc n) w r =
      let before = population word n w in
      let last = subscriber word (suc n) before.1 in
      fold-append with_row r (population_in_order word n w) (subscriber_in_order word (suc n) before.1)
      ∙ subscriber_same (suc n) before.1 (fold with_row r (population_in_order word n w))
      ∙ ap (λ (q : Rows). joined q last.0) (population_same n w r)
      ∙ joined_assoc r before.0 last.0

  -- the rows in the order drawn are the population
  pub in_order_same : (n : ℕ) (w : W) → fold with_row none (population_in_order word n w) ≡ (population word n w).0
  in_order_same n w = population_same n w none
