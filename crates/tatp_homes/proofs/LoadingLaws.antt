-- One row more is read into its home.
use Rattle.std.specs.Prelude.{◌≡◌, ◌≢◌, ℕ, zero, suc, ◌+◌, ◌<◌, true, false, List, [], ◌∷◌, ◌++◌, map, length, slice_index_or, slice_set}
use Rattle.std.specs.List.{range_with_len}
use Rattle.std.proofs.Common.{refl, sym, ap, ◌∙◌, arith}
use Rattle.std.proofs.lemmas.List.{take_all}
use Rattle.std.proofs.lemmas.List.FromFn.{length-map-range_with_len, map-range_with_len_more}
use Rattle.tatp_tables.specs.Tuples.{Tuple, no_rows, set_of, insert_row}
use Rattle.tatp_tables.specs.Keys.{has_key}
use Rattle.tatp_tables.specs.Rows.{rows_in}
use Rattle.tatp_tables.specs.Database.{Database, database_of, in_table, of_subscriber, no_tables, rows_with_s_id}
use Rattle.tatp_homes.specs.Home.{SubscriberRows, home_in, home_with}
use Rattle.tatp_homes.specs.Loading.{read_until, read_with, homes_in}
use Rattle.tatp_homes.proofs.PrefixLaws.{own_rows-more, other_rows-more, rows_with_s_id-none}
use Rattle.tatp_tables.proofs.KeyLaws.{key_heads}
use Rattle.tatp_tables.specs.declared.row.Rows.{Rows}
use Rattle.tatp_tables.specs.declared.table.Table.{Table}
use Rattle.tatp_tables.specs.declared.table.Table.TheVariants.{Subscriber, AccessInfo, SpecialFacility, CallForwarding}

-- ---- lists over a range
pub map-same : {X : Type 0} (f g : ℕ → X) (a n : ℕ) → ((k : ℕ) → k < n → g (a + k) ≡ f (a + k)) → map g (range_with_len a n) ≡ map f (range_with_len a n)
map-same f g a zero h = refl
map-same f g a (suc n) h =
    let first : a + 0 ≡ a = omega arith in
    λ i. (ap g (sym first) ∙ h 0 (omega arith) ∙ ap f first) i
    ∷ map-same f g (a + 1) n (λ k lt. let e : a + 1 + k ≡ a + (k + 1) = omega arith in ap g e ∙ h (k + 1) (omega arith) ∙ ap f (sym e)) i

pub map-one : {X : Type 0} (f g : ℕ → X) (a n place : ℕ) → place < n → ((q : ℕ) → q ≢ a + place → g q ≡ f q) → map g (range_with_len a n) ≡ slice_set (map f (range_with_len a n)) place (g (a + place))
map-one f g a zero place lt h = absurd (omega arith)
map-one f g a (suc n) zero lt h =
    let first : a ≡ a + 0 = omega arith in
    λ i. g (first i) ∷ map-same f g (a + 1) n (λ k _. h (a + 1 + k) (λ e. omega arith)) i
map-one f g a (suc n) (suc place) lt h =
    let e : a + suc place ≡ a + 1 + place = omega arith in
    λ i. h a (λ e. omega arith) i ∷ (map-one f g (a + 1) n place (omega arith) (λ q ne. h q (λ k. ne (k ∙ e))) ∙ ap (λ m. slice_set (map f (range_with_len (a + 1) n)) place (g m)) (sym e)) i

-- ---- one home
-- the row's own home has it besides
pub own-next : (t : Table) (r : Rows) (i s : ℕ) (d : Tuple) → i < length (rows_in t r) → has_key (s ∷ []) (slice_index_or (rows_in t r) i d) ≡ true
    → home_in (read_until t r (i + 1)) s ≡ home_with (home_in (read_until t r i) s) t (insert_row (in_table t (of_subscriber (read_until t r i) s)) (slice_index_or (rows_in t r) i d))
own-next Subscriber r i s d lt own = ap (λ x. home_with (home_in (read_until Subscriber r i) s) Subscriber x) (own_rows-more s r.subscribers i d lt own)
own-next AccessInfo r i s d lt own = ap (λ x. home_with (home_in (read_until AccessInfo r i) s) AccessInfo x) (own_rows-more s r.accesses i d lt own)
own-next SpecialFacility r i s d lt own = ap (λ x. home_with (home_in (read_until SpecialFacility r i) s) SpecialFacility x) (own_rows-more s r.facilities i d lt own)
own-next CallForwarding r i s d lt own = ap (λ x. home_with (home_in (read_until CallForwarding r i) s) CallForwarding x) (own_rows-more s r.forwardings i d lt own)

-- every other home is as it was
pub other-next : (t : Table) (r : Rows) (i s : ℕ) (d : Tuple) → i < length (rows_in t r) → has_key (s ∷ []) (slice_index_or (rows_in t r) i d) ≡ false
    → home_in (read_until t r (i + 1)) s ≡ home_in (read_until t r i) s
other-next Subscriber r i s d lt other = ap (λ x. home_with (home_in (read_until Subscriber r i) s) Subscriber x) (other_rows-more s r.subscribers i d lt other)
other-next AccessInfo r i s d lt other = ap (λ x. home_with (home_in (read_until AccessInfo r i) s) AccessInfo x) (other_rows-more s r.accesses i d lt other)
other-next SpecialFacility r i s d lt other = ap (λ x. home_with (home_in (read_until SpecialFacility r i) s) SpecialFacility x) (other_rows-more s r.facilities i d lt other)
other-next CallForwarding r i s d lt other = ap (λ x. home_with (home_in (read_until CallForwarding r i) s) CallForwarding x) (other_rows-more s r.forwardings i d lt other)

-- ---- all homes
pub not_own : (s q : ℕ) (row : Tuple) → has_key (s ∷ []) row ≡ true → q ≢ s → has_key (q ∷ []) row ≡ false
not_own s q row own n = elim (has_key (q ∷ []) row) as (λ b. has_key (q ∷ []) row ≡ b → b ≡ false) [
  | true ↦ λ e. absurd (n (key_heads q s row e own))
  | false ↦ λ e. refl
] refl

-- a row whose home is at a place
pub homes-next : (t : Table) (r : Rows) (i first n place : ℕ) (d : Tuple) → i < length (rows_in t r) → place < n → has_key ((first + place) ∷ []) (slice_index_or (rows_in t r) i d) ≡ true
    → homes_in (read_until t r (i + 1)) first n
    ≡ slice_set (homes_in (read_until t r i) first n) place
    (home_with (home_in (read_until t r i) (first + place)) t (insert_row (in_table t (of_subscriber (read_until t r i) (first + place))) (slice_index_or (rows_in t r) i d)))
homes-next t r i first n place d lt within own =
    map-one (home_in (read_until t r i)) (home_in (read_until t r (i + 1))) first n place within (λ q ne. other-next t r i q d lt (not_own (first + place) q (slice_index_or (rows_in t r) i d) own ne))
    ∙ ap (slice_set (homes_in (read_until t r i) first n) place) (own-next t r i (first + place) d lt own)

-- a row of none of them
pub homes-same : (t : Table) (r : Rows) (i first n s : ℕ) (d : Tuple) → i < length (rows_in t r) → has_key (s ∷ []) (slice_index_or (rows_in t r) i d) ≡ true → ((k : ℕ) → k < n → first + k ≡ s → ⊥)
    → homes_in (read_until t r (i + 1)) first n ≡ homes_in (read_until t r i) first n
homes-same t r i first n s d lt own none =
    map-same (home_in (read_until t r i)) (home_in (read_until t r (i + 1))) first n (λ k l. other-next t r i (first + k) d lt (not_own s (first + k) (slice_index_or (rows_in t r) i d) own (none k l)))

-- ---- from one table to the next
read_subscribers : (r : Rows) → read_until Subscriber r (length r.subscribers) ≡ read_until AccessInfo r 0
read_subscribers r = ap (λ xs. record (read_until AccessInfo r 0) { subscribers = set_of xs }) (take_all (length r.subscribers) r.subscribers (omega arith))

read_accesses : (r : Rows) → read_until AccessInfo r (length r.accesses) ≡ read_until SpecialFacility r 0
read_accesses r = ap (λ xs. record (read_until SpecialFacility r 0) { accesses = set_of xs }) (take_all (length r.accesses) r.accesses (omega arith))

read_facilities : (r : Rows) → read_until SpecialFacility r (length r.facilities) ≡ read_until CallForwarding r 0
read_facilities r = ap (λ xs. record (read_until CallForwarding r 0) { facilities = set_of xs }) (take_all (length r.facilities) r.facilities (omega arith))

read_forwardings : (r : Rows) → read_until CallForwarding r (length r.forwardings) ≡ database_of r
read_forwardings r = ap (λ xs. record (database_of r) { forwardings = set_of xs }) (take_all (length r.forwardings) r.forwardings (omega arith))

pub read_all : (t : Table) (r : Rows) → read_until t r (length (rows_in t r)) ≡ read_with t r
read_all Subscriber r = read_subscribers r
read_all AccessInfo r = read_accesses r
read_all SpecialFacility r = read_facilities r
read_all CallForwarding r = read_forwardings r

-- before the first row there is none
no_own_rows : (s : ℕ) → rows_with_s_id s no_rows ≡ no_rows
no_own_rows s = rows_with_s_id-none s []

pub home_of_none : (s : ℕ) → record { s_id = s; tables = no_tables } ≡ home_in no_tables s
home_of_none s = λ i. record {
  s_id = s;
  tables = record {
    subscribers = sym (no_own_rows s) i;
    accesses = sym (no_own_rows s) i;
    facilities = sym (no_own_rows s) i;
    forwardings = sym (no_own_rows s) i;
  };
}

pub homes_of_none : (first n : ℕ) → map (λ s. record { s_id = s; tables = no_tables }) (range_with_len first n) ≡ homes_in no_tables first n
homes_of_none first n = map-same (home_in no_tables) (λ s. record { s_id = s; tables = no_tables }) first n (λ k lt. home_of_none (first + k))

pub length-homes_in : (u : Database) (first n : ℕ) → length (homes_in u first n) ≡ n
length-homes_in u first n = length-map-range_with_len (home_in u) first n

-- a home more
pub one_home_more : (xs : List SubscriberRows) (home : SubscriberRows) (first n : ℕ) → xs ≡ map (λ s. record { s_id = s; tables = no_tables }) (range_with_len first n) → home ≡ record { s_id = first + n; tables = no_tables }
    → xs ++ home ∷ [] ≡ map (λ s. record { s_id = s; tables = no_tables }) (range_with_len first (n + 1))
one_home_more xs home first n e h = (λ i. e i ++ h i ∷ []) ∙ sym (map-range_with_len_more (λ s. record { s_id = s; tables = no_tables }) first n (first + n) refl)
