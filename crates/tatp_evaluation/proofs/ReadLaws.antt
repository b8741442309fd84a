-- The columns of a home's rows are what the transactions that read a row reply.
use Rattle.std.specs.Prelude.{◌≡◌, ℕ, ◌-◌, ◌<◌, nat_lt, true, cond, List, [], ◌∷◌, drop, length, Some, None, is_some, unwrap_or, slice_index}
use Rattle.std.specs.Option.{option_map}
use Rattle.std.proofs.Common.{refl, sym, ap, ◌∙◌, arith, true≢false, lt-ltb, le-leb}
use Rattle.tatp_tables.specs.Tuples.{Tuple}
use Rattle.tatp_tables.specs.Keys.{row_at}
use Rattle.tatp_tables.specs.Columns.{first_column, table_of, place_of}
use Rattle.tatp_tables.specs.Database.{Database, current_row}
use Rattle.tatp_tables.specs.declared.table.Table.TheVariants.{Subscriber, AccessInfo, SpecialFacility, CallForwarding}
use Rattle.tatp_tables.proofs.KeyLaws.{row_at-has}
use Rattle.tatp_homes.specs.Changes.{cell}
use Rattle.tatp_homes.proofs.StoredLaws.{AreFirst, first_all}
use Rattle.tatp_calls.specs.declared.reply.Reply.TheVariants.{Values}
use Rattle.tatp_calls.specs.Transactions.{reads, get_subscriber_data, get_access_data}
use Rattle.tatp_procs.specs.Consistent.{IsConsistent}
use Rattle.tatp_procs.proofs.HomeRowLaws.{row_length}

-- a column, or 0
abbrev pub column_of : Database → List ℕ → ℕ → ℕ
column_of u key c = unwrap_or (cell u c key) 0

-- ---- GET_SUBSCRIBER_DATA
subscriber_table : (c : ℕ) → c < 34 → table_of c ≡ Subscriber
subscriber_table c lt = ap (λ b. cond b Subscriber (cond (nat_lt c 40) AccessInfo (cond (nat_lt c 46) SpecialFacility CallForwarding))) (lt-ltb c 34 lt)

subscriber_cell : (u : Database) (s c : ℕ) → c < 34 → cell u c (s ∷ 0 ∷ 0 ∷ []) ≡ option_map (λ row. slice_index row c) (row_at u.subscribers (s ∷ []))
subscriber_cell u s c lt =
    let key : List ℕ = s ∷ 0 ∷ 0 ∷ [] in
    let none_less : c - 0 ≡ c = omega arith in
    ap (λ b. cond b (option_map (λ row. slice_index row (place_of c)) (current_row (table_of c) u key)) None) (le-leb c 50 (omega (arith, lt)))
    ∙ (ap (λ t. option_map (λ row. slice_index row (c - first_column t)) (current_row t u key)) (subscriber_table c lt)
    ∙ ap (λ k. option_map (λ row. slice_index row k) (row_at u.subscribers (s ∷ []))) none_less)

pub subscriber_read : (u : Database) (s : ℕ) (values : List ℕ) → IsConsistent u → is_some (row_at u.subscribers (s ∷ [])) ≡ true → AreFirst 0 34 34 (column_of u (s ∷ 0 ∷ 0 ∷ [])) values
    → Values values ≡ (get_subscriber_data u s).reply
subscriber_read u s values is there read = elim (row_at u.subscribers (s ∷ [])) as (λ o. row_at u.subscribers (s ∷ []) ≡ o → is_some o ≡ true → Values values ≡ (reads u (λ row. row) o).reply) [
  | None ↦ λ e h. absurd (true≢false (sym h))
  | Some row ↦ λ e h. ap Values (first_all 0 34 values row
      (read.0, λ c lt. read.1 c lt ∙ ap (λ o. unwrap_or o 0) (subscriber_cell u s c lt ∙ ap (option_map (λ r. slice_index r c)) e))
      (row_length Subscriber u row is (row_at-has u.subscribers (s ∷ []) row e)))
] refl there

-- ---- GET_ACCESS_DATA
data_of : (row : Tuple) → length row ≡ 6 → slice_index row 2 ∷ slice_index row 3 ∷ slice_index row 4 ∷ slice_index row 5 ∷ [] ≡ drop 2 row
data_of [] h = absurd (omega arith)
data_of (a ∷ []) h = absurd (omega arith)
data_of (a ∷ b ∷ []) h = absurd (omega arith)
data_of (a ∷ b ∷ c ∷ []) h = absurd (omega arith)
data_of (a ∷ b ∷ c ∷ d ∷ []) h = absurd (omega arith)
data_of (a ∷ b ∷ c ∷ d ∷ e ∷ []) h = absurd (omega arith)
data_of (a ∷ b ∷ c ∷ d ∷ e ∷ f ∷ []) h = refl
data_of (a ∷ b ∷ c ∷ d ∷ e ∷ f ∷ g ∷ more) h = absurd (omega arith)

pub access_read : (u : Database) (s t : ℕ) → IsConsistent u → is_some (row_at u.accesses (s ∷ t ∷ [])) ≡ true
    → Values (column_of u (s ∷ t ∷ 0 ∷ []) 36 ∷ column_of u (s ∷ t ∷ 0 ∷ []) 37 ∷ column_of u (s ∷ t ∷ 0 ∷ []) 38 ∷ column_of u (s ∷ t ∷ 0 ∷ []) 39 ∷ []) ≡ (get_access_data u s t).reply
access_read u s t is there = elim (row_at u.accesses (s ∷ t ∷ [])) as (λ o. row_at u.accesses (s ∷ t ∷ []) ≡ o → is_some o ≡ true
    → Values (unwrap_or (option_map (λ r. slice_index r 2) o) 0 ∷ unwrap_or (option_map (λ r. slice_index r 3) o) 0 ∷ unwrap_or (option_map (λ r. slice_index r 4) o) 0 ∷ unwrap_or (option_map (λ r. slice_index r 5) o) 0 ∷ []) ≡ (reads u (drop 2) o).reply) [
      | None ↦ λ e h. absurd (true≢false (sym h))
      | Some row ↦ λ e h. ap Values (data_of row (row_length AccessInfo u row is (row_at-has u.accesses (s ∷ t ∷ []) row e)))
    ] refl there
