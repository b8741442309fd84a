-- GET_SUBSCRIBER_DATA and GET_ACCESS_DATA.
use Rattle.std.specs.Prelude.{◌≡◌, ℕ, zero, suc, ◌+◌, ◌≤◌, true, List, [], ◌∷◌, take, drop, length, Option, Some, None, slice_index}
use Rattle.std.proofs.Common.{refl, sym, ap, ◌∙◌, arith, add-one}
use Rattle.std.proofs.Math.Seq.{drop-cons}
use Rattle.std.proofs.lemmas.List.{take_all}
use Rattle.tatp_tables.specs.Tuples.{Tuple}
use Rattle.tatp_tables.specs.Keys.{row_at}
use Rattle.tatp_tables.specs.Database.{Database, no_tables, of_subscriber}
use Rattle.tatp_tables.specs.declared.table.Table.TheVariants.{Subscriber, AccessInfo}
use Rattle.tatp_tables.proofs.KeyLaws.{row_at-key, row_at-has, first_is}
use Rattle.tatp_instr.specs.declared.ending.End.TheVariants.{Done, Failed}
use Rattle.tatp_machine.specs.Calls.{code_of, entered}
use Rattle.tatp_machine.proofs.HomelessLaws.{nothing_at}
use Rattle.tatp_numbers.specs.Homes.{s_id_of}
use Rattle.std.specs.Option.{option_map}
use Rattle.tatp_procs.specs.Standard.{standard_module}
use Rattle.tatp_calls.specs.declared.call.Call.TheVariants.{GetSubscriberData, GetAccessData}
use Rattle.tatp_calls.specs.Transactions.{replies, reads}
use Rattle.tatp_procs.specs.Consistent.{IsConsistent}
use Rattle.tatp_procs.specs.Performs.{Performs}
use Rattle.tatp_procs.proofs.RunLaws.{Over, run, run_homeless}
use Rattle.tatp_procs.proofs.WithinLaws.{is_within}
use Rattle.tatp_procs.proofs.HomeRowLaws.{row_at-own, no_child, key_parts, home_found, row_length}
use Rattle.tatp_procs.proofs.PerformLaws.{performs_failing, performs_reading, performs_without}

-- ---- GET_SUBSCRIBER_DATA
-- n columns of a row from c on
values : ℕ → ℕ → Tuple → List ℕ
values zero c row = []
values (suc n) c row = slice_index row c ∷ values n (c + 1) row

values_are : (n c : ℕ) (row : Tuple) → c + n ≤ length row → values n c row ≡ take n (drop c row)
unfolding values
values_are zero c row le = refl
values_are (suc n) c row le =
    ap (λ more. slice_index row c ∷ more) (values_are n (c + 1) row (omega arith) ∙ ap (λ k. take n (drop k row)) (add-one c))
    ∙ sym (ap (take (suc n)) (drop-cons row c 0 (omega arith)))

all_values : (row : Tuple) → length row ≡ 34 → values 34 0 row ≡ row
all_values row e = values_are 34 0 row (omega (arith, e)) ∙ take_all 34 row (omega (arith, e))

subscriber_found : (s : ℕ) (home : Option ℕ) (t : Database) (row : Tuple) → row_at t.subscribers (s ∷ []) ≡ Some row → row_at t.subscribers (slice_index row 0 ∷ []) ≡ Some row
    → run 73 (entered standard_module 0 (s ∷ []) home) t ≡ Over Done (values 34 0 row) t
unfolding values
subscriber_found s home t row e f = rw e (simp f)

subscriber_within : (row : Tuple) → is_within 73 (values 34 0 row) (code_of standard_module 0) ≡ true
unfolding values
subscriber_within row = refl

subscriber_homeless : (s : ℕ) → run_homeless 5 (entered standard_module 0 (s ∷ []) None) ≡ Over (Failed 1) [] no_tables
subscriber_homeless s = rw (nothing_at (s ∷ [])) refl

pub get_subscriber_data_performs : (u : Database) (s : ℕ) → IsConsistent u → Performs standard_module (GetSubscriberData s) u
get_subscriber_data_performs u s is =
    elim (row_at u.subscribers (s ∷ [])) as (λ o. row_at u.subscribers (s ∷ []) ≡ o → Performs standard_module (GetSubscriberData s) u) [
      | None ↦ λ e. performs_without standard_module (GetSubscriberData s) u no_tables 5 1 [] refl (ap (option_map s_id_of) e) (subscriber_homeless s) (ap (reads u (λ row. row)) (sym e))
      | Some row ↦ λ e.
          let found = row_at-own u.subscribers s [] ∙ e in
          let again : row_at (of_subscriber u s).subscribers (slice_index row 0 ∷ []) ≡ Some row = ap (λ k. row_at (of_subscriber u s).subscribers (k ∷ [])) (first_is s row (row_at-key u.subscribers (s ∷ []) row e)) ∙ found in
          performs_reading standard_module (GetSubscriberData s) u s 73 (values 34 0 row) is (subscriber_within row) (home_found u.subscribers s row e) (subscriber_found s (Some s) (of_subscriber u s) row found again)
          (ap (replies u) (all_values row (row_length Subscriber u row is (row_at-has u.subscribers (s ∷ []) row e))) ∙ ap (reads u (λ row. row)) (sym e))
    ] refl

-- ---- GET_ACCESS_DATA

access_found : (s k : ℕ) (home : Option ℕ) (t : Database) (row : Tuple) → row_at t.accesses (s ∷ k ∷ []) ≡ Some row → row_at t.accesses (slice_index row 0 ∷ slice_index row 1 ∷ []) ≡ Some row
    → run 13 (entered standard_module 2 (s ∷ k ∷ []) home) t ≡ Over Done (slice_index row 2 ∷ slice_index row 3 ∷ slice_index row 4 ∷ slice_index row 5 ∷ []) t
access_found s k home t row e f = rw e (simp f)

access_none : (s k : ℕ) (home : Option ℕ) (t : Database) → row_at t.accesses (s ∷ k ∷ []) ≡ None → run 5 (entered standard_module 2 (s ∷ k ∷ []) home) t ≡ Over (Failed 1) [] t
access_none s k home t e = rw e refl

access_homeless : (s k : ℕ) → run_homeless 5 (entered standard_module 2 (s ∷ k ∷ []) None) ≡ Over (Failed 1) [] no_tables
access_homeless s k = rw (nothing_at (s ∷ k ∷ [])) refl

rest_of : (row : Tuple) → length row ≡ 6 → slice_index row 2 ∷ slice_index row 3 ∷ slice_index row 4 ∷ slice_index row 5 ∷ [] ≡ drop 2 row
rest_of [] h = cc
rest_of (a ∷ []) h = absurd (omega arith)
rest_of (a ∷ b ∷ []) h = absurd (omega arith)
rest_of (a ∷ b ∷ c ∷ []) h = absurd (omega arith)
rest_of (a ∷ b ∷ c ∷ d ∷ []) h = absurd (omega arith)
rest_of (a ∷ b ∷ c ∷ d ∷ e ∷ []) h = absurd (omega arith)
rest_of (a ∷ b ∷ c ∷ d ∷ e ∷ f ∷ []) h = refl
rest_of (a ∷ b ∷ c ∷ d ∷ e ∷ f ∷ g ∷ more) h = absurd (omega arith)

pub get_access_data_performs : (u : Database) (s k : ℕ) → IsConsistent u → Performs standard_module (GetAccessData s k) u
get_access_data_performs u s k is =
    elim (row_at u.subscribers (s ∷ [])) as (λ o. row_at u.subscribers (s ∷ []) ≡ o → Performs standard_module (GetAccessData s k) u) [
      | None ↦ λ e. performs_without standard_module (GetAccessData s k) u no_tables 5 1 [] refl (ap (option_map s_id_of) e) (access_homeless s k)
          (ap (reads u (drop 2)) (sym (no_child u.subscribers u.accesses s (k ∷ []) is.parents.of_accesses e)))
      | Some sub ↦ λ e.
          let named = home_found u.subscribers s sub e in
          elim (row_at u.accesses (s ∷ k ∷ [])) as (λ o. row_at u.accesses (s ∷ k ∷ []) ≡ o → Performs standard_module (GetAccessData s k) u) [
            | None ↦ λ f. performs_failing standard_module (GetAccessData s k) u (of_subscriber u s) s 5 1 [] is refl named
                (access_none s k (Some s) (of_subscriber u s) (row_at-own u.accesses s (k ∷ []) ∙ f)) (ap (reads u (drop 2)) (sym f))
            | Some row ↦ λ f.
                let found = row_at-own u.accesses s (k ∷ []) ∙ f in
                let again : row_at (of_subscriber u s).accesses (slice_index row 0 ∷ slice_index row 1 ∷ []) ≡ Some row = ap (row_at (of_subscriber u s).accesses) (key_parts s k row (row_at-key u.accesses (s ∷ k ∷ []) row f)) ∙ found in
                performs_reading standard_module (GetAccessData s k) u s 13 (slice_index row 2 ∷ slice_index row 3 ∷ slice_index row 4 ∷ slice_index row 5 ∷ []) is refl named (access_found s k (Some s) (of_subscriber u s) row found again)
                (ap (replies u) (rest_of row (row_length AccessInfo u row is (row_at-has u.accesses (s ∷ k ∷ []) row f))) ∙ ap (reads u (drop 2)) (sym f))
          ] refl
    ] refl
