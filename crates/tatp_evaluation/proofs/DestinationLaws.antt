-- GET_NEW_DESTINATION: the numbers of the facility's forwardings in time, by their three start times.
use Rattle.std.specs.Prelude.{◌≡◌, ℕ, ◌≤◌, ◌==◌, ◌&&◌, ◌||◌, nat_lt, nat_le, Bool, true, false, cond, if◌then◌else◌, List, [], ◌∷◌, ◌++◌, length, map, filter, Option, Some, None, slice_index, unwrap_or, ◌⊎◌}
use Rattle.std.specs.Option.{option_map, option_to_list}
use Rattle.std.proofs.Common.{refl, sym, ap, ◌∙◌, arith, inl, inr, ⊎_elim}
use Rattle.std.proofs.lemmas.Bool.{and_parts, and_from, or_cases, eqb-true, eq-eqb, ne_eqb}
use Rattle.std.proofs.lemmas.List.{map-append}
use Rattle.std.proofs.lemmas.List.Elements.{filter-append}
use Rattle.tatp_tables.specs.Tuples.{Tuple, rows_of}
use Rattle.tatp_tables.specs.Keys.{has_key, row_at}
use Rattle.tatp_tables.specs.Domains.{is_in_domain, are_in_domain}
use Rattle.tatp_tables.specs.Database.{Database}
use Rattle.tatp_tables.specs.declared.table.Table.TheVariants.{CallForwarding}
use Rattle.tatp_tables.proofs.KeyLaws.{key_is, row_at-key}
use Rattle.tatp_homes.proofs.UndoLaws.{are_in_domain-at}
use Rattle.tatp_calls.specs.Transactions.{start_time_of, end_time_of, numberx_of, is_active, destinations}
use Rattle.tatp_procs.specs.Consistent.{IsConsistent}
use Rattle.tatp_procs.proofs.HomeRowLaws.{forwarding_key_parts, row_length}
use Rattle.tatp_procs.proofs.DestinationLaws.{nothing_passes}
use Rattle.tatp_procs.proofs.StartLaws.{AreForwardings, starting, rows_of_facility}
use Rattle.tatp_evaluation.specs.Destinations.{number_in_time}

-- ---- whether the facility is active
pub active : (facility : Option Tuple) → unwrap_or (option_map (λ row. slice_index row 2) facility) 0 ≡ 1 → is_active facility ≡ true
active None h = cc
active (Some row) h = eq-eqb (slice_index row 2) 1 h

pub inactive : (facility : Option Tuple) → (unwrap_or (option_map (λ row. slice_index row 2) facility) 0 ≡ 1 → ⊥) → is_active facility ≡ false
inactive None h = refl
inactive (Some row) h = ne_eqb (slice_index row 2) 1 h

-- ---- the forwardings of a facility, each by its start time
start_times : (v : ℕ) → is_in_domain 48 v ≡ true → (v ≡ 0) ⊎ ((v ≡ 8) ⊎ (v ≡ 16))
unfolding is_in_domain
start_times v h = ⊎_elim (λ e. ⊎_elim (λ z. inl (eqb-true v 0 z)) (λ z. inr (inl (eqb-true v 8 z))) (or_cases (v == 0) (v == 8) e)) (λ z. inr (inr (eqb-true v 16 z))) (or_cases (v == 0 || v == 8) (v == 16) h)

one_more : (s k n : ℕ) (row : Tuple) → has_key (s ∷ k ∷ []) row ≡ true → 3 ≤ length row → slice_index row 2 ≡ n → has_key (s ∷ k ∷ n ∷ []) row ≡ true
one_more s k n [] h le e = absurd (omega arith)
one_more s k n (x ∷ []) h le e = absurd (omega arith)
one_more s k n (x ∷ y ∷ []) h le e = absurd (omega arith)
one_more s k n (x ∷ y ∷ z ∷ more) h le e =
    let first = and_parts (x == s) ((y == k) && true) h in
    and_from (x == s) ((y == k) && ((z == n) && true)) first.0
    (and_from (y == k) ((z == n) && true) (and_parts (y == k) true first.1).0 (ap (λ b. b && true) (eq-eqb z n e)))

forwardings : (u : Database) (s k : ℕ) → IsConsistent u → AreForwardings u.forwardings s k
forwardings u s k is = record {
  starts = λ q h key.
      let long = row_length CallForwarding u q is h in
      let fits : is_in_domain 48 (slice_index q 2) ≡ true = are_in_domain-at 46 q 2 (and_parts _ (are_in_domain 46 q) (is.rows CallForwarding q h)).1 (omega (arith, long)) in
      ⊎_elim (λ e. inl (one_more s k 0 q key (omega (arith, long)) e)) (λ o. inr (⊎_elim (λ e. inl (one_more s k 8 q key (omega (arith, long)) e)) (λ e. inr (one_more s k 16 q key (omega (arith, long)) e)) o)) (start_times (slice_index q 2) fits);
  keys = λ n q r hq hr kq kr. is.keys CallForwarding q r hq hr (key_is (s ∷ k ∷ n ∷ []) q kq ∙ sym (key_is (s ∷ k ∷ n ∷ []) r kr));
}

-- ---- those that are in time
abbrev is_in_time : ℕ → ℕ → Tuple → Bool
is_in_time b e cf = nat_le (start_time_of cf) b && nat_lt e (end_time_of cf)

filter-and : (p q : Tuple → Bool) (xs : List Tuple) → filter (λ x. p x && q x) xs ≡ filter q (filter p xs)
filter-and p q [] = refl
filter-and p q (x ∷ xs) =
    elim (p x) as (λ c. cond (c && q x) (x ∷ filter (λ y. p y && q y) xs) (filter (λ y. p y && q y) xs) ≡ filter q (cond c (x ∷ filter p xs) (filter p xs))) [
      | true ↦ ap (λ ys. cond (q x) (x ∷ ys) ys) (filter-and p q xs)
      | false ↦ filter-and p q xs
    ]

number_where : (c : Bool) (cf : Tuple) → map numberx_of (cond c (cf ∷ []) []) ≡ option_to_list (if c then Some (numberx_of cf) else None)
number_where true cf = refl
number_where false cf = refl

number_of_start : (b e n : ℕ) (row : Option Tuple) → ((cf : Tuple) → row ≡ Some cf → start_time_of cf ≡ n)
    → map numberx_of (filter (is_in_time b e) (option_to_list row)) ≡ option_to_list (number_in_time b e n row)
number_of_start b e n None starts = refl
number_of_start b e n (Some cf) starts =
    ap (λ c. map numberx_of (cond (c && nat_lt e (end_time_of cf)) (cf ∷ []) [])) (ap (λ v. nat_le v b) (starts cf refl))
    ∙ number_where (nat_le n b && nat_lt e (end_time_of cf)) cf

abbrev number_at : Database → ℕ → ℕ → ℕ → ℕ → ℕ → Option ℕ
number_at u s k b e n = number_in_time b e n (row_at u.forwardings (s ∷ k ∷ n ∷ []))

number_found : (u : Database) (s k b e n : ℕ) → map numberx_of (filter (is_in_time b e) (starting u.forwardings s k n)) ≡ option_to_list (number_at u s k b e n)
number_found u s k b e n = number_of_start b e n (row_at u.forwardings (s ∷ k ∷ n ∷ [])) (λ cf h.
    ap (λ xs. slice_index xs 2) (forwarding_key_parts s k n cf (row_at-key u.forwardings (s ∷ k ∷ n ∷ []) cf h)))

-- ---- the laws
pub destinations_are : (u : Database) (s k b e : ℕ) → IsConsistent u → is_active (row_at u.facilities (s ∷ k ∷ [])) ≡ true
    → destinations u s k b e ≡ option_to_list (number_at u s k b e 0) ++ (option_to_list (number_at u s k b e 8) ++ option_to_list (number_at u s k b e 16))
destinations_are u s k b e is on =
    let first = starting u.forwardings s k 0 in
    let second = starting u.forwardings s k 8 in
    let third = starting u.forwardings s k 16 in
    ap (λ a. map numberx_of (filter (λ cf. has_key (s ∷ k ∷ []) cf && (a && is_in_time b e cf)) (rows_of u.forwardings))) on
    ∙ ap (map numberx_of) (filter-and (has_key (s ∷ k ∷ [])) (is_in_time b e) (rows_of u.forwardings) ∙ ap (filter (is_in_time b e)) (rows_of_facility u.forwardings s k (forwardings u s k is))
    ∙ filter-append (is_in_time b e) first (second ++ third) ∙ ap (λ xs. filter (is_in_time b e) first ++ xs) (filter-append (is_in_time b e) second third))
    ∙ map-append numberx_of (filter (is_in_time b e) first) (filter (is_in_time b e) second ++ filter (is_in_time b e) third)
    ∙ ap (λ xs. map numberx_of (filter (is_in_time b e) first) ++ xs) (map-append numberx_of (filter (is_in_time b e) second) (filter (is_in_time b e) third))
    ∙ (λ i. number_found u s k b e 0 i ++ (number_found u s k b e 8 i ++ number_found u s k b e 16 i))

pub no_destinations : (u : Database) (s k b e : ℕ) → is_active (row_at u.facilities (s ∷ k ∷ [])) ≡ false → destinations u s k b e ≡ []
no_destinations u s k b e off =
    ap (λ a. map numberx_of (filter (λ cf. has_key (s ∷ k ∷ []) cf && (a && is_in_time b e cf)) (rows_of u.forwardings))) off
    ∙ ap (map numberx_of) (nothing_passes (has_key (s ∷ k ∷ [])) (rows_of u.forwardings))
