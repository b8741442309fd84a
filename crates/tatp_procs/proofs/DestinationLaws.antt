-- GET_NEW_DESTINATION: the three finds give the numbers of the facility's forwardings, in the order of their start times.
use Rattle.std.specs.Prelude.{◌≡◌, ℕ, zero, suc, ◌+◌, ◌%◌, ◌^◌, ◌≤◌, ◌==◌, ◌&&◌, ◌||◌, nat_lt, nat_le, Bool, true, false, cond, if◌then◌else◌, List, [], ◌∷◌, ◌++◌, length, map, filter, Option, Some, None, slice_index, ◌⊎◌}
use Rattle.std.specs.Option.{option_map, option_to_list}
use Rattle.std.proofs.Common.{refl, sym, ap, subst, ◌∙◌, arith, inl, inr, ⊎_elim}
use Rattle.std.proofs.lemmas.Bool.{and_parts, and_from, or_cases, eqb-true, eq-eqb}
use Rattle.std.proofs.lemmas.Bool.Decides.{nat_tests}
use Rattle.std.proofs.lemmas.List.{map-append}
use Rattle.std.proofs.lemmas.List.Elements.{filter-append}
use Rattle.tatp_limits.specs.declared.limits.TheConstants.{MAX_OUTPUTS, MAX_STEPS}
use Rattle.tatp_tables.specs.Tuples.{Tuple, rows_of}
use Rattle.tatp_tables.specs.Keys.{has_key, row_at}
use Rattle.tatp_tables.specs.Domains.{is_in_domain, are_in_domain}
use Rattle.tatp_tables.specs.Database.{Database, no_tables, of_subscriber}
use Rattle.tatp_tables.specs.declared.table.Table.TheVariants.{SpecialFacility, CallForwarding}
use Rattle.tatp_tables.proofs.KeyLaws.{key_is, row_at-key, row_at-has}
use Rattle.tatp_homes.proofs.UndoLaws.{are_in_domain-at}
use Rattle.tatp_numbers.specs.Homes.{s_id_of}
use Rattle.tatp_calls.specs.declared.call.Call.TheVariants.{GetNewDestination}
use Rattle.tatp_procs.specs.Standard.{standard_module}
use Rattle.tatp_calls.specs.Transactions.{start_time_of, end_time_of, numberx_of, is_active, destinations, some_of}
use Rattle.tatp_procs.specs.Consistent.{IsConsistent}
use Rattle.tatp_procs.specs.Performs.{Performs}
use Rattle.tatp_procs.proofs.HomeRowLaws.{row_at-own, no_child, key_parts, forwarding_key_parts, home_found, row_length}
use Rattle.tatp_procs.proofs.PerformLaws.{performs_failing, performs_reading, performs_without}
use Rattle.tatp_procs.proofs.RunLaws.{run}
use Rattle.tatp_procs.proofs.WithinLaws.{is_within}
use Rattle.tatp_procs.proofs.StartLaws.{AreForwardings, starting, rows_of_facility}
use Rattle.tatp_machine.specs.Calls.{code_of, entered}
use Rattle.tatp_procs.proofs.DestinationRunLaws.{destination_homeless, facility_none, facility_inactive, facility_active, chosen, all_of, ending_of, number_from}

-- ---- values in their domains
start_times : (v : ℕ) → is_in_domain 48 v ≡ true → (v ≡ 0) ⊎ ((v ≡ 8) ⊎ (v ≡ 16))
unfolding is_in_domain
start_times v h = ⊎_elim (λ e. ⊎_elim (λ z. inl (eqb-true v 0 z)) (λ z. inr (inl (eqb-true v 8 z))) (or_cases (v == 0) (v == 8) e)) (λ z. inr (inr (eqb-true v 16 z))) (or_cases (v == 0 || v == 8) (v == 16) h)

active_values : (v : ℕ) → is_in_domain 42 v ≡ true → (v ≡ 0) ⊎ (v ≡ 1)
unfolding is_in_domain
active_values zero h = inl refl
active_values (suc zero) h = inr refl
active_values (suc (suc v)) h = absurd (grind (arith, nat_tests))

-- a start time below b and one is at most b
abbrev Limits : ℕ → ℕ → Type 0
Limits n b = nat_lt n ((b + 1) % 2 ^ 64) ≡ nat_le n b

limit_at : (n : ℕ) → Limits n 0 → Limits n 8 → Limits n 16 → (b : ℕ) → is_in_domain 48 b ≡ true → Limits n b
limit_at n none eight sixteen b d = ⊎_elim (λ e. subst (Limits n) (sym e) none) (⊎_elim (λ e. subst (Limits n) (sym e) eight) (λ e. subst (Limits n) (sym e) sixteen)) (start_times b d)

-- ---- the forwardings of a facility
one_more : (s k n : ℕ) (row : Tuple) → has_key (s ∷ k ∷ []) row ≡ true → 3 ≤ length row → slice_index row 2 ≡ n → has_key (s ∷ k ∷ n ∷ []) row ≡ true
one_more s k n [] h le e = absurd (omega arith)
one_more s k n (x ∷ []) h le e = absurd (omega arith)
one_more s k n (x ∷ y ∷ []) h le e = absurd (omega arith)
one_more s k n (x ∷ y ∷ z ∷ more) h le e =
    let first = and_parts (x == s) ((y == k) && true) h in
    and_from (x == s) ((y == k) && ((z == n) && true)) first.0
    (and_from (y == k) ((z == n) && true) (and_parts (y == k) true first.1).0 (ap (λ b. b && true) (eq-eqb z n e)))

forwardings : (u : Database) (s k : ℕ) → IsConsistent u → AreForwardings u.forwardings s k
forwardings u s k is = record {
  starts = λ q h key.
      let long = row_length CallForwarding u q is h in
      let fits : is_in_domain 48 (slice_index q 2) ≡ true = are_in_domain-at 46 q 2 (and_parts _ (are_in_domain 46 q) (is.rows CallForwarding q h)).1 (omega (arith, long)) in
      ⊎_elim (λ e. inl (one_more s k 0 q key (omega (arith, long)) e)) (λ o. inr (⊎_elim (λ e. inl (one_more s k 8 q key (omega (arith, long)) e)) (λ e. inr (one_more s k 16 q key (omega (arith, long)) e)) o)) (start_times (slice_index q 2) fits);
  keys = λ n q r hq hr kq kr. is.keys CallForwarding q r hq hr (key_is (s ∷ k ∷ n ∷ []) q kq ∙ sym (key_is (s ∷ k ∷ n ∷ []) r kr));
}

-- ---- those that are destinations
filter-and : (p q : Tuple → Bool) (xs : List Tuple) → filter (λ x. p x && q x) xs ≡ filter q (filter p xs)
filter-and p q [] = refl
filter-and p q (x ∷ xs) =
    elim (p x) as (λ c. cond (c && q x) (x ∷ filter (λ y. p y && q y) xs) (filter (λ y. p y && q y) xs) ≡ filter q (cond c (x ∷ filter p xs) (filter p xs))) [
      | true ↦ ap (λ ys. cond (q x) (x ∷ ys) ys) (filter-and p q xs)
      | false ↦ filter-and p q xs
    ]

pub nothing_passes : (p : Tuple → Bool) (xs : List Tuple) → filter (λ x. p x && false) xs ≡ []
nothing_passes p [] = refl
nothing_passes p (x ∷ xs) =
    elim (p x) as (λ c. cond (c && false) (x ∷ filter (λ y. p y && false) xs) (filter (λ y. p y && false) xs) ≡ []) [
      | true ↦ nothing_passes p xs
      | false ↦ nothing_passes p xs
    ]

-- its times are those asked for
abbrev is_in_time : ℕ → ℕ → Tuple → Bool
is_in_time b e cf = nat_le (start_time_of cf) b && nat_lt e (end_time_of cf)

number_where : (c : Bool) (cf : Tuple) → map numberx_of (cond c (cf ∷ []) []) ≡ option_to_list (if c then Some (numberx_of cf) else None)
number_where true cf = refl
number_where false cf = refl

number_of_start : (b e n : ℕ) (row : Option Tuple) → nat_lt n ((b + 1) % 2 ^ 64) ≡ nat_le n b → ((cf : Tuple) → row ≡ Some cf → start_time_of cf ≡ n)
    → map numberx_of (filter (is_in_time b e) (option_to_list row)) ≡ option_to_list (chosen ((b + 1) % 2 ^ 64) e n row)
number_of_start b e n None limit starts = refl
number_of_start b e n (Some cf) limit starts =
    ap (λ c. map numberx_of (cond (c && nat_lt e (end_time_of cf)) (cf ∷ []) [])) (ap (λ v. nat_le v b) (starts cf refl) ∙ sym limit)
    ∙ number_where (nat_lt n ((b + 1) % 2 ^ 64) && nat_lt e (end_time_of cf)) cf

start_is : (a c n : ℕ) (row : Tuple) → has_key (a ∷ c ∷ n ∷ []) row ≡ true → slice_index row 2 ≡ n
start_is a c n row h = ap (λ xs. slice_index xs 2) (forwarding_key_parts a c n row h)

number_found : (u : Database) (s k b e n : ℕ) → nat_lt n ((b + 1) % 2 ^ 64) ≡ nat_le n b → map numberx_of (filter (is_in_time b e) (starting u.forwardings s k n)) ≡ option_to_list (number_from u s k b e n)
number_found u s k b e n limit = number_of_start b e n (row_at u.forwardings (s ∷ k ∷ n ∷ [])) limit (λ cf h. start_is s k n cf (row_at-key u.forwardings (s ∷ k ∷ n ∷ []) cf h))

-- those of an active facility
destinations_are : (u : Database) (s k b e : ℕ) → IsConsistent u → is_in_domain 48 b ≡ true → is_active (row_at u.facilities (s ∷ k ∷ [])) ≡ true
    → destinations u s k b e ≡ all_of (number_from u s k b e 0) (number_from u s k b e 8) (number_from u s k b e 16)
destinations_are u s k b e is d active =
    let first = starting u.forwardings s k 0 in
    let second = starting u.forwardings s k 8 in
    let third = starting u.forwardings s k 16 in
    ap (λ a. map numberx_of (filter (λ cf. has_key (s ∷ k ∷ []) cf && (a && is_in_time b e cf)) (rows_of u.forwardings))) active
    ∙ ap (map numberx_of) (filter-and (has_key (s ∷ k ∷ [])) (is_in_time b e) (rows_of u.forwardings) ∙ ap (filter (is_in_time b e)) (rows_of_facility u.forwardings s k (forwardings u s k is))
    ∙ filter-append (is_in_time b e) first (second ++ third) ∙ ap (λ xs. filter (is_in_time b e) first ++ xs) (filter-append (is_in_time b e) second third))
    ∙ map-append numberx_of (filter (is_in_time b e) first) (filter (is_in_time b e) second ++ filter (is_in_time b e) third)
    ∙ ap (λ xs. map numberx_of (filter (is_in_time b e) first) ++ xs) (map-append numberx_of (filter (is_in_time b e) second) (filter (is_in_time b e) third))
    ∙ (λ i. number_found u s k b e 0 (limit_at 0 refl refl refl b d) i ++ (number_found u s k b e 8 (limit_at 8 refl refl refl b d) i ++ number_found u s k b e 16 (limit_at 16 refl refl refl b d) i))

-- without one there are none
no_destinations : (u : Database) (s k b e : ℕ) → is_active (row_at u.facilities (s ∷ k ∷ [])) ≡ false → destinations u s k b e ≡ []
no_destinations u s k b e inactive =
    ap (λ a. map numberx_of (filter (λ cf. has_key (s ∷ k ∷ []) cf && (a && is_in_time b e cf)) (rows_of u.forwardings))) inactive
    ∙ ap (map numberx_of) (nothing_passes (has_key (s ∷ k ∷ [])) (rows_of u.forwardings))

-- ---- the call
-- three numbers at most, in no more turns, pass no limit
few_numbers : (a b c : Option ℕ) → nat_le (length (all_of a b c)) MAX_OUTPUTS ≡ true
few_numbers None None None = refl
few_numbers None None (Some o) = refl
few_numbers None (Some n) None = refl
few_numbers None (Some n) (Some o) = refl
few_numbers (Some m) None None = refl
few_numbers (Some m) None (Some o) = refl
few_numbers (Some m) (Some n) None = refl
few_numbers (Some m) (Some n) (Some o) = refl

few_turns : (n : ℕ) → n ≤ 50 → nat_lt n MAX_STEPS ≡ true
few_turns n few = grind (arith, nat_tests)

numbers_within : (n : ℕ) (a b c : Option ℕ) → n ≤ 50 → is_within n (all_of a b c) (code_of standard_module 1) ≡ true
numbers_within n a b c few = rw (few_turns n few, few_numbers a b c) refl

-- what it is answered, by the numbers that it put out
performs_ending : (u : Database) (s k b e n : ℕ) (numbers : List ℕ) (row : Tuple) → IsConsistent u → is_within n numbers (code_of standard_module 1) ≡ true → row_at u.subscribers (s ∷ []) ≡ Some row
    → run n (entered standard_module 1 (s ∷ k ∷ b ∷ e ∷ []) (Some s)) (of_subscriber u s) ≡ ending_of numbers (of_subscriber u s) → destinations u s k b e ≡ numbers → Performs standard_module (GetNewDestination s k b e) u
performs_ending u s k b e n [] row is within f ran are = performs_failing standard_module (GetNewDestination s k b e) u (of_subscriber u s) s n 1 [] is within (home_found u.subscribers s row f) ran (ap (some_of u) (sym are))
performs_ending u s k b e n (number ∷ numbers) row is within f ran are =
    performs_reading standard_module (GetNewDestination s k b e) u s n (number ∷ numbers) is within (home_found u.subscribers s row f) ran (ap (some_of u) (sym are))

number_own : (u : Database) (s k b e n : ℕ) → number_from (of_subscriber u s) s k b e n ≡ number_from u s k b e n
number_own u s k b e n = ap (chosen ((b + 1) % 2 ^ 64) e n) (row_at-own u.forwardings s (k ∷ n ∷ []))

module _ (u : Database) (s k b e : ℕ) (row facility : Tuple) (is : IsConsistent u) (d : is_in_domain 48 b ≡ true) (f : row_at u.subscribers (s ∷ []) ≡ Some row) (g : row_at u.facilities (s ∷ k ∷ []) ≡ Some facility) where
  found : row_at (of_subscriber u s).facilities (s ∷ k ∷ []) ≡ Some facility
  found = row_at-own u.facilities s (k ∷ []) ∙ g

  found_again : row_at (of_subscriber u s).facilities (slice_index facility 0 ∷ slice_index facility 1 ∷ []) ≡ Some facility
  found_again = ap (row_at (of_subscriber u s).facilities) (key_parts s k facility (row_at-key u.facilities (s ∷ k ∷ []) facility g)) ∙ found

  forwarding_again : (n : ℕ) (cf : Tuple) → row_at (of_subscriber u s).forwardings (s ∷ k ∷ n ∷ []) ≡ Some cf → row_at (of_subscriber u s).forwardings (slice_index cf 0 ∷ slice_index cf 1 ∷ slice_index cf 2 ∷ []) ≡ Some cf
  forwarding_again n cf h = ap (row_at (of_subscriber u s).forwardings) (forwarding_key_parts s k n cf (row_at-key (of_subscriber u s).forwardings (s ∷ k ∷ n ∷ []) cf h)) ∙ h

  performs_active : slice_index facility 2 ≡ 1 → Performs standard_module (GetNewDestination s k b e) u
  performs_active one_is =
      let ran = facility_active s k b e (Some s) (of_subscriber u s) facility found found_again one_is forwarding_again in
      let active : is_active (row_at u.facilities (s ∷ k ∷ [])) ≡ true = ap is_active g ∙ ap (λ v. v == 1) one_is in
      performs_ending u s k b e ran.0 (all_of (number_from (of_subscriber u s) s k b e 0) (number_from (of_subscriber u s) s k b e 8) (number_from (of_subscriber u s) s k b e 16)) row is
      (numbers_within ran.0 (number_from (of_subscriber u s) s k b e 0) (number_from (of_subscriber u s) s k b e 8) (number_from (of_subscriber u s) s k b e 16) ran.2) f ran.1
      (destinations_are u s k b e is d active ∙ sym (λ i. all_of (number_own u s k b e 0 i) (number_own u s k b e 8 i) (number_own u s k b e 16 i)))

  performs_inactive : slice_index facility 2 ≡ 0 → Performs standard_module (GetNewDestination s k b e) u
  performs_inactive zero_is =
      performs_ending u s k b e 9 [] row is refl f (facility_inactive s k b e (Some s) (of_subscriber u s) facility found found_again zero_is)
      (no_destinations u s k b e (ap is_active g ∙ ap (λ v. v == 1) zero_is))

  performs_facility : Performs standard_module (GetNewDestination s k b e) u
  performs_facility =
      let there = row_at-has u.facilities (s ∷ k ∷ []) facility g in
      let fits : is_in_domain 42 (slice_index facility 2) ≡ true = are_in_domain-at 40 facility 2 (and_parts _ (are_in_domain 40 facility) (is.rows SpecialFacility facility there)).1 (omega (arith, row_length SpecialFacility u facility is there)) in
      ⊎_elim performs_inactive performs_active (active_values (slice_index facility 2) fits)

pub get_new_destination_performs : (u : Database) (s k b e : ℕ) → IsConsistent u → is_in_domain 48 b ≡ true → Performs standard_module (GetNewDestination s k b e) u
get_new_destination_performs u s k b e is d =
    elim (row_at u.subscribers (s ∷ [])) as (λ o. row_at u.subscribers (s ∷ []) ≡ o → Performs standard_module (GetNewDestination s k b e) u) [
      | None ↦ λ f. performs_without standard_module (GetNewDestination s k b e) u no_tables 7 1 [] refl (ap (option_map s_id_of) f) (destination_homeless s k b e)
          (ap (some_of u) (sym (no_destinations u s k b e (ap is_active (no_child u.subscribers u.facilities s (k ∷ []) is.parents.of_facilities f)))))
      | Some row ↦ λ f. elim (row_at u.facilities (s ∷ k ∷ [])) as (λ o. row_at u.facilities (s ∷ k ∷ []) ≡ o → Performs standard_module (GetNewDestination s k b e) u) [
        | None ↦ λ g. performs_ending u s k b e 7 [] row is refl f (facility_none s k b e (Some s) (of_subscriber u s) (row_at-own u.facilities s (k ∷ []) ∙ g)) (no_destinations u s k b e (ap is_active g))
        | Some facility ↦ λ g. performs_facility u s k b e row facility is d f g
      ] refl
    ] refl
