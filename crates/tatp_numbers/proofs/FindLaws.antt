-- What a find gives where rows that pass are counted.
use Rattle.std.specs.Prelude.{◌≡◌, ℕ, ◌+◌, ◌≤◌, Bool, true, false, cond, ◌||◌, List, [], ◌∷◌, Some, None, find, count_by}
use Rattle.std.specs.List.{list_any}
use Rattle.std.specs.Option.{option_map}
use Rattle.std.proofs.Common.{refl, sym, ap, subst, ◌∙◌, arith}
use Rattle.std.proofs.lemmas.Bool.{both_ways}
use Rattle.tatp_tables.specs.Tuples.{Tuple, same}
use Rattle.tatp_tables.specs.Keys.{has_key}
use Rattle.tatp_tables.specs.Clean.{count_of_key}
use Rattle.tatp_tables.proofs.TupleLaws.{same_is}
use Rattle.tatp_tables.proofs.FindLaws.{PassesOnce}
use Rattle.tatp_tables.proofs.KeyLaws.{first_is}
use Rattle.tatp_tables.proofs.CountLaws.{count_by-cons, none_counted}
use Rattle.tatp_numbers.specs.Homes.{s_id_of}

-- where none is counted, none is found
pub none_found : (p : Tuple → Bool) (xs : List Tuple) → count_by p xs ≡ 0 → find p xs ≡ None
none_found p [] e = refl
none_found p (x ∷ xs) e =
    elim (p x) as (λ b. cond b 1 0 + count_by p xs ≡ 0 → cond b (Some x) (find p xs) ≡ None) [
      | true ↦ λ k. absurd (omega arith)
      | false ↦ λ k. none_found p xs (omega arith)
    ] (sym (count_by-cons p x xs) ∙ e)

-- where none is found, none is counted
pub none_passes : (p : Tuple → Bool) (xs : List Tuple) → find p xs ≡ None → count_by p xs ≡ 0
none_passes p [] e = refl
none_passes p (x ∷ xs) e = count_by-cons p x xs ∙ elim (p x) as (λ b. cond b (Some x) (find p xs) ≡ None → cond b 1 0 + count_by p xs ≡ 0) [
  | true ↦ λ k. absurd (cc)
  | false ↦ λ k. omega (arith, none_passes p xs k)
] e

-- where one is found, one is counted
pub one_passes : (p : Tuple → Bool) (xs : List Tuple) (row : Tuple) → find p xs ≡ Some row → 1 ≤ count_by p xs
one_passes p [] row e = absurd (cc)
one_passes p (x ∷ xs) row e = subst (λ n. 1 ≤ n) (sym (count_by-cons p x xs)) (elim (p x) as (λ b. cond b (Some x) (find p xs) ≡ Some row → 1 ≤ cond b 1 0 + count_by p xs) [
  | true ↦ λ k. omega arith
  | false ↦ λ k. omega (arith, one_passes p xs row k)
] e)

-- of an s_id that is counted, a row with that s_id is found
pub s_id_found : (s : ℕ) (xs : List Tuple) → 1 ≤ count_of_key (s ∷ []) xs → option_map s_id_of (find (has_key (s ∷ [])) xs) ≡ Some s
s_id_found s [] h = absurd (omega arith)
s_id_found s (x ∷ xs) h =
    elim (has_key (s ∷ []) x) as (λ b. has_key (s ∷ []) x ≡ b → 1 ≤ cond b 1 0 + count_of_key (s ∷ []) xs → option_map s_id_of (cond b (Some x) (find (has_key (s ∷ [])) xs)) ≡ Some s) [
      | true ↦ λ e _. ap Some (first_is s x e)
      | false ↦ λ _ k. s_id_found s xs (omega arith)
    ] refl (subst (λ n. 1 ≤ n) (count_by-cons (has_key (s ∷ [])) x xs) h)

-- a row that passes, of a list of which at most one does, is the only one
only_first : (p : Tuple → Bool) (x : Tuple) (xs : List Tuple) (u : Tuple) → count_by p (x ∷ xs) ≤ 1 → p x ≡ true → list_any (same u) xs ≡ true → p u ≡ false
only_first p x xs u once px hu =
    let parts : cond (p x) 1 0 + count_by p xs ≤ 1 = subst (λ n. n ≤ 1) (count_by-cons p x xs) once in
    none_counted p xs u (at_least (p x) (count_by p xs) px parts) hu
  where
    at_least : (b : Bool) (n : ℕ) → b ≡ true → cond b 1 0 + n ≤ 1 → n ≡ 0
    at_least true n e h = omega arith
    at_least false n e h = absurd (cc)

-- where at most one is counted, no two pass
pub PassesOnce-counted : (p : Tuple → Bool) (xs : List Tuple) → count_by p xs ≤ 1 → PassesOnce p xs
PassesOnce-counted p [] once t u ht hu pt pu = cc
PassesOnce-counted p (x ∷ xs) once t u ht hu pt pu =
    elim (same t x) as (λ b. same t x ≡ b → (b || list_any (same t) xs) ≡ true → t ≡ u) [
      | true ↦ λ tx _. let first = same_is t x tx in elim (same u x) as (λ b. same u x ≡ b → (b || list_any (same u) xs) ≡ true → t ≡ u) [
        | true ↦ λ ux _. first ∙ sym (same_is u x ux)
        | false ↦ λ _ k. absurd (both_ways (p u) (only_first p x xs u once (ap p (sym first) ∙ pt) k) pu)
      ] refl hu
      | false ↦ λ _ h. elim (same u x) as (λ b. same u x ≡ b → (b || list_any (same u) xs) ≡ true → t ≡ u) [
        | true ↦ λ ux _. absurd (both_ways (p t) (only_first p x xs t once (ap p (sym (same_is u x ux)) ∙ pu) h) pt)
        | false ↦ λ _ k. PassesOnce-counted p xs (fewer (p x) (count_by p xs) (subst (λ n. n ≤ 1) (count_by-cons p x xs) once)) t u h k pt pu
      ] refl hu
    ] refl ht
  where
    fewer : (b : Bool) (n : ℕ) → cond b 1 0 + n ≤ 1 → n ≤ 1
    fewer true n h = omega arith
    fewer false n h = omega arith
