-- The rows of a home with data_a of its first facility set to 0.
use Rattle.std.proofs.Common.{◌≡◌, ℕ, suc, zero, ◌≤◌, Bool, ◌&&◌, ◌==◌, true, false, cond, nat_le, is_some, List, [], ◌∷◌, Option, Some, None, find, slice_index, refl, sym, ◌∙◌, ap, subst, arith}
use Rattle.std.specs.List.{AllByRecursion}
use Rattle.std.proofs.lemmas.Bool.{both_ways, and_parts, leb-true}
use Rattle.std.proofs.lemmas.Option.{none-some, same_Some}
use Rattle.std.proofs.lemmas.List.{set-set, take-set-le}
use Rattle.tatp_tables.specs.Tuples.{Tuple, Tuples, has, remove_row, replace_row}
use Rattle.tatp_tables.specs.Keys.{has_key, row_at}
use Rattle.tatp_tables.specs.Domains.{is_in_domain}
use Rattle.tatp_tables.specs.declared.table.Table.TheVariants.{SpecialFacility}
use Rattle.tatp_tables.proofs.KeyLaws.{UniqueIn-replace_row, heads_equal, key_is, key_heads, has_key-alike, has_key-head, row_at-has, row_at-key, each-insert_row, has-from_remove_row}
use Rattle.tatp_homes.specs.Home.{SubscriberRows, IsHome}
use Rattle.tatp_homes.specs.Changes.{put_rows}
use Rattle.tatp_homes.proofs.UndoLaws.{is_row-at}
use Rattle.tatp_history.specs.Cleared.{first_type, without_data_a, with_facilities, AreCleared, IsCleared, cleared_at, cleared_rows}
use Rattle.tatp_history.proofs.ReplacedLaws.{found_new}
use Rattle.tatp_history.proofs.ClearedLaws.{some_is, type_passes, AreAlike, there_alike, set_alike}

-- ---- types
none_passes : (p : ℕ → Bool) (types : List ℕ) → find p types ≡ None → AllByRecursion (λ t. p t ≡ false) types
none_passes p [] e = tt
none_passes p (x ∷ xs) e = elim (p x) as (λ b. p x ≡ b → cond b (Some x) (find p xs) ≡ None → (p x ≡ false) × AllByRecursion (λ t. p t ≡ false) xs) [
  | true ↦ λ px f. absurd (none-some x (sym f))
  | false ↦ λ px f. (px, none_passes p xs f)
] refl e

-- what holds of each type
of_types : (P : ℕ → Type 0) → P 1 → P 2 → P 3 → P 4 → (t : ℕ) → 1 ≤ t → t ≤ 4 → P t
of_types P a b c d zero low high = absurd (omega (arith, low))
of_types P a b c d (suc zero) low high = a
of_types P a b c d (suc (suc zero)) low high = b
of_types P a b c d (suc (suc (suc zero))) low high = c
of_types P a b c d (suc (suc (suc (suc zero)))) low high = d
of_types P a b c d (suc (suc (suc (suc (suc n))))) low high = absurd (omega (arith, high))

type_found : (p : ℕ → Bool) (t : ℕ) → 1 ≤ t → t ≤ 4 → p t ≡ true → is_some (find p (1 ∷ 2 ∷ 3 ∷ 4 ∷ [])) ≡ true
type_found p t low high passes = elim (find p (1 ∷ 2 ∷ 3 ∷ 4 ∷ [])) as (λ o. find p (1 ∷ 2 ∷ 3 ∷ 4 ∷ []) ≡ o → is_some o ≡ true) [
  | None ↦ λ e. let none = none_passes p (1 ∷ 2 ∷ 3 ∷ 4 ∷ []) e in
      absurd (of_types (λ k. p k ≡ true → ⊥) (both_ways (p 1) none.0) (both_ways (p 2) none.1.0) (both_ways (p 3) none.1.1.0) (both_ways (p 4) none.1.1.1.0) t low high passes)
  | Some k ↦ λ e. refl
] refl

type_domain : (v : ℕ) → is_in_domain 41 v ≡ true → (1 ≤ v) × (v ≤ 4)
unfolding is_in_domain
type_domain v h = let both = and_parts (nat_le 1 v) (nat_le v 4) h in (leb-true 1 v both.0, leb-true v 4 both.1)

data_a_domain : is_in_domain 44 0 ≡ true
unfolding is_in_domain
data_a_domain = refl

second_is : (s t : ℕ) (row : Tuple) → has_key (s ∷ t ∷ []) row ≡ true → slice_index row 1 ≡ t
second_is s t [] h = cc
second_is s t (x ∷ []) h = absurd (both_ways ((x == s) && false) (none_with (x == s)) h)
  where
    none_with : (b : Bool) → (b && false) ≡ false
    none_with true = refl
    none_with false = refl
second_is s t (x ∷ y ∷ more) h = heads_equal y t true (and_parts (x == s) ((y == t) && true) h).1

-- ---- the rows
module _ (home : SubscriberRows) (is : IsHome home) where
  type_fits : (a t : ℕ) (row : Tuple) → row_at home.tables.facilities (a ∷ t ∷ []) ≡ Some row → (1 ≤ t) × (t ≤ 4)
  type_fits a t row e =
      let there = row_at-has home.tables.facilities (a ∷ t ∷ []) row e in
      let fits : is_in_domain 41 (slice_index row 1) ≡ true = is_row-at SpecialFacility row 1 (is.rows SpecialFacility row there) (omega arith) in
      type_domain t (subst (λ v. is_in_domain 41 v ≡ true) (second_is a t row (row_at-key home.tables.facilities (a ∷ t ∷ []) row e)) fits)

  -- a facility that is there has a type that is found
  types_found : (others : Tuples) → AreAlike home.tables.facilities others → (a t : ℕ) → is_some (row_at others (a ∷ t ∷ [])) ≡ true → is_some (first_type others a) ≡ true
  types_found others alike a t e =
      let own = some_is (row_at home.tables.facilities (a ∷ t ∷ [])) (sym (there_alike home.tables.facilities others alike a t) ∙ e) in
      let fits = type_fits a t own.0 own.1 in
      type_found (λ k. is_some (row_at others (a ∷ k ∷ []))) t fits.0 fits.1 e

  first_alike : (others : Tuples) → AreAlike home.tables.facilities others → (a : ℕ) → first_type others a ≡ first_type home.tables.facilities a
  first_alike others alike a i = find (λ t. there_alike home.tables.facilities others alike a t i) (1 ∷ 2 ∷ 3 ∷ 4 ∷ [])

  -- a row with the key of a subscriber is of the home's
  own_s_id : (a t : ℕ) (row : Tuple) → has_key (home.s_id ∷ []) row ≡ true → has_key (a ∷ t ∷ []) row ≡ true → a ≡ home.s_id
  own_s_id a t row own keyed = key_heads a home.s_id row (has_key-head a (t ∷ []) row keyed) own

  none_cleared : first_type home.tables.facilities home.s_id ≡ None → AreCleared home.tables.facilities home.tables.facilities
  none_cleared none = record {
    keys = is.keys SpecialFacility;
    other_keys = is.keys SpecialFacility;
    alike = λ a t. refl;
    types = types_found home.tables.facilities (λ a t. refl);
    first = λ a t row e f.
        let own = is.own SpecialFacility row (row_at-has home.tables.facilities (a ∷ t ∷ []) row f) in
        let same : a ≡ home.s_id = own_s_id a t row own (row_at-key home.tables.facilities (a ∷ t ∷ []) row f) in
        absurd (none-some t (sym none ∙ (ap (first_type home.tables.facilities) (sym same) ∙ e)));
  }

  module _ (t : ℕ) (found : first_type home.tables.facilities home.s_id ≡ Some t) (facility : Tuple) (held : row_at home.tables.facilities (home.s_id ∷ t ∷ []) ≡ Some facility) where
    is_in : has home.tables.facilities facility ≡ true
    is_in = row_at-has home.tables.facilities (home.s_id ∷ t ∷ []) facility held

    alike : AreAlike home.tables.facilities (replace_row home.tables.facilities facility (without_data_a facility))
    alike = set_alike home.tables.facilities facility 0 is_in (is.keys SpecialFacility)

    own_rows : (row : Tuple) → has (replace_row home.tables.facilities facility (without_data_a facility)) row ≡ true → has_key (home.s_id ∷ []) row ≡ true
    own_rows = each-insert_row (λ q. has_key (home.s_id ∷ []) q ≡ true) (remove_row home.tables.facilities facility) (without_data_a facility)
        (has_key-alike 1 (home.s_id ∷ []) facility (without_data_a facility) (omega arith) (take-set-le 1 facility 4 0 (omega arith)) ∙ is.own SpecialFacility facility is_in)
        (λ q h. is.own SpecialFacility q (has-from_remove_row home.tables.facilities facility q h))

    new_found : row_at (replace_row home.tables.facilities facility (without_data_a facility)) (home.s_id ∷ t ∷ []) ≡ Some (without_data_a facility)
    new_found = found_new (has_key (home.s_id ∷ t ∷ [])) home.tables.facilities facility (without_data_a facility) is_in
        (has_key-alike 2 (home.s_id ∷ t ∷ []) facility (without_data_a facility) (omega arith) (take-set-le 2 facility 4 0 (omega arith)))
        (λ a b ha hb pa pb. is.keys SpecialFacility a b ha hb (key_is (home.s_id ∷ t ∷ []) a pa ∙ sym (key_is (home.s_id ∷ t ∷ []) b pb)))
        (row_at-key home.tables.facilities (home.s_id ∷ t ∷ []) facility held)

    one_cleared : AreCleared home.tables.facilities (replace_row home.tables.facilities facility (without_data_a facility))
    one_cleared =
        let others = replace_row home.tables.facilities facility (without_data_a facility) in
        record {
          keys = is.keys SpecialFacility;
          other_keys = UniqueIn-replace_row 2 home.tables.facilities facility (without_data_a facility) is_in (take-set-le 2 facility 4 0 (omega arith)) (is.keys SpecialFacility);
          alike = alike;
          types = types_found others alike;
          first = λ a k row e f.
              let same : a ≡ home.s_id = own_s_id a k row (own_rows row (row_at-has others (a ∷ k ∷ []) row f)) (row_at-key others (a ∷ k ∷ []) row f) in
              let kind : k ≡ t = same_Some k t (sym e ∙ (first_alike others alike a ∙ (ap (first_type home.tables.facilities) same ∙ found))) in
              let moved : row_at others (a ∷ k ∷ []) ≡ row_at others (home.s_id ∷ t ∷ []) = λ i. row_at others (same i ∷ kind i ∷ []) in
              let is_new : row ≡ without_data_a facility = same_Some row (without_data_a facility) (sym f ∙ (moved ∙ new_found)) in
              ap without_data_a is_new ∙ (set-set facility 4 0 0 ∙ sym is_new);
        }

    put_is : cleared_at home.tables home.s_id (Some t) ≡ with_facilities home.tables (replace_row home.tables.facilities facility (without_data_a facility))
    put_is =
        ap (λ fits. with_facilities home.tables (put_rows 4 fits 0 home.tables.facilities (row_at home.tables.facilities (home.s_id ∷ t ∷ [])))) data_a_domain
        ∙ ap (λ o. with_facilities home.tables (put_rows 4 true 0 home.tables.facilities o)) held

  at_cleared : (first : Option ℕ) → first_type home.tables.facilities home.s_id ≡ first → IsCleared home.tables (cleared_at home.tables home.s_id first)
  at_cleared None e = record { rows = refl; facilities = none_cleared e }
  at_cleared (Some t) e =
      let held = some_is (row_at home.tables.facilities (home.s_id ∷ t ∷ [])) (type_passes (λ k. is_some (row_at home.tables.facilities (home.s_id ∷ k ∷ []))) (1 ∷ 2 ∷ 3 ∷ 4 ∷ []) t e) in
      subst (IsCleared home.tables) (sym (put_is t e held.0 held.1)) (record { rows = refl; facilities = one_cleared t e held.0 held.1 })

  pub home_cleared : IsCleared home.tables (cleared_rows home.tables home.s_id)
  home_cleared = at_cleared (first_type home.tables.facilities home.s_id) refl
