-- Updates of the location, one right before another: the other alone leaves the same.
use Rattle.std.proofs.Common.{◌≡◌, ℕ, ◌⊎◌, ◌↔◌, Bool, true, false, not, ◌||◌, ◌&&◌, is_some, ◌==◌, List, [], ◌∷◌, Option, Some, None, Ok, slice_index, refl, sym, ap, ◌∙◌, subst, arith, true≢false, inl, inr}
use Rattle.std.specs.Option.{option_map}
use Rattle.std.proofs.lemmas.List.{get_or-set_other, set-set}
use Rattle.tatp_tables.specs.Tuples.{Tuple, Tuples, same, has, replace_row, remove_row, rows_of}
use Rattle.tatp_tables.specs.Keys.{row_at, row_with_number, has_number}
use Rattle.tatp_tables.specs.Database.{Database}
use Rattle.tatp_tables.specs.declared.table.Table.TheVariants.{Subscriber}
use Rattle.tatp_tables.proofs.FindLaws.{found_in, found_passes}
use Rattle.tatp_tables.proofs.KeyLaws.{key_is, has-found}
use Rattle.tatp_tables.proofs.TupleLaws.{same_tuples, same_itself, same_is, has-insert_row, has-remove_row}
use Rattle.tatp_homes.specs.Home.{SubscriberRows, IsHome}
use Rattle.tatp_numbers.specs.declared.key.Key.TheVariants.{Id, Number}
use Rattle.tatp_numbers.specs.Homes.{s_id_of}
use Rattle.tatp_calls.specs.Arguments.{arguments_accepted}
use Rattle.tatp_calls.specs.declared.call.Call.{Call}
use Rattle.tatp_calls.specs.Transactions.{replies, transaction, updates_location, with_vlr_location}
use Rattle.tatp_procs.proofs.ConsistentLaws.{IsConsistent-home}
use Rattle.tatp_procs.proofs.ConsistentAfterLaws.{keys_after}
use Rattle.tatp_history.specs.declared.observed.Observed.{Observed}
use Rattle.tatp_linearization.specs.Overwritten.{SetsLocation, IsBlind}
use Rattle.tatp_linearization.proofs.KindLaws.{facilities_alike}

-- ---- one row
pub record IsOnly (r : Tuple) (rows : Tuples) : Type 0 where
  pub there : has rows r ≡ true
  pub only : (q : Tuple) → has rows q ≡ true → q ≡ r

either : (b c : Bool) → (b || c) ≡ true → (b ≡ true) ⊎ (c ≡ true)
either true c e = inl refl
either false c e = inr e

both : (b c : Bool) → (b && c) ≡ true → (b ≡ true) × (c ≡ true)
both true c e = (refl, e)
both false c e = absurd (true≢false (sym e))

neither : (b : Bool) → not b ≡ true → b ≡ false
neither true e = absurd (true≢false (sym e))
neither false e = refl

pub only_same : (r : Tuple) (rows others : Tuples) → IsOnly r rows → IsOnly r others → rows ≡ others
only_same r rows others p o = same_tuples rows others (λ q. one q)
  where
    alike : (b c : Bool) → (b ≡ true → c ≡ true) → (c ≡ true → b ≡ true) → b ≡ c
    alike true c f g = sym (f refl)
    alike false true f g = g refl
    alike false false f g = refl

    one : (q : Tuple) → has rows q ≡ has others q
    one q = alike (has rows q) (has others q) (λ h. subst (λ t. has others t ≡ true) (sym (p.only q h)) o.there) (λ h. subst (λ t. has rows t ≡ true) (sym (o.only q h)) p.there)

pub only_replaced : (r new : Tuple) (rows : Tuples) → IsOnly r rows → IsOnly new (replace_row rows r new)
only_replaced r new rows p = record {
  there = has-insert_row (remove_row rows r) new new ∙ ap (λ b. b || has (remove_row rows r) new) (same_itself new);
  only = λ q h. elim (either (same q new) (has (remove_row rows r) q) (sym (has-insert_row (remove_row rows r) new q) ∙ h)) [
    | inl e ↦ same_is q new e
    | inr e ↦
        let parts = both (not (same q r)) (has rows q) (sym (has-remove_row rows r q) ∙ e) in
        let is : q ≡ r = p.only q parts.1 in
        absurd (true≢false (sym (subst (λ t. same q t ≡ true) is (same_itself q)) ∙ neither (same q r) parts.0))
  ];
}

pub only_home : (home : SubscriberRows) (r : Tuple) → IsHome home → has home.tables.subscribers r ≡ true → IsOnly r home.tables.subscribers
only_home home r is there = record {
  there = there;
  only = λ q h. let key : List ℕ = home.s_id ∷ [] in is.keys Subscriber q r h there (key_is key q (is.own Subscriber q h) ∙ sym (key_is key r (is.own Subscriber r there)));
}

-- ---- numbers
pub named_row : (rows : Tuples) (n : ℕ) → is_some (row_with_number rows n) ≡ true → (r : Tuple) × (row_with_number rows n ≡ Some r)
named_row rows n named = elim (row_with_number rows n) as (λ o. is_some o ≡ true → (r : Tuple) × (o ≡ Some r)) [
  | None ↦ λ e. absurd (true≢false (sym e))
  | Some r ↦ λ e. (r, refl)
] named

pub found_only : (r : Tuple) (rows : Tuples) (n : ℕ) → IsOnly r rows → has_number n r ≡ true → row_with_number rows n ≡ Some r
found_only r rows n p passes = found_in (has_number n) rows r p.there passes (λ q h k. p.only q h)

-- a number names the row, or none
pub number_of : (r : Tuple) (rows : Tuples) (n : ℕ) → IsOnly r rows → is_some (row_with_number rows n) ≡ true → has_number n r ≡ true
number_of r rows n p named =
    let found = named_row rows n named in
    subst (λ q. has_number n q ≡ true) (p.only found.0 (has-found (has_number n) rows found.0 found.1)) (found_passes (has_number n) (rows_of rows) found.0 found.1)

-- ---- one update
module _ (u : Database) (r : Tuple) (p : IsOnly r u.subscribers) where
  abbrev pub at : ℕ → Database
  at v = record u { subscribers = replace_row u.subscribers r (with_vlr_location r v) }

  pub set_row : (call : Call) (s : SetsLocation u call) → transaction call u ≡ replies (at s.location) []
  set_row call s =
      let passes = number_of r u.subscribers s.number p s.named in
      ap (λ (k : Call). transaction k u) s.updates ∙ ap (updates_location u s.location) (found_only r u.subscribers s.number p passes)

  -- another one then sets it as it would have done before
  pub set_again : (v : ℕ) (call : Call) → SetsLocation u call → SetsLocation (at v) call × (transaction call (at v) ≡ transaction call u)
  set_again v call s =
      let new : Tuple = with_vlr_location r v in
      let passes = number_of r u.subscribers s.number p s.named in
      let column : slice_index new 1 ≡ slice_index r 1 = get_or-set_other r 33 1 v 0 (λ d. omega (arith, d)) in
      let passes' : has_number s.number new ≡ true = ap (λ (k : ℕ). k == s.number) column ∙ passes in
      let one = only_replaced r new u.subscribers p in
      let found : row_with_number (at v).subscribers s.number ≡ Some new = found_only new (at v).subscribers s.number one passes' in
      let last : Tuple = with_vlr_location r s.location in
      let twice : with_vlr_location new s.location ≡ last = set-set r 33 v s.location in
      let rows : replace_row (at v).subscribers new (with_vlr_location new s.location) ≡ replace_row u.subscribers r last
      = only_same last (replace_row (at v).subscribers new (with_vlr_location new s.location)) (replace_row u.subscribers r last)
      (subst (λ q. IsOnly q (replace_row (at v).subscribers new (with_vlr_location new s.location))) twice (only_replaced new (with_vlr_location new s.location) (at v).subscribers one))
      (only_replaced r last u.subscribers p) in
      let after : transaction call (at v) ≡ replies (record u { subscribers = replace_row (at v).subscribers new (with_vlr_location new s.location) }) []
      = ap (λ (k : Call). transaction k (at v)) s.updates ∙ ap (updates_location (at v) s.location) found in (
        record { number = s.number; location = s.location; updates = s.updates; named = ap is_some found },
        after ∙ (ap (λ q. replies (record u { subscribers = q }) []) rows ∙ sym (set_row call s)),
      )

-- ---- a subscriber stays there
some_mapped : (o : Option Tuple) → is_some (option_map s_id_of o) ≡ is_some o
some_mapped None = refl
some_mapped (Some row) = refl

pub named_after : (home : SubscriberRows) (call : Call) (n : ℕ) → IsHome home → arguments_accepted call ≡ Ok tt → is_some (row_with_number (transaction call home.tables).database.subscribers n) ≡ is_some (row_with_number home.tables.subscribers n)
named_after home call n is accepted =
    let after = keys_after call home.tables (Number n) (IsConsistent-home home is) accepted in
    sym (some_mapped (row_with_number (transaction call home.tables).database.subscribers n)) ∙ (ap is_some after ∙ some_mapped (row_with_number home.tables.subscribers n))

id_after : (home : SubscriberRows) (call : Call) (n : ℕ) → IsHome home → arguments_accepted call ≡ Ok tt → is_some (row_at (transaction call home.tables).database.subscribers (n ∷ [])) ≡ is_some (row_at home.tables.subscribers (n ∷ []))
id_after home call n is accepted =
    let after = keys_after call home.tables (Id n) (IsConsistent-home home is) accepted in
    sym (some_mapped (row_at (transaction call home.tables).database.subscribers (n ∷ []))) ∙ (ap is_some after ∙ some_mapped (row_at home.tables.subscribers (n ∷ [])))

pub blind_after : (home : SubscriberRows) (call : Call) → IsHome home → arguments_accepted call ≡ Ok tt → (x : Observed) → IsBlind home.tables x ↔ IsBlind (transaction call home.tables).database x
blind_after home call is accepted x =
    let alike = facilities_alike call home.tables (IsConsistent-home home is) accepted in (
      λ b. record {
        sets = elim b.sets [
          | inl l ↦ inl (record { number = l.number; location = l.location; updates = l.updates; named = named_after home call l.number is accepted ∙ l.named })
          | inr d ↦ inr (record {
            s_id = d.s_id;
            bit = d.bit;
            sf_type = d.sf_type;
            value = d.value;
            updates = d.updates;
            subscriber = id_after home call d.s_id is accepted ∙ d.subscriber;
            facility = (alike d.s_id d.sf_type).0 ∙ d.facility;
          })
        ];
        may = b.may;
      },
      λ b. record {
        sets = elim b.sets [
          | inl l ↦ inl (record { number = l.number; location = l.location; updates = l.updates; named = sym (named_after home call l.number is accepted) ∙ l.named })
          | inr d ↦ inr (record {
            s_id = d.s_id;
            bit = d.bit;
            sf_type = d.sf_type;
            value = d.value;
            updates = d.updates;
            subscriber = sym (id_after home call d.s_id is accepted) ∙ d.subscriber;
            facility = sym (alike d.s_id d.sf_type).0 ∙ d.facility;
          })
        ];
        may = b.may;
      },
    )
