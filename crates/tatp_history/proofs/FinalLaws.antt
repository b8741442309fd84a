-- Histories with the rows at the end.
use Rattle.std.proofs.Common.{◌≡◌, ℕ, Bool, true, false, ◌&&◌, List, [], ◌∷◌, refl, sym, ◌∙◌, ap, eq-eqb, true≢false}
use Rattle.tatp_tables.specs.Tuples.{Tuple, Tuples, has}
use Rattle.tatp_tables.specs.Domains.{is_row}
use Rattle.tatp_tables.specs.Database.{Database, rows_with_s_id, of_subscriber}
use Rattle.tatp_tables.specs.declared.table.Table.{Table}
use Rattle.tatp_tables.specs.declared.table.Table.TheVariants.{Subscriber, AccessInfo, SpecialFacility, CallForwarding}
use Rattle.tatp_tables.proofs.TupleLaws.{same_tuples}
use Rattle.tatp_homes.specs.Home.{AreRows}
use Rattle.tatp_homes.proofs.SubscriberLaws.{has-rows_with_s_id}
use Rattle.tatp_calls.specs.Transactions.{transaction}
use Rattle.tatp_procs.specs.Consistent.{IsConsistent}
use Rattle.tatp_procs.proofs.ConsistentAfterLaws.{consistent_after}
use Rattle.tatp_history.specs.declared.observed.Observed.{Observed}
use Rattle.tatp_history.specs.Histories.{rows_after, IsStrictlySerializableTo}
use Rattle.tatp_history.specs.Locality.{AreAccepted, AreCalls, calls_on, IsSerializableAtEach, IsSerializableToEach}
use Rattle.tatp_history.proofs.RunLaws.{rows_at_each}
use Rattle.tatp_history.proofs.LocalityLaws.{all_accepted, part, parted, combined, combined_orders}

-- ---- databases with the same rows of each subscriber
no_empty_row : (t : Table) → is_row t [] ≡ true → ⊥
no_empty_row Subscriber h = true≢false (sym h)
no_empty_row AccessInfo h = true≢false (sym h)
no_empty_row SpecialFacility h = true≢false (sym h)
no_empty_row CallForwarding h = true≢false (sym h)

has_none : (t : Table) (v : Tuples) → ((row : Tuple) → has v row ≡ true → is_row t row ≡ true) → has v [] ≡ false
has_none t v rows = elim (has v []) as (λ b. has v [] ≡ b → b ≡ false) [
  | true ↦ λ e. absurd (no_empty_row t (rows [] e))
  | false ↦ λ e. refl
] refl

own_row : (v : Tuples) (x : ℕ) (xs : Tuple) → has (rows_with_s_id x v) (x ∷ xs) ≡ has v (x ∷ xs)
own_row v x xs = has-rows_with_s_id x v (x ∷ xs) ∙ ap (λ b. has v (x ∷ xs) && (b && true)) (eq-eqb x x refl) ∙ and_true (has v (x ∷ xs))
  where
    and_true : (b : Bool) → (b && true) ≡ b
    and_true true = refl
    and_true false = refl

same_table : (t : Table) (v w : Tuples) → ((row : Tuple) → has v row ≡ true → is_row t row ≡ true) → ((row : Tuple) → has w row ≡ true → is_row t row ≡ true) → ((s : ℕ) → rows_with_s_id s v ≡ rows_with_s_id s w) → v ≡ w
same_table t v w rows rows' same = same_tuples v w each
  where
    each : (q : Tuple) → has v q ≡ has w q
    each [] = has_none t v rows ∙ sym (has_none t w rows')
    each (x ∷ xs) = sym (own_row v x xs) ∙ ap (λ (y : Tuples). has y (x ∷ xs)) (same x) ∙ own_row w x xs

pub same_databases : (a b : Database) → AreRows a → AreRows b → ((s : ℕ) → of_subscriber a s ≡ of_subscriber b s) → a ≡ b
same_databases a b rows rows' same = λ i. record {
  subscribers = same_table Subscriber a.subscribers b.subscribers (rows Subscriber) (rows' Subscriber) (λ s. ap (λ (v : Database). v.subscribers) (same s)) i;
  accesses = same_table AccessInfo a.accesses b.accesses (rows AccessInfo) (rows' AccessInfo) (λ s. ap (λ (v : Database). v.accesses) (same s)) i;
  facilities = same_table SpecialFacility a.facilities b.facilities (rows SpecialFacility) (rows' SpecialFacility) (λ s. ap (λ (v : Database). v.facilities) (same s)) i;
  forwardings = same_table CallForwarding a.forwardings b.forwardings (rows CallForwarding) (rows' CallForwarding) (λ s. ap (λ (v : Database). v.forwardings) (same s)) i;
}

-- ---- orders that leave the rows at the end
rows_consistent : (xs : List Observed) (u : Database) → IsConsistent u → AreAccepted xs → IsConsistent (rows_after u xs)
rows_consistent [] u is accepted = is
rows_consistent (x ∷ xs) u is accepted = rows_consistent xs (transaction x.call u).database (consistent_after x.call u is accepted.0) accepted.1

module _ (u : Database) (calls : List Observed) (after : Database) (is : IsConsistent u) (are : AreCalls calls) where
  pub combined_to : IsConsistent after → IsSerializableToEach u calls after → IsStrictlySerializableTo u calls after
  combined_to is_after at =
      let each : IsSerializableAtEach u calls = record { each = λ s. ((at.each s).0, (at.each s).1); none = at.none } in
      let whole = combined u calls is are each in
      let accepted : AreAccepted whole.0 = all_accepted u calls is are whole.0 whole.1.made in (
        whole.0,
        whole.1,
        same_databases (rows_after u whole.0) after (rows_consistent whole.0 u is accepted).rows is_after.rows
            (λ s. rows_at_each u whole.0 u is (λ key. refl) accepted s ∙ (ap (rows_after (of_subscriber u s)) (combined_orders u calls is are each s) ∙ (at.each s).2)),
      )

  pub parted_to : IsStrictlySerializableTo u calls after → IsSerializableToEach u calls after
  parted_to whole = record {
    each = λ s. (
      calls_on u s whole.0,
      part u calls is are whole.0 whole.1 s,
      sym (rows_at_each u whole.0 u is (λ key. refl) (all_accepted u calls is are whole.0 whole.1.made) s) ∙ ap (λ (v : Database). of_subscriber v s) whole.2,
    );
    none = (parted u calls is are (whole.0, whole.1)).none;
  }
