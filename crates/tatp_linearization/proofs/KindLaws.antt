-- Calls of different kinds commute.
use Rattle.std.proofs.Common.{◌≡◌, ℕ, ◌⊎◌, Bool, ◌&&◌, nat_le, nat_lt, is_some, List, [], ◌∷◌, Option, Some, None, Ok, map, filter, drop, refl, sym, ◌∙◌, ap, subst, true≢false, inl, inr}
use Rattle.tatp_tables.specs.Tuples.{Tuple, Tuples, rows_of, insert_row, remove_row}
use Rattle.tatp_tables.specs.Keys.{has_key, row_at, row_with_number}
use Rattle.tatp_tables.specs.Database.{Database}
use Rattle.tatp_numbers.specs.declared.key.Key.TheVariants.{Number}
use Rattle.tatp_numbers.specs.Homes.{home_of_key}
use Rattle.tatp_calls.specs.declared.call.Call.{Call}
use Rattle.tatp_calls.specs.declared.call.Call.TheVariants.{GetSubscriberData, GetNewDestination, GetAccessData, UpdateSubscriberData, UpdateLocation, InsertCallForwarding, DeleteCallForwarding}
use Rattle.tatp_calls.specs.Arguments.{arguments_accepted}
use Rattle.tatp_procs.specs.Consistent.{IsConsistent}
use Rattle.tatp_calls.specs.Transactions.{Answer, transaction, reads, start_time_of, end_time_of, numberx_of, destinations, some_of, updates_both, updates_location, inserts_under, inserts_for, deletes, deletes_for}
use Rattle.tatp_procs.proofs.ConsistentAfterLaws.{keys_after}
use Rattle.tatp_history.proofs.ChangeLaws.{reading_leaves}
use Rattle.tatp_linearization.specs.declared.kinds.Kind.{Kind}
use Rattle.tatp_linearization.specs.declared.kinds.Kind.TheVariants.{Columns, Accesses, Forwardings}
use Rattle.tatp_linearization.specs.Kinds.{kind_of}
use Rattle.tatp_linearization.proofs.FacilityLaws.{AreAlikeFacilities, alike_after}

-- ---- calls that commute
pub record Commute (u : Database) (a b : Call) : Type 0 where
  pub first : (transaction a (transaction b u).database).reply ≡ (transaction a u).reply
  pub second : (transaction b (transaction a u).database).reply ≡ (transaction b u).reply
  pub rows : (transaction a (transaction b u).database).database ≡ (transaction b (transaction a u).database).database

commute_back : (u : Database) (a b : Call) → Commute u a b → Commute u b a
commute_back u a b h = record { first = h.second; second = h.first; rows = sym h.rows }

-- ---- forwardings
-- databases in which calls on forwardings do the same
record IsAlike (u v : Database) : Type 0 where
  pub homes : (n : ℕ) → home_of_key v.subscribers (Number n) ≡ home_of_key u.subscribers (Number n)
  pub facilities : AreAlikeFacilities u.facilities v.facilities
  pub forwardings : v.forwardings ≡ u.forwardings

itself : (u : Database) → IsAlike u u
itself u = record { homes = λ n. refl; facilities = λ s t. (refl, refl); forwardings = refl }

abbrev DoSame : Database → Answer → Answer → Type 0
DoSame v own other = (other.reply ≡ own.reply) × (other.database ≡ record v { forwardings = own.database.forwardings })

destined_alike : (u v : Database) (forwardings : v.forwardings ≡ u.forwardings) (found : List ℕ) → DoSame v (some_of u found) (some_of v found)
destined_alike u v forwardings [] = (refl, λ i. record v { forwardings = forwardings i })
destined_alike u v forwardings (n ∷ more) = (refl, λ i. record v { forwardings = forwardings i })

inserts_alike : (u v : Database) (row : Tuple) (own other there : Option Tuple) → v.forwardings ≡ u.forwardings → is_some other ≡ is_some own → DoSame v (inserts_under u row own there) (inserts_under v row other there)
inserts_alike u v row None None there forwardings e = (refl, λ i. record v { forwardings = forwardings i })
inserts_alike u v row None (Some q) there forwardings e = absurd (true≢false e)
inserts_alike u v row (Some p) None there forwardings e = absurd (true≢false (sym e))
inserts_alike u v row (Some p) (Some q) (Some r) forwardings e = (refl, λ i. record v { forwardings = forwardings i })
inserts_alike u v row (Some p) (Some q) None forwardings e = (refl, λ i. record v { forwardings = insert_row (forwardings i) row })

inserts_for_alike : (u v : Database) (t b e x : ℕ) (s : Option ℕ) → IsAlike u v → DoSame v (inserts_for u t b e x s) (inserts_for v t b e x s)
inserts_for_alike u v t b e x None alike = (refl, λ i. record v { forwardings = alike.forwardings i })
inserts_for_alike u v t b e x (Some s) alike =
    subst (λ there. DoSame v (inserts_for u t b e x (Some s)) (inserts_under v (s ∷ t ∷ b ∷ e ∷ x ∷ []) (row_at v.facilities (s ∷ t ∷ [])) there)) (ap (λ fs. row_at fs (s ∷ t ∷ b ∷ [])) (sym alike.forwardings))
    (inserts_alike u v (s ∷ t ∷ b ∷ e ∷ x ∷ []) (row_at u.facilities (s ∷ t ∷ [])) (row_at v.facilities (s ∷ t ∷ [])) (row_at u.forwardings (s ∷ t ∷ b ∷ [])) alike.forwardings (alike.facilities s t).0)

deletes_alike : (u v : Database) (there : Option Tuple) → v.forwardings ≡ u.forwardings → DoSame v (deletes u there) (deletes v there)
deletes_alike u v None forwardings = (refl, λ i. record v { forwardings = forwardings i })
deletes_alike u v (Some row) forwardings = (refl, λ i. record v { forwardings = remove_row (forwardings i) row })

deletes_for_alike : (u v : Database) (t b : ℕ) (s : Option ℕ) → IsAlike u v → DoSame v (deletes_for u t b s) (deletes_for v t b s)
deletes_for_alike u v t b None alike = (refl, λ i. record v { forwardings = alike.forwardings i })
deletes_for_alike u v t b (Some s) alike =
    subst (λ there. DoSame v (deletes_for u t b (Some s)) (deletes v there)) (ap (λ fs. row_at fs (s ∷ t ∷ b ∷ [])) (sym alike.forwardings)) (deletes_alike u v (row_at u.forwardings (s ∷ t ∷ b ∷ [])) alike.forwardings)

abbrev destined : ℕ → ℕ → ℕ → ℕ → Bool → Tuples → List ℕ
destined s t b e active forwardings = map numberx_of (filter (λ cf. has_key (s ∷ t ∷ []) cf && (active && (nat_le (start_time_of cf) b && nat_lt e (end_time_of cf)))) (rows_of forwardings))

forwardings_alike : (call : Call) (u v : Database) → kind_of call ≡ Forwardings → IsAlike u v → DoSame v (transaction call u) (transaction call v)
forwardings_alike (GetSubscriberData s) u v kind alike = absurd cc
forwardings_alike (GetNewDestination s t b e) u v kind alike =
    let same : destinations u s t b e ≡ destinations v s t b e = λ i. destined s t b e (sym (alike.facilities s t).1 i) (sym alike.forwardings i) in
    subst (λ found. DoSame v (some_of u (destinations u s t b e)) (some_of v found)) same (destined_alike u v alike.forwardings (destinations u s t b e))
forwardings_alike (GetAccessData s t) u v kind alike = absurd cc
forwardings_alike (UpdateSubscriberData s x t y) u v kind alike = absurd cc
forwardings_alike (UpdateLocation n w) u v kind alike = absurd cc
forwardings_alike (InsertCallForwarding n t b e x) u v kind alike =
    subst (λ s. DoSame v (transaction (InsertCallForwarding n t b e x) u) (inserts_for v t b e x s)) (sym (alike.homes n)) (inserts_for_alike u v t b e x (home_of_key u.subscribers (Number n)) alike)
forwardings_alike (DeleteCallForwarding n t b) u v kind alike =
    subst (λ s. DoSame v (transaction (DeleteCallForwarding n t b) u) (deletes_for v t b s)) (sym (alike.homes n)) (deletes_for_alike u v t b (home_of_key u.subscribers (Number n)) alike)

-- ---- columns
-- with other forwardings a call on columns does the same, and they stay
abbrev with_forwardings : Answer → Tuples → Answer
with_forwardings a forwardings = record { reply = a.reply; database = record a.database { forwardings = forwardings } }

reads_beside : (u : Database) (forwardings : Tuples) (columns : Tuple → List ℕ) (row : Option Tuple) → reads (record u { forwardings = forwardings }) columns row ≡ with_forwardings (reads u columns row) forwardings
reads_beside u forwardings columns None = refl
reads_beside u forwardings columns (Some row) = refl

both_beside : (u : Database) (forwardings : Tuples) (x y : ℕ) (row facility : Option Tuple) → updates_both (record u { forwardings = forwardings }) x y row facility ≡ with_forwardings (updates_both u x y row facility) forwardings
both_beside u forwardings x y None facility = refl
both_beside u forwardings x y (Some row) None = refl
both_beside u forwardings x y (Some row) (Some facility) = refl

location_beside : (u : Database) (forwardings : Tuples) (v : ℕ) (row : Option Tuple) → updates_location (record u { forwardings = forwardings }) v row ≡ with_forwardings (updates_location u v row) forwardings
location_beside u forwardings v None = refl
location_beside u forwardings v (Some row) = refl

columns_beside : (call : Call) (u : Database) (forwardings : Tuples) → kind_of call ≡ Columns → transaction call (record u { forwardings = forwardings }) ≡ with_forwardings (transaction call u) forwardings
columns_beside (GetSubscriberData s) u forwardings kind = reads_beside u forwardings (λ row. row) (row_at u.subscribers (s ∷ []))
columns_beside (GetNewDestination s t b e) u forwardings kind = absurd cc
columns_beside (GetAccessData s t) u forwardings kind = absurd cc
columns_beside (UpdateSubscriberData s x t y) u forwardings kind = both_beside u forwardings x y (row_at u.subscribers (s ∷ [])) (row_at u.facilities (s ∷ t ∷ []))
columns_beside (UpdateLocation n v) u forwardings kind = location_beside u forwardings v (row_with_number u.subscribers n)
columns_beside (InsertCallForwarding n t b e x) u forwardings kind = absurd cc
columns_beside (DeleteCallForwarding n t b) u forwardings kind = absurd cc

both_keep : (u : Database) (x y : ℕ) (row facility : Option Tuple) → (updates_both u x y row facility).database.forwardings ≡ u.forwardings
both_keep u x y None facility = refl
both_keep u x y (Some row) None = refl
both_keep u x y (Some row) (Some facility) = refl

location_keeps : (u : Database) (v : ℕ) (row : Option Tuple) → ((updates_location u v row).database.forwardings ≡ u.forwardings) × ((updates_location u v row).database.facilities ≡ u.facilities)
location_keeps u v None = (refl, refl)
location_keeps u v (Some row) = (refl, refl)

columns_alike : (call : Call) (u : Database) → kind_of call ≡ Columns → IsConsistent u → arguments_accepted call ≡ Ok tt → IsAlike u (transaction call u).database
columns_alike (GetSubscriberData s) u kind is accepted = subst (IsAlike u) (sym (reading_leaves (GetSubscriberData s) refl u)) (itself u)
columns_alike (GetNewDestination s t b e) u kind is accepted = absurd cc
columns_alike (GetAccessData s t) u kind is accepted = absurd cc
columns_alike (UpdateSubscriberData s x t y) u kind is accepted = record {
  homes = λ n. keys_after (UpdateSubscriberData s x t y) u (Number n) is accepted;
  facilities = alike_after u is s x t y;
  forwardings = both_keep u x y (row_at u.subscribers (s ∷ [])) (row_at u.facilities (s ∷ t ∷ []));
}
columns_alike (UpdateLocation n v) u kind is accepted =
    let keeps = location_keeps u v (row_with_number u.subscribers n) in
    record {
      homes = λ m. keys_after (UpdateLocation n v) u (Number m) is accepted;
      facilities = subst (AreAlikeFacilities u.facilities) (sym keeps.1) (λ s t. (refl, refl));
      forwardings = keeps.0;
    }
columns_alike (InsertCallForwarding n t b e x) u kind is accepted = absurd cc
columns_alike (DeleteCallForwarding n t b) u kind is accepted = absurd cc

columns_forwardings : (a b : Call) (u : Database) → kind_of a ≡ Columns → kind_of b ≡ Forwardings → IsConsistent u → arguments_accepted a ≡ Ok tt → Commute u a b
columns_forwardings a b u first second is accepted =
    let own = forwardings_alike b u u second (itself u) in
    let other = forwardings_alike b u (transaction a u).database second (columns_alike a u first is accepted) in
    let beside = columns_beside a u (transaction b u).database.forwardings first in
    record {
      first = ap (λ w. (transaction a w).reply) own.1 ∙ ap (λ (k : Answer). k.reply) beside;
      second = other.0;
      rows = ap (λ w. (transaction a w).database) own.1 ∙ (ap (λ (k : Answer). k.database) beside ∙ sym other.1);
    }

-- ---- accesses
reads_reply : (u v : Database) (columns : Tuple → List ℕ) (row : Option Tuple) → (reads v columns row).reply ≡ (reads u columns row).reply
reads_reply u v columns None = refl
reads_reply u v columns (Some row) = refl

both_accesses : (u : Database) (x y : ℕ) (row facility : Option Tuple) → (updates_both u x y row facility).database.accesses ≡ u.accesses
both_accesses u x y None facility = refl
both_accesses u x y (Some row) None = refl
both_accesses u x y (Some row) (Some facility) = refl

location_accesses : (u : Database) (v : ℕ) (row : Option Tuple) → (updates_location u v row).database.accesses ≡ u.accesses
location_accesses u v None = refl
location_accesses u v (Some row) = refl

inserts_accesses : (u : Database) (row : Tuple) (facility there : Option Tuple) → (inserts_under u row facility there).database.accesses ≡ u.accesses
inserts_accesses u row None there = refl
inserts_accesses u row (Some facility) (Some there) = refl
inserts_accesses u row (Some facility) None = refl

inserts_for_accesses : (u : Database) (t b e x : ℕ) (s : Option ℕ) → (inserts_for u t b e x s).database.accesses ≡ u.accesses
inserts_for_accesses u t b e x None = refl
inserts_for_accesses u t b e x (Some s) = inserts_accesses u (s ∷ t ∷ b ∷ e ∷ x ∷ []) (row_at u.facilities (s ∷ t ∷ [])) (row_at u.forwardings (s ∷ t ∷ b ∷ []))

deletes_accesses : (u : Database) (row : Option Tuple) → (deletes u row).database.accesses ≡ u.accesses
deletes_accesses u None = refl
deletes_accesses u (Some row) = refl

deletes_for_accesses : (u : Database) (t b : ℕ) (s : Option ℕ) → (deletes_for u t b s).database.accesses ≡ u.accesses
deletes_for_accesses u t b None = refl
deletes_for_accesses u t b (Some s) = deletes_accesses u (row_at u.forwardings (s ∷ t ∷ b ∷ []))

accesses_stay : (call : Call) (u : Database) → (transaction call u).database.accesses ≡ u.accesses
accesses_stay (GetSubscriberData s) u = ap (λ (w : Database). w.accesses) (reading_leaves (GetSubscriberData s) refl u)
accesses_stay (GetNewDestination s t b e) u = ap (λ (w : Database). w.accesses) (reading_leaves (GetNewDestination s t b e) refl u)
accesses_stay (GetAccessData s t) u = ap (λ (w : Database). w.accesses) (reading_leaves (GetAccessData s t) refl u)
accesses_stay (UpdateSubscriberData s x t y) u = both_accesses u x y (row_at u.subscribers (s ∷ [])) (row_at u.facilities (s ∷ t ∷ []))
accesses_stay (UpdateLocation n v) u = location_accesses u v (row_with_number u.subscribers n)
accesses_stay (InsertCallForwarding n t b e x) u = inserts_for_accesses u t b e x (home_of_key u.subscribers (Number n))
accesses_stay (DeleteCallForwarding n t b) u = deletes_for_accesses u t b (home_of_key u.subscribers (Number n))

accesses_commute : (a b : Call) (u : Database) → kind_of a ≡ Accesses → Commute u a b
accesses_commute (GetSubscriberData s) b u kind = absurd cc
accesses_commute (GetNewDestination s t k e) b u kind = absurd cc
accesses_commute (GetAccessData s t) b u kind =
    let a : Call = GetAccessData s t in
    let w : Database = (transaction b u).database in
    let leaves = reading_leaves a refl u in
    record {
      first = reads_reply u w (drop 2) (row_at w.accesses (s ∷ t ∷ [])) ∙ ap (λ q. (reads u (drop 2) (row_at q (s ∷ t ∷ []))).reply) (accesses_stay b u);
      second = ap (λ v. (transaction b v).reply) leaves;
      rows = reading_leaves a refl w ∙ sym (ap (λ v. (transaction b v).database) leaves);
    }
accesses_commute (UpdateSubscriberData s x t y) b u kind = absurd cc
accesses_commute (UpdateLocation n v) b u kind = absurd cc
accesses_commute (InsertCallForwarding n t k e x) b u kind = absurd cc
accesses_commute (DeleteCallForwarding n t k) b u kind = absurd cc

-- ---- facilities
-- with each call the same facilities stay there, and active
forwarded : (call : Call) (u : Database) → kind_of call ≡ Forwardings → AreAlikeFacilities u.facilities (transaction call u).database.facilities
forwarded call u kind = subst (AreAlikeFacilities u.facilities) (sym (ap (λ (w : Database). w.facilities) (forwardings_alike call u u kind (itself u)).1)) (λ s t. (refl, refl))

pub facilities_alike : (call : Call) (u : Database) → IsConsistent u → arguments_accepted call ≡ Ok tt → AreAlikeFacilities u.facilities (transaction call u).database.facilities
facilities_alike (GetSubscriberData s) u is accepted = (columns_alike (GetSubscriberData s) u refl is accepted).facilities
facilities_alike (GetNewDestination s t b e) u is accepted = forwarded (GetNewDestination s t b e) u refl
facilities_alike (GetAccessData s t) u is accepted = subst (λ (w : Database). AreAlikeFacilities u.facilities w.facilities) (sym (reading_leaves (GetAccessData s t) refl u)) (λ s t. (refl, refl))
facilities_alike (UpdateSubscriberData s x t y) u is accepted = (columns_alike (UpdateSubscriberData s x t y) u refl is accepted).facilities
facilities_alike (UpdateLocation n v) u is accepted = (columns_alike (UpdateLocation n v) u refl is accepted).facilities
facilities_alike (InsertCallForwarding n t b e x) u is accepted = forwarded (InsertCallForwarding n t b e x) u refl
facilities_alike (DeleteCallForwarding n t b) u is accepted = forwarded (DeleteCallForwarding n t b) u refl

-- ---- the law
pub same_kind : (j k : Kind) → (j ≡ k) ⊎ (j ≡ k → ⊥)
same_kind Columns Columns = inl refl
same_kind Columns Accesses = inr (λ e. cc)
same_kind Columns Forwardings = inr (λ e. cc)
same_kind Accesses Columns = inr (λ e. cc)
same_kind Accesses Accesses = inl refl
same_kind Accesses Forwardings = inr (λ e. cc)
same_kind Forwardings Columns = inr (λ e. cc)
same_kind Forwardings Accesses = inr (λ e. cc)
same_kind Forwardings Forwardings = inl refl

pub commute : (u : Database) (a b : Call) → IsConsistent u → arguments_accepted a ≡ Ok tt → arguments_accepted b ≡ Ok tt → (kind_of a ≡ kind_of b → ⊥) → Commute u a b
commute u a b is first second other = elim (kind_of a) as (λ k. kind_of a ≡ k → Commute u a b) [
  | Accesses ↦ λ e. accesses_commute a b u e
  | Columns ↦ λ e. elim (kind_of b) as (λ k. kind_of b ≡ k → Commute u a b) [
    | Accesses ↦ λ f. commute_back u b a (accesses_commute b a u f)
    | Columns ↦ λ f. absurd (other (e ∙ sym f))
    | Forwardings ↦ λ f. columns_forwardings a b u e f is first
  ] refl
  | Forwardings ↦ λ e. elim (kind_of b) as (λ k. kind_of b ≡ k → Commute u a b) [
    | Accesses ↦ λ f. commute_back u b a (accesses_commute b a u f)
    | Columns ↦ λ f. commute_back u b a (columns_forwardings b a u f e is second)
    | Forwardings ↦ λ f. absurd (other (e ∙ sym f))
  ] refl
] refl
