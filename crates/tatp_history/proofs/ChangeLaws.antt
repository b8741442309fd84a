-- Calls that only read, and calls that failed, change no database.
use Rattle.std.proofs.Common.{◌≡◌, ℕ, true, false, cond, Option, Some, None, List, [], ◌∷◌, drop, refl, sym, subst, true≢false}
use Rattle.tatp_tables.specs.Tuples.{Tuple}
use Rattle.tatp_tables.specs.Keys.{row_at, row_with_number}
use Rattle.tatp_tables.specs.Database.{Database}
use Rattle.tatp_numbers.specs.declared.key.Key.TheVariants.{Number}
use Rattle.tatp_numbers.specs.Homes.{home_of_key}
use Rattle.tatp_calls.specs.declared.call.Call.{Call}
use Rattle.tatp_calls.specs.declared.call.Call.TheVariants.{GetSubscriberData, GetNewDestination, GetAccessData, UpdateSubscriberData, UpdateLocation, InsertCallForwarding, DeleteCallForwarding}
use Rattle.tatp_calls.specs.declared.reply.Reply.{Reply}
use Rattle.tatp_calls.specs.declared.reply.Reply.TheVariants.{Values, Failed, Trapped, Refused}
use Rattle.tatp_calls.specs.Transactions.{transaction, reads, destinations, some_of, updates_both, updates_location, inserts_under, inserts_for, deletes, deletes_for}
use Rattle.tatp_history.specs.declared.observed.Recorded.{Recorded}
use Rattle.tatp_history.specs.declared.observed.Recorded.TheVariants.{Exactly, Success, Failure}
use Rattle.tatp_history.specs.declared.observed.Outcome.{Outcome}
use Rattle.tatp_history.specs.declared.observed.Outcome.TheVariants.{Answered, Aborted, Unknown}
use Rattle.tatp_history.specs.declared.observed.Observed.{Observed}
use Rattle.tatp_history.specs.Histories.{IsFailure, IsAsRecorded, MayHaveReply}
use Rattle.tatp_history.specs.Changes.{only_reads, is_failure, records_failure, has_failed, changes_nothing, LeavesRows}

-- ---- reads
row_read : (u : Database) (columns : Tuple → List ℕ) (row : Option Tuple) → (reads u columns row).database ≡ u
row_read u columns None = refl
row_read u columns (Some row) = refl

numbers_read : (u : Database) (numbers : List ℕ) → (some_of u numbers).database ≡ u
numbers_read u [] = refl
numbers_read u (n ∷ more) = refl

pub reading_leaves : (call : Call) → only_reads call ≡ true → (u : Database) → (transaction call u).database ≡ u
reading_leaves (GetSubscriberData s) e u = row_read u (λ row. row) (row_at u.subscribers (s ∷ []))
reading_leaves (GetNewDestination s t b e) _ u = numbers_read u (destinations u s t b e)
reading_leaves (GetAccessData s t) e u = row_read u (drop 2) (row_at u.accesses (s ∷ t ∷ []))
reading_leaves (UpdateSubscriberData s x t y) e u = absurd (true≢false (sym e))
reading_leaves (UpdateLocation n v) e u = absurd (true≢false (sym e))
reading_leaves (InsertCallForwarding n t b e x) h u = absurd (true≢false (sym h))
reading_leaves (DeleteCallForwarding n t b) e u = absurd (true≢false (sym e))

-- ---- failures
both_fail : (u : Database) (x y : ℕ) (subscriber facility : Option Tuple) → IsFailure (updates_both u x y subscriber facility).reply → (updates_both u x y subscriber facility).database ≡ u
both_fail u x y None facility h = refl
both_fail u x y (Some subscriber) None h = refl
both_fail u x y (Some subscriber) (Some facility) h = absurd h

location_fails : (u : Database) (v : ℕ) (subscriber : Option Tuple) → IsFailure (updates_location u v subscriber).reply → (updates_location u v subscriber).database ≡ u
location_fails u v None h = refl
location_fails u v (Some subscriber) h = absurd h

insert_fails_under : (u : Database) (row : Tuple) (facility there : Option Tuple) → IsFailure (inserts_under u row facility there).reply → (inserts_under u row facility there).database ≡ u
insert_fails_under u row None there h = refl
insert_fails_under u row (Some facility) (Some there) h = refl
insert_fails_under u row (Some facility) None h = absurd h

insert_fails : (u : Database) (t b e x : ℕ) (home : Option ℕ) → IsFailure (inserts_for u t b e x home).reply → (inserts_for u t b e x home).database ≡ u
insert_fails u t b e x None h = refl
insert_fails u t b e x (Some s) h = insert_fails_under u (s ∷ t ∷ b ∷ e ∷ x ∷ []) (row_at u.facilities (s ∷ t ∷ [])) (row_at u.forwardings (s ∷ t ∷ b ∷ [])) h

row_delete_fails : (u : Database) (row : Option Tuple) → IsFailure (deletes u row).reply → (deletes u row).database ≡ u
row_delete_fails u None h = refl
row_delete_fails u (Some row) h = absurd h

delete_fails : (u : Database) (t b : ℕ) (home : Option ℕ) → IsFailure (deletes_for u t b home).reply → (deletes_for u t b home).database ≡ u
delete_fails u t b None h = refl
delete_fails u t b (Some s) h = row_delete_fails u (row_at u.forwardings (s ∷ t ∷ b ∷ [])) h

failing_leaves : (call : Call) (u : Database) → IsFailure (transaction call u).reply → (transaction call u).database ≡ u
failing_leaves (GetSubscriberData s) u h = reading_leaves (GetSubscriberData s) refl u
failing_leaves (GetNewDestination s t b e) u h = reading_leaves (GetNewDestination s t b e) refl u
failing_leaves (GetAccessData s t) u h = reading_leaves (GetAccessData s t) refl u
failing_leaves (UpdateSubscriberData s x t y) u h = both_fail u x y (row_at u.subscribers (s ∷ [])) (row_at u.facilities (s ∷ t ∷ [])) h
failing_leaves (UpdateLocation n v) u h = location_fails u v (row_with_number u.subscribers n) h
failing_leaves (InsertCallForwarding n t b e x) u h = insert_fails u t b e x (home_of_key u.subscribers (Number n)) h
failing_leaves (DeleteCallForwarding n t b) u h = delete_fails u t b (home_of_key u.subscribers (Number n)) h

-- ---- what clients recorded
failed : (reply : Reply) → is_failure reply ≡ true → IsFailure reply
failed (Values values) e = absurd (true≢false (sym e))
failed (Failed number) e = tt
failed (Trapped trap) e = absurd (true≢false (sym e))
failed Refused e = absurd (true≢false (sym e))

failure_recorded : (recorded : Recorded) (reply : Reply) → records_failure recorded ≡ true → IsAsRecorded recorded reply → IsFailure reply
failure_recorded (Exactly known) reply e is = subst IsFailure is (failed known e)
failure_recorded Success reply e is = absurd (true≢false (sym e))
failure_recorded Failure reply e is = is

failure_had : (outcome : Outcome) (reply : Reply) → has_failed outcome ≡ true → MayHaveReply outcome reply → IsFailure reply
failure_had (Answered at recorded) reply e may = failure_recorded recorded reply e may
failure_had (Aborted at) reply e may = absurd may
failure_had Unknown reply e may = absurd (true≢false (sym e))

pub unchanged : (x : Observed) → changes_nothing x ≡ true → LeavesRows x
unchanged x e v may = elim (only_reads x.call) as (λ b. only_reads x.call ≡ b → cond b true (has_failed x.outcome) ≡ true → (transaction x.call v).database ≡ v) [
  | true ↦ λ r _. reading_leaves x.call r v
  | false ↦ λ _ h. failing_leaves x.call v (failure_had x.outcome (transaction x.call v).reply h may)
] refl e
