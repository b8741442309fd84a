-- Histories with data_a cleared. No transaction reads data_a, and none inserts or deletes a
-- facility. So where the rows at the end aren't asked for, a call that sets bit_1 and data_a may be
-- taken for one that sets bit_1 alone: it sets data_a of the subscriber's first facility to 0, and
-- it is 0 there from the start. All such calls that set one bit are then the same call.
use Rattle.std.specs.Prelude.{◌≡◌, ℕ, true, is_some, if◌then◌else◌, List, [], ◌∷◌, map, take, Option, Some, None, find}
use Rattle.std.specs.Option.{option_map}
use Rattle.tatp_tables.specs.Tuples.{Tuple, Tuples, has}
use Rattle.tatp_tables.specs.Keys.{row_at}
use Rattle.tatp_tables.specs.Database.{Database}
use Rattle.tatp_homes.specs.Changes.{put_tables}
use Rattle.tatp_calls.specs.declared.call.Call.{Call}
use Rattle.tatp_calls.specs.declared.call.Call.TheVariants.{GetSubscriberData, GetNewDestination, GetAccessData, UpdateSubscriberData, UpdateLocation, InsertCallForwarding, DeleteCallForwarding}
use Rattle.tatp_calls.specs.Transactions.{with_data_a}
use Rattle.tatp_history.specs.declared.event.Event.{Event}
use Rattle.tatp_history.specs.declared.event.Event.TheVariants.{Asks, Ends}
use Rattle.tatp_history.specs.declared.observed.Observed.{Observed}
use Rattle.tatp_history.specs.Configurations.{Configuration}

-- ---- calls
-- the least type of which the subscriber has a facility
abbrev pub first_type : Tuples → ℕ → Option ℕ
first_type facilities s = find (λ t. is_some (row_at facilities (s ∷ t ∷ []))) (1 ∷ 2 ∷ 3 ∷ 4 ∷ [])

-- the call that sets bit_1 alone, in place of one that sets data_a of a facility besides
abbrev pub bit_alone : Call → ℕ → ℕ → Option ℕ → Call
bit_alone call s x None = call
bit_alone call s x (Some first) = UpdateSubscriberData s x first 0

-- a call whose facility isn't there stays as it is
abbrev pub cleared_call : Tuples → Call → Call
cleared_call facilities (GetSubscriberData s) = GetSubscriberData s
cleared_call facilities (GetNewDestination s t b e) = GetNewDestination s t b e
cleared_call facilities (GetAccessData s t) = GetAccessData s t
cleared_call facilities (UpdateSubscriberData s x t y) =
    if is_some (row_at facilities (s ∷ t ∷ []))
    then bit_alone (UpdateSubscriberData s x t y) s x (first_type facilities s)
    else UpdateSubscriberData s x t y
cleared_call facilities (UpdateLocation n v) = UpdateLocation n v
cleared_call facilities (InsertCallForwarding n t b e x) = InsertCallForwarding n t b e x
cleared_call facilities (DeleteCallForwarding n t b) = DeleteCallForwarding n t b

abbrev pub cleared : Tuples → Observed → Observed
cleared facilities x = record {
  asked = x.asked;
  call = cleared_call facilities x.call;
  outcome = x.outcome;
}

abbrev pub cleared_calls : Tuples → List Observed → List Observed
cleared_calls facilities calls = map (cleared facilities) calls

abbrev pub cleared_event : Tuples → Event → Event
cleared_event facilities (Asks x) = Asks (cleared facilities x)
cleared_event facilities (Ends asked at) = Ends asked at

abbrev pub cleared_events : Tuples → List Event → List Event
cleared_events facilities events = map (cleared_event facilities) events

-- ---- rows
abbrev pub without_data_a : Tuple → Tuple
without_data_a facility = with_data_a facility 0

-- the database with these facilities
abbrev pub with_facilities : Database → Tuples → Database
with_facilities u facilities = record u { facilities = facilities }

-- no two facilities have one key
abbrev pub AreKeyedOnce : Tuples → Type 0
AreKeyedOnce facilities = (row other : Tuple)
    → has facilities row ≡ true → has facilities other ≡ true
    → take 2 row ≡ take 2 other → row ≡ other

-- the second facilities are the first but for data_a, and data_a is 0 in the first facility of each
-- subscriber
pub record AreCleared (facilities others : Tuples) : Type 0 where
  pub keys : AreKeyedOnce facilities
  pub other_keys : AreKeyedOnce others
  pub alike : (s t : ℕ) → option_map without_data_a (row_at others (s ∷ t ∷ []))
      ≡ option_map without_data_a (row_at facilities (s ∷ t ∷ []))
  pub types : (s t : ℕ) → is_some (row_at others (s ∷ t ∷ [])) ≡ true
      → is_some (first_type others s) ≡ true
  pub first : (s t : ℕ) (row : Tuple) → first_type others s ≡ Some t
      → row_at others (s ∷ t ∷ []) ≡ Some row → without_data_a row ≡ row

-- the second database is the first but for that
pub record IsCleared (u v : Database) : Type 0 where
  pub rows : v ≡ with_facilities u v.facilities
  pub facilities : AreCleared u.facilities v.facilities

-- the rows with data_a of the subscriber's facility of a type set to 0, if a type is given
abbrev pub cleared_at : Database → ℕ → Option ℕ → Database
cleared_at u s None = u
cleared_at u s (Some t) = put_tables u 44 (s ∷ t ∷ 0 ∷ []) 0

-- the rows with data_a of the subscriber's first facility set to 0
abbrev pub cleared_rows : Database → ℕ → Database
cleared_rows u s = cleared_at u s (first_type u.facilities s)

-- ---- configurations
abbrev pub cleared_configuration : Tuples → Configuration → Configuration
cleared_configuration facilities c = record {
  rows = with_facilities c.rows facilities;
  opened = cleared_calls facilities c.opened;
}
