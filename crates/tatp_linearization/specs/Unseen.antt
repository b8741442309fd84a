-- Locations that reads saw, and updates of the location that something overwrites.
use Rattle.std.specs.Prelude.{◌≡◌, ℕ, ◌⊎◌, ◌==◌, Bool, true, false, List, Option, Some, None, slice_get}
use Rattle.std.specs.List.{AllByRecursion}
use Rattle.tatp_tables.specs.Tuples.{Tuple, has}
use Rattle.tatp_tables.specs.Database.{Database}
use Rattle.tatp_calls.specs.declared.call.Call.{Call}
use Rattle.tatp_calls.specs.declared.call.Call.TheVariants.{GetSubscriberData, GetNewDestination, GetAccessData, UpdateSubscriberData, UpdateLocation, InsertCallForwarding, DeleteCallForwarding}
use Rattle.tatp_calls.specs.declared.reply.Reply.{Reply}
use Rattle.tatp_calls.specs.declared.reply.Reply.TheVariants.{Values, Failed, Trapped, Refused}
use Rattle.tatp_history.specs.declared.observed.Recorded.{Recorded}
use Rattle.tatp_history.specs.declared.observed.Recorded.TheVariants.{Exactly, Success, Failure}
use Rattle.tatp_history.specs.declared.observed.Outcome.{Outcome}
use Rattle.tatp_history.specs.declared.observed.Outcome.TheVariants.{Answered, Aborted, Unknown}
use Rattle.tatp_history.specs.declared.observed.Observed.{Observed}
use Rattle.tatp_history.specs.Histories.{IsAnswered, Precedes}
use Rattle.tatp_history.specs.Changes.{has_failed}
use Rattle.tatp_linearization.specs.Doomed.{sets_location}

-- ---- the location with which a read of the subscriber was answered
abbrev pub location_replied : Reply → Option ℕ
location_replied (Values values) = slice_get values 33
location_replied (Failed number) = None
location_replied (Trapped trap) = None
location_replied Refused = None

abbrev pub location_recorded : Recorded → Option ℕ
location_recorded (Exactly reply) = location_replied reply
location_recorded Success = None
location_recorded Failure = None

abbrev pub location_answered : Outcome → Option ℕ
location_answered (Answered at recorded) = location_recorded recorded
location_answered (Aborted at) = None
location_answered Unknown = None

abbrev pub location_read : Call → Outcome → Option ℕ
location_read (GetSubscriberData s) outcome = location_answered outcome
location_read (GetNewDestination s t b e) outcome = None
location_read (GetAccessData s t) outcome = None
location_read (UpdateSubscriberData s x t y) outcome = None
location_read (UpdateLocation n v) outcome = None
location_read (InsertCallForwarding n t b e x) outcome = None
location_read (DeleteCallForwarding n t b) outcome = None

abbrev pub location_in : Observed → Option ℕ
location_in x = location_read x.call x.outcome

-- whether it is this location
abbrev pub is_location : ℕ → Option ℕ → Bool
is_location location None = false
is_location location (Some seen) = seen == location

-- whether the call saw the location
abbrev pub sees : ℕ → Observed → Bool
sees location x = is_location location (location_in x)

-- the location that a call saw, or sets
abbrev pub location_named : Call → Outcome → Option ℕ
location_named (GetSubscriberData s) outcome = location_answered outcome
location_named (GetNewDestination s t b e) outcome = None
location_named (GetAccessData s t) outcome = None
location_named (UpdateSubscriberData s x t y) outcome = None
location_named (UpdateLocation n v) outcome = Some v
location_named (InsertCallForwarding n t b e x) outcome = None
location_named (DeleteCallForwarding n t b) outcome = None

abbrev pub location_of : Observed → Option ℕ
location_of x = location_named x.call x.outcome

-- none of the calls saw the location
abbrev pub NoneSaw : ℕ → List Observed → Type 0
NoneSaw location calls =
    AllByRecursion (λ (x : Observed). location_in x ≡ Some location → ⊥) calls

-- those of them that saw the location were asked after the end of a call
abbrev pub SawAfter : Observed → ℕ → List Observed → Type 0
SawAfter y location calls =
    AllByRecursion (λ (x : Observed). location_in x ≡ Some location → Precedes y x) calls

-- those of them that set the location were asked after the end of a call
abbrev pub SetAfter : Observed → ℕ → List Observed → Type 0
SetAfter read location calls = AllByRecursion
    (λ (x : Observed). (sets_location location x.call ≡ false) ⊎ Precedes read x) calls

-- ---- updates
-- the call updates the location, and was answered otherwise than by a failure
pub record HasSetLocation (x : Observed) : Type 0 where
  pub number : ℕ
  pub location : ℕ
  pub updates : x.call ≡ UpdateLocation number location
  pub answered : IsAnswered x.outcome
  pub written : has_failed x.outcome ≡ false

-- the call saw another location
abbrev pub SawOther : ℕ → Observed → Type 0
SawOther location x =
    (other : ℕ) × (location_in x ≡ Some other) × (other ≡ location → ⊥)

-- the location has been replaced by the time the call takes effect
abbrev pub IsReplacedBy : ℕ → Observed → Type 0
IsReplacedBy location x = HasSetLocation x ⊎ SawOther location x

-- the rows are those of one subscriber, or of none
abbrev pub AreOfOne : Database → Type 0
AreOfOne u = (row other : Tuple) → has u.subscribers row ≡ true
    → has u.subscribers other ≡ true → row ≡ other
