-- What clients saw of one subscriber, and of none.
use Rattle.std.specs.Prelude.{◌≡◌, ℕ, ◌==◌, Bool, false, List, Option, Some, None, Ok, filter}
use Rattle.std.specs.List.{AllByRecursion}
use Rattle.tatp_tables.specs.Database.{Database, of_subscriber}
use Rattle.tatp_numbers.specs.Homes.{home_of_key}
use Rattle.tatp_calls.specs.declared.call.Call.{Call}
use Rattle.tatp_calls.specs.declared.reply.Reply.TheVariants.{Failed}
use Rattle.tatp_calls.specs.Calls.{key_of_call}
use Rattle.tatp_calls.specs.Arguments.{arguments_accepted}
use Rattle.tatp_history.specs.declared.observed.Outcome.{Outcome}
use Rattle.tatp_history.specs.declared.observed.Observed.{Observed}
use Rattle.tatp_history.specs.Histories.{IsAnswered, Precedes, AreAskedApart, MayHaveReply, IsStrictlySerializable, IsStrictlySerializableTo}

-- ---- calls on one subscriber
-- the subscriber whom a call's key names, if it names any
abbrev pub subscriber_of : Database → Call → Option ℕ
subscriber_of u call = home_of_key u.subscribers (key_of_call call)

abbrev pub is_this : ℕ → Option ℕ → Bool
is_this s None = false
is_this s (Some t) = t == s

-- whether a call is on the subscriber
abbrev pub is_on : Database → ℕ → Call → Bool
is_on u s call = is_this s (subscriber_of u call)

abbrev pub calls_on : Database → ℕ → List Observed → List Observed
calls_on u s calls = filter (λ (x : Observed). is_on u s x.call) calls

-- a call that names no subscriber failed with 1, if it was answered
abbrev pub FailsWithout : Option ℕ → Outcome → Type 0
FailsWithout (Some s) outcome = Unit {0}
FailsWithout None outcome = IsAnswered outcome → MayHaveReply outcome (Failed 1)

abbrev pub FailWithout : Database → List Observed → Type 0
FailWithout u calls =
    AllByRecursion (λ (x : Observed). FailsWithout (subscriber_of u x.call) x.outcome) calls

-- ---- calls
-- no call was answered before it was asked
abbrev pub AreInTime : List Observed → Type 0
AreInTime calls = AllByRecursion (λ (x : Observed). Precedes x x → ⊥) calls

-- the arguments of the calls are in their domains
abbrev pub AreAccepted : List Observed → Type 0
AreAccepted calls = AllByRecursion (λ (x : Observed). arguments_accepted x.call ≡ Ok tt) calls

-- clients can have made these calls: no two were asked at one time, none was answered before it was
-- asked, and their arguments are in their domains
pub record AreCalls (calls : List Observed) : Type 0 where
  pub apart : AreAskedApart calls
  pub in_time : AreInTime calls
  pub accepted : AreAccepted calls

-- ---- subscriber by subscriber
-- each subscriber's calls are strictly serializable on its rows, and those on none failed with 1
pub record IsSerializableAtEach (u : Database) (calls : List Observed) : Type 0 where
  pub each : (s : ℕ) → IsStrictlySerializable (of_subscriber u s) (calls_on u s calls)
  pub none : FailWithout u calls

-- a serial order of each subscriber's calls results in its rows, and those on none failed with 1
pub record IsSerializableToEach (u : Database) (calls : List Observed) (after : Database)
    : Type 0 where
  pub each : (s : ℕ)
      → IsStrictlySerializableTo (of_subscriber u s) (calls_on u s calls) (of_subscriber after s)
  pub none : FailWithout u calls
