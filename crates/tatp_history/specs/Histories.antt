-- trusted: read it
-- What clients saw of a database, and when it is strictly serializable (Papadimitriou, 1979). Where
-- each transaction is one call, that is the linearizability of Herlihy and Wing, 1990.
use Rattle.std.specs.Prelude.{◌≡◌, ℕ, ◌<◌, ◌⊎◌, List, [], ◌∷◌, map}
use Rattle.std.specs.List.{AllZip, AllByRecursion}
use Rattle.tatp_tables.specs.Database.{Database}
use Rattle.tatp_calls.specs.declared.reply.Reply.{Reply}
use Rattle.tatp_calls.specs.declared.reply.Reply.TheVariants.{Values, Failed, Trapped, Refused}
use Rattle.tatp_calls.specs.Order.{in_order}
use Rattle.tatp_history.specs.declared.observed.Recorded.{Recorded}
use Rattle.tatp_history.specs.declared.observed.Recorded.TheVariants.{Exactly, Success, Failure}
use Rattle.tatp_history.specs.declared.observed.Outcome.{Outcome}
use Rattle.tatp_history.specs.declared.observed.Outcome.TheVariants.{Answered, Aborted, Unknown}
use Rattle.tatp_history.specs.declared.observed.Observed.{Observed}

-- ---- how a call ended
-- the call was answered
abbrev pub IsAnswered : Outcome → Type 0
IsAnswered (Answered at recorded) = Unit {0}
IsAnswered (Aborted at) = ⊥
IsAnswered Unknown = ⊥

-- the call was answered before this time
abbrev pub IsAnsweredBefore : ℕ → Outcome → Type 0
IsAnsweredBefore time (Answered at recorded) = at < time
IsAnsweredBefore time (Aborted at) = ⊥
IsAnsweredBefore time Unknown = ⊥

-- the reply is a success
abbrev pub IsSuccess : Reply → Type 0
IsSuccess (Values values) = Unit {0}
IsSuccess (Failed number) = ⊥
IsSuccess (Trapped trap) = ⊥
IsSuccess Refused = ⊥

-- the reply is a failure
abbrev pub IsFailure : Reply → Type 0
IsFailure (Values values) = ⊥
IsFailure (Failed number) = Unit {0}
IsFailure (Trapped trap) = ⊥
IsFailure Refused = ⊥

-- a client that got this reply may have recorded this
abbrev pub IsAsRecorded : Recorded → Reply → Type 0
IsAsRecorded (Exactly recorded) reply = recorded ≡ reply
IsAsRecorded Success reply = IsSuccess reply
IsAsRecorded Failure reply = IsFailure reply

-- a call that took effect with this reply may have this outcome. An aborted call took no effect
abbrev pub MayHaveReply : Outcome → Reply → Type 0
MayHaveReply (Answered at recorded) reply = IsAsRecorded recorded reply
MayHaveReply (Aborted at) reply = ⊥
MayHaveReply Unknown reply = Unit {0}

-- ---- calls
-- the call is one of these
abbrev pub IsIn : Observed → List Observed → Type 0
IsIn x [] = ⊥
IsIn x (y ∷ more) = (x ≡ y) ⊎ IsIn x more

-- in real time the first precedes the second: it was answered before the second was asked
abbrev pub Precedes : Observed → Observed → Type 0
Precedes first second = IsAnsweredBefore second.asked first.outcome

-- no two of the calls were asked at one time
abbrev pub AreAskedApart : List Observed → Type 0
AreAskedApart [] = Unit {0}
AreAskedApart (x ∷ more) =
    AllByRecursion (λ (y : Observed). x.asked ≡ y.asked → ⊥) more × AreAskedApart more

-- ---- orders
-- no call comes before one that precedes it in real time
abbrev pub KeepsRealTime : List Observed → Type 0
KeepsRealTime [] = Unit {0}
KeepsRealTime (x ∷ more) =
    AllByRecursion (λ (y : Observed). Precedes y x → ⊥) more × KeepsRealTime more

-- run one after another from the database on, the calls have replies with which they may have ended
-- as their clients saw
abbrev pub AreAnsweredInOrder : Database → List Observed → Type 0
AreAnsweredInOrder before order =
    AllZip (λ (x : Observed) reply. MayHaveReply x.outcome reply) order
    (in_order before (map (λ (x : Observed). x.call) order)).replies

-- a serial order of what clients saw: calls of theirs, each at most once, among them each that was
-- answered; it keeps real time, and the replies are the transactions'
pub record IsSerialOrder (before : Database) (calls order : List Observed) : Type 0 where
  pub made : AllByRecursion (λ x. IsIn x calls) order
  pub once : AreAskedApart order
  pub all : (x : Observed) → IsIn x calls → IsAnswered x.outcome → IsIn x order
  pub real_time : KeepsRealTime order
  pub replies : AreAnsweredInOrder before order

-- what clients saw from the database on has a serial order
abbrev pub IsStrictlySerializable : Database → List Observed → Type 0
IsStrictlySerializable before calls = (order : List Observed) × IsSerialOrder before calls order

-- ---- with the rows at the end
-- the rows after these calls, run one after another
abbrev pub rows_after : Database → List Observed → Database
rows_after before order = (in_order before (map (λ (x : Observed). x.call) order)).database

-- what clients saw has a serial order that results in these rows
abbrev pub IsStrictlySerializableTo : Database → List Observed → Database → Type 0
IsStrictlySerializableTo before calls after =
    (order : List Observed) × IsSerialOrder before calls order × (rows_after before order ≡ after)
