-- Serial orders of the calls that remain: of those open, and of those asked later.
use Rattle.std.specs.Prelude.{◌≡◌, ◌⊎◌, List}
use Rattle.std.specs.List.{AllByRecursion}
use Rattle.tatp_tables.specs.Database.{Database}
use Rattle.tatp_history.specs.declared.event.Event.{Event}
use Rattle.tatp_history.specs.declared.observed.Observed.{Observed}
use Rattle.tatp_history.specs.Histories.{IsIn, IsAnswered, AreAskedApart, KeepsRealTime, AreAnsweredInOrder, rows_after}
use Rattle.tatp_history.specs.Events.{asked_in}

-- a call is open, or is asked later
abbrev pub IsLeft : List Event → List Observed → Observed → Type 0
IsLeft events opened z = IsIn z opened ⊎ IsIn z (asked_in events)

-- a serial order of the calls that are left: among them each that was answered
pub record IsOrderFrom (u : Database) (events : List Event) (opened order : List Observed)
    : Type 0 where
  pub made : AllByRecursion (IsLeft events opened) order
  pub once : AreAskedApart order
  pub all : (z : Observed) → IsLeft events opened z → IsAnswered z.outcome → IsIn z order
  pub real_time : KeepsRealTime order
  pub replies : AreAnsweredInOrder u order

-- there is one that results in rows of which this holds
abbrev pub HasOrder
    : (Database → Type 0) → Database → List Event → List Observed → Type 0
HasOrder Holds u events opened =
    (order : List Observed) × IsOrderFrom u events opened order × Holds (rows_after u order)

-- there is one that results in these rows
abbrev pub HasOrderTo : Database → Database → List Event → List Observed → Type 0
HasOrderTo after u events opened = HasOrder (λ v. v ≡ after) u events opened
