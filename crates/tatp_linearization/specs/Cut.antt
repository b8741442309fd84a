-- A window's events up to a time.
use Rattle.std.specs.Prelude.{ℕ, nat_le, if◌then◌else◌, List, [], ◌∷◌, ◌++◌}
use Rattle.tatp_history.specs.declared.event.Event.{Event}
use Rattle.tatp_history.specs.declared.event.Event.TheVariants.{Asks, Ends}
use Rattle.tatp_history.specs.Prefixes.{call_by}
use Rattle.tatp_history.specs.Events.{TimesRise, HaveEnds}

-- the events that had happened by this time, with the outcomes that were known by then
abbrev pub events_by : ℕ → List Event → List Event
events_by time [] = []
events_by time (Asks x ∷ more) =
    if nat_le x.asked time
    then Asks (call_by time x) ∷ events_by time more
    else events_by time more
events_by time (Ends asked at ∷ more) =
    if nat_le at time then Ends asked at ∷ events_by time more else events_by time more

-- the events follow on those of the past, and each call of the past that was answered ended there
pub record AreWindow (past events : List Event) : Type 0 where
  pub rise : TimesRise (past ++ events)
  pub own : HaveEnds past
  pub ends : HaveEnds (past ++ events)
