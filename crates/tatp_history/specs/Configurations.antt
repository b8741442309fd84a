-- Configurations of the search: the states in which it may be between two events.
use Rattle.std.specs.Prelude.{◌≡◌, ◌⊎◌, List, [], ◌∷◌, length}
use Rattle.std.specs.List.{AllByRecursion}
use Rattle.tatp_tables.specs.Database.{Database}
use Rattle.tatp_history.specs.declared.event.Event.{Event}
use Rattle.tatp_history.specs.declared.event.Event.TheVariants.{Asks, Ends}
use Rattle.tatp_history.specs.declared.observed.Observed.{Observed}
use Rattle.tatp_history.specs.Histories.{IsAnswered}
use Rattle.tatp_history.specs.JustInTime.{NoneAskedAt, TakeEffect}

-- the rows, and the open calls that have not taken effect
pub record Configuration : Type 0 where
  pub rows : Database
  pub opened : List Observed

abbrev pub starting : Database → Configuration
starting u = record { rows = u; opened = [] }

-- the second configuration may follow on the first at the event
abbrev pub Follows : Event → Configuration → Configuration → Type 0
Follows (Asks x) c d = d ≡ record { rows = c.rows; opened = x ∷ c.opened }
Follows (Ends asked at) c d =
    (NoneAskedAt asked c.opened × (d ≡ c))
    ⊎ TakeEffect (length c.opened) (λ u opened. d ≡ record { rows = u; opened = opened }) asked
    c.rows c.opened

-- the events lead from the first configuration to the second
abbrev pub Lead : List Event → Configuration → Configuration → Type 0
Lead [] c d = d ≡ c
Lead (event ∷ more) c d = (e : Configuration) × Follows event c e × Lead more e d

-- the events lead from a configuration to one of which this holds
abbrev pub LeadToSome : List Event → Configuration → (Configuration → Type 0) → Type 0
LeadToSome events c Holds = (d : Configuration) × Lead events c d × Holds d

-- none of these calls was answered
abbrev pub AreUnanswered : List Observed → Type 0
AreUnanswered calls = AllByRecursion (λ (x : Observed). IsAnswered x.outcome → ⊥) calls
