-- The configurations to which events lead.
use Rattle.std.specs.Prelude.{ℕ, ◌<◌, List, ◌++◌, length}
use Rattle.tatp_tables.specs.Database.{Database}
use Rattle.tatp_history.specs.declared.event.Event.{Event}
use Rattle.tatp_history.specs.Configurations.{Configuration, starting}
use Rattle.tatp_linearization.specs.declared.configuration.Configuration.{Configuration as Held}
use Rattle.tatp_linearization.specs.declared.explanations.Explanations.{Explanations}
use Rattle.tatp_linearization.specs.Possible.{IsPossible}
use Rattle.tatp_linearization.specs.Held.{AreReady, AreApart}
use Rattle.tatp_linearization.specs.Covering.{OneStandsFor}
use Rattle.tatp_linearization.specs.Searched.{IsSearchedFrom, searched_events}
use Rattle.tatp_linearization.specs.Going.{LeadsOn, OneLeadsOn}

-- each order of the calls of these events and of any more leads on from a configuration for which
-- one of these stands; and they stand for possible configurations only
pub record AreKept (u : Database) (past : List Event) (cs : List Held) : Type 0 where
  pub complete : (after : Database) (more : List Event) → LeadsOn after (past ++ more) (starting u)
      → OneLeadsOn after more cs
  pub sound : (d : Configuration) → OneStandsFor cs d → IsPossible u past d
  pub ready : AreReady cs
  pub apart : (s : ℕ) × AreApart s cs

-- the explanations are the configurations to which what is searched leads, and there is at least
-- one
pub record AreReached (u : Database) (past : List Event) (explanations : Explanations)
    : Type 0 where
  pub from : Database
  pub begins : IsSearchedFrom explanations.exact u from
  pub kept : AreKept from (searched_events explanations.exact from.facilities past)
      explanations.configurations.items
  pub some : 0 < length explanations.configurations.items

-- the homes of the configurations are of this s_id
abbrev pub AreOfSubscriber : ℕ → Explanations → Type 0
AreOfSubscriber s explanations = AreApart s explanations.configurations.items
