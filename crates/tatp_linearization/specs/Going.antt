-- Orders that lead on from configurations.
use Rattle.std.specs.Prelude.{List}
use Rattle.tatp_tables.specs.Database.{Database}
use Rattle.tatp_history.specs.declared.event.Event.{Event}
use Rattle.tatp_history.specs.Events.{TimesRise, HaveEnds}
use Rattle.tatp_history.specs.JustInTime.{AreOpen}
use Rattle.tatp_history.specs.Remaining.{HasOrderTo}
use Rattle.tatp_history.specs.Configurations.{Configuration}
use Rattle.tatp_linearization.specs.declared.configuration.Configuration.{Configuration as Held}
use Rattle.tatp_linearization.specs.AtOnce.{IsSettled}
use Rattle.tatp_linearization.specs.Covering.{OneStandsFor}

-- a serial order of the calls that are open in the configuration and of those that are asked in the
-- events results in these rows
pub record LeadsOn (after : Database) (events : List Event) (c : Configuration) : Type 0 where
  pub rise : TimesRise events
  pub ends : HaveEnds events
  pub waiting : AreOpen events c.opened
  pub settled : IsSettled c
  pub order : HasOrderTo after c.rows events c.opened

-- an order leads on from a configuration for which one of these stands
abbrev pub OneLeadsOn : Database → List Event → List Held → Type 0
OneLeadsOn after events cs =
    (d : Configuration) × OneStandsFor cs d × LeadsOn after events d
