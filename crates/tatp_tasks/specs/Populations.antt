-- Populations that can be drawn, and runs that can be opened.
use Rattle.std.specs.Prelude.{ℕ, ◌≤◌}
use Rattle.tatp_limits.specs.declared.limits.TheConstants.{MAX_CLIENTS, MAX_PARTITIONS, MAX_SUBSCRIBERS}
use Rattle.tatp_limits.specs.declared.limits.TheConstants.{MAX_INPUT_LIMIT}
use Rattle.tatp_tasks.specs.declared.population.Population.{Population}
use Rattle.tatp_tasks.specs.declared.population.Population.TheVariants.{Read, Generated}
use Rattle.tatp_tasks.specs.declared.setup.Setup.{Setup}

abbrev pub IsPopulation : Population → Type 0
IsPopulation Read = Unit {0}
IsPopulation (Generated n seed) = (1 ≤ n) × (n ≤ MAX_SUBSCRIBERS)

-- a task can ask for this many bytes of an input to be read
abbrev pub IsInputLimit : ℕ → Type 0
IsInputLimit bytes = (1 ≤ bytes) × (bytes ≤ MAX_INPUT_LIMIT)

-- the rows can be drawn, and there can be this many partitions, clients and bytes of an input
pub record IsSetup (setup : Setup) : Type 0 where
  pub population : IsPopulation setup.population
  pub some_partitions : 1 ≤ setup.partitions
  pub few_partitions : setup.partitions ≤ MAX_PARTITIONS
  pub some_clients : 1 ≤ setup.clients
  pub few_clients : setup.clients ≤ MAX_CLIENTS
  pub input_limit : IsInputLimit setup.input_limit
