-- What the options of a command ask for, among what its words give.
use Rattle.std.specs.Prelude.{ℕ, ◌^◌, ◌-◌, ◌==◌, Bool, true, false, List, Option, Some, None, codes, bytes_eq, if◌then◌else◌}
use Rattle.std.specs.Option.{option_map_or}
use Rattle.clap.specs.Walk.{Row, first_of}
use Rattle.tatp_limits.specs.declared.limits.TheConstants.{MAX_BENCH_CALLS, MAX_BENCH_CHAPTER, MAX_BENCH_MOVES, MAX_BENCH_STOPS, MAX_CLIENTS, MAX_CONFIGURATIONS, MAX_DRAWN_CALLS, MAX_INPUT_LIMIT, MAX_PARTITIONS, MAX_PARTS, MAX_SUBSCRIBERS}
use Rattle.tatp_tasks.specs.declared.distribution.Distribution.{Distribution}
use Rattle.tatp_tasks.specs.declared.distribution.Distribution.TheVariants.{Skewed, Uniform}
use Rattle.tatp_tasks.specs.declared.judging.JudgePlan.{JudgePlan}
use Rattle.tatp_tasks.specs.declared.load.CallsPlan.{CallsPlan}
use Rattle.tatp_tasks.specs.declared.load.RowsPlan.{RowsPlan}
use Rattle.tatp_tasks.specs.declared.plan.BenchPlan.{BenchPlan}
use Rattle.tatp_tasks.specs.declared.population.Population.{Population}
use Rattle.tatp_tasks.specs.declared.population.Population.TheVariants.{Read, Generated}
use Rattle.tatp_tasks.specs.declared.procedures.Procedures.{Procedures}
use Rattle.tatp_tasks.specs.declared.procedures.Procedures.TheVariants as procedures
use Rattle.tatp_tasks.specs.declared.setup.Setup.{Setup}
use Rattle.tatp_command_line.specs.Numbers.{Ranged, HasNumber, number_asked, HasNumberIfGiven, number_if_given}

-- ---- the options that take a number
-- an option that has to be given
abbrev required_from : ℕ → ℕ → List ℕ → Ranged
required_from least most name = record {
  name = name;
  least = least;
  most = most;
  default = None;
  required = true;
}

-- an option that needn't be given
abbrev optional_from : ℕ → ℕ → Option (List ℕ) → List ℕ → Ranged
optional_from least most default name = record {
  name = name;
  least = least;
  most = most;
  default = default;
  required = false;
}

abbrev pub gen : Ranged
gen = optional_from 1 MAX_SUBSCRIBERS None (codes "gen")

abbrev pub subscribers : Ranged
subscribers = required_from 1 MAX_SUBSCRIBERS (codes "subscribers")

abbrev pub seed : Ranged
seed = optional_from 0 (2 ^ 64 - 1) (Some (codes "1")) (codes "seed")

abbrev pub partitions : Ranged
partitions = optional_from 1 MAX_PARTITIONS (Some (codes "2")) (codes "partitions")

abbrev pub clients : Ranged
clients = optional_from 1 MAX_CLIENTS (Some (codes "4")) (codes "clients")

abbrev pub calls : Ranged
calls = required_from 1 MAX_BENCH_CALLS (codes "calls")

abbrev pub moves : Ranged
moves = optional_from 0 MAX_BENCH_MOVES (Some (codes "0")) (codes "moves")

abbrev pub stops : Ranged
stops = optional_from 0 MAX_BENCH_STOPS (Some (codes "0")) (codes "stops")

abbrev pub chapter : Ranged
chapter = optional_from 1 MAX_BENCH_CHAPTER (Some (codes "1000")) (codes "chapter")

-- the option of `rows`, where it has to be given
abbrev pub rows_gen : Ranged
rows_gen = required_from 1 MAX_SUBSCRIBERS (codes "gen")

-- the option of `calls`
abbrev pub drawn_calls : Ranged
drawn_calls = required_from 1 MAX_DRAWN_CALLS (codes "calls")

abbrev pub client : Ranged
client = optional_from 0 (MAX_CLIENTS - 1) (Some (codes "0")) (codes "client")

-- the most bytes of the input that are read
abbrev pub input_limit : Ranged
input_limit = optional_from 1 MAX_INPUT_LIMIT (Some (codes "134217728")) (codes "input-limit")

-- the option of `judge`: the most configurations of one subscriber that are kept
abbrev pub most : Ranged
most = optional_from 1 MAX_CONFIGURATIONS (Some (codes "65536")) (codes "most")

-- how many parts a history has
abbrev pub parts : Ranged
parts = optional_from 1 MAX_PARTS (Some (codes "1")) (codes "parts")

-- one of `count` parts, which has to be named where there are several
abbrev pub part : ℕ → Ranged
part count =
    optional_from 1 count (if count == 1 then Some (codes "1") else None) (codes "part")

-- ... as the parse of the words looks for it
abbrev pub any_part : Ranged
any_part = optional_from 1 MAX_PARTS None (codes "part")

-- ---- the switches
-- the switch of this name is given
abbrev pub is_given : List ℕ → List Row → Bool
is_given name given =
    option_map_or (λ text. bytes_eq text (codes "true")) (first_of name given) false

abbrev pub distribution_asked : List Row → Distribution
distribution_asked given = if is_given (codes "uniform") given then Uniform else Skewed

-- without --procedures they are the standard module's
abbrev pub procedures_asked : List Row → Procedures
procedures_asked given =
    if is_given (codes "procedures") given then procedures.Read else procedures.Standard

-- ---- the word that is to be explained, with no option before it
abbrev pub word_asked : List Row → Option (List ℕ)
word_asked given = first_of (codes "word") given

-- ---- the population: without --gen its rows are read
abbrev pub HasPopulation : List Row → Type 0
HasPopulation given =
    HasNumber seed given × HasNumberIfGiven gen given

-- by the number of --gen, where it was given, and of --seed
abbrev pub population_by : Option ℕ → ℕ → Population
population_by None seed = Read
population_by (Some subscribers) seed = Generated subscribers seed

abbrev pub population_asked : List Row → Population
population_asked given = population_by (number_if_given gen given) (number_asked seed given)

-- ---- what a run over events is opened with
pub record HasSetup (given : List Row) : Type 0 where
  pub population : HasPopulation given
  pub partitions : HasNumber partitions given
  pub clients : HasNumber clients given
  pub input_limit : HasNumber input_limit given

abbrev pub setup_asked : List Row → Setup
setup_asked given = record {
  procedures = procedures_asked given;
  population = population_asked given;
  partitions = number_asked partitions given;
  clients = number_asked clients given;
  input_limit = number_asked input_limit given;
}

-- ---- the run of the benchmark
pub record HasPlan (given : List Row) : Type 0 where
  pub subscribers : HasNumber subscribers given
  pub partitions : HasNumber partitions given
  pub clients : HasNumber clients given
  pub calls : HasNumber calls given
  pub seed : HasNumber seed given
  pub moves : HasNumber moves given
  pub stops : HasNumber stops given
  pub chapter : HasNumber chapter given

abbrev pub plan_asked : List Row → BenchPlan
plan_asked given = record {
  subscribers = number_asked subscribers given;
  partitions = number_asked partitions given;
  clients = number_asked clients given;
  calls = number_asked calls given;
  seed = number_asked seed given;
  distribution = distribution_asked given;
  moves = number_asked moves given;
  stops = number_asked stops given;
  chapter = number_asked chapter given;
}

-- ---- a history that is judged
abbrev pub parts_asked : List Row → ℕ
parts_asked given = number_asked parts given

pub record HasJudgePlan (given : List Row) : Type 0 where
  pub population : HasPopulation given
  pub most : HasNumber most given
  pub parts : HasNumber parts given
  pub part : HasNumber (part (parts_asked given)) given

abbrev pub judge_plan_asked : List Row → JudgePlan
judge_plan_asked given = record {
  population = population_asked given;
  most = number_asked most given;
  final_rows = is_given (codes "final") given;
  part = number_asked (part (parts_asked given)) given;
  parts = parts_asked given;
}

-- ---- rows that are drawn and written
pub record HasRowsPlan (given : List Row) : Type 0 where
  pub subscribers : HasNumber rows_gen given
  pub seed : HasNumber seed given

abbrev pub rows_plan_asked : List Row → RowsPlan
rows_plan_asked given = record {
  subscribers = number_asked rows_gen given;
  seed = number_asked seed given;
}

-- ---- calls that are drawn and written
pub record HasCallsPlan (given : List Row) : Type 0 where
  pub subscribers : HasNumber subscribers given
  pub calls : HasNumber drawn_calls given
  pub client : HasNumber client given
  pub seed : HasNumber seed given

abbrev pub calls_plan_asked : List Row → CallsPlan
calls_plan_asked given = record {
  subscribers = number_asked subscribers given;
  calls = number_asked drawn_calls given;
  client = number_asked client given;
  seed = number_asked seed given;
  distribution = distribution_asked given;
}
