-- What the words of the command line ask for.
use Rattle.std.specs.Prelude.{◌≡◌, ◌⊎◌, List, IsSomeAnd, codes, option_map}
use Rattle.clap.specs.Faults.{fault_of}
use Rattle.clap.specs.Kinds.{IsAmong}
use Rattle.clap.specs.Walk.{Row, Text}
use Rattle.clap.specs.Simple.{subcommand_of}
use Rattle.clap.specs.declared.error.kind.ErrorKind.{ErrorKind}
use Rattle.clap.specs.declared.error.kind.ErrorKind.TheVariants.{DisplayHelp, DisplayVersion}
use Rattle.tatp_tasks.specs.declared.task.Task.{Task}
use Rattle.tatp_tasks.specs.declared.task.Task.TheVariants.{Call, Trace, Audit, Judge, Bench, Rows, Calls, Explain}
use Rattle.tatp_tasks.specs.Tasks.{name_of}
use Rattle.tatp_command_line.specs.Numbers.{HasNumber, number_asked}
use Rattle.tatp_command_line.specs.Options.{partitions, input_limit, is_given, word_asked, HasPopulation, population_asked, HasSetup, setup_asked, HasPlan, plan_asked, HasRowsPlan, rows_plan_asked, HasJudgePlan, judge_plan_asked, HasCallsPlan, calls_plan_asked}
use Rattle.tatp_command_line.specs.CommandLine.{command_line}
use Rattle.tatp_command_line.specs.declared.asked.Asked.{Asked}
use Rattle.tatp_command_line.specs.declared.asked.Asked.TheVariants.{Do, Show, Refuse}

-- ---- a task
-- the options of the task's command have their values, and each field of the task is what they ask
-- for
abbrev pub IsAskedBy : List Row → Task → Type 0
IsAskedBy given (Call population over rows limit) =
    (HasPopulation given × HasNumber partitions given × HasNumber input_limit given)
    × (population ≡ population_asked given) × (over ≡ number_asked partitions given)
    × (rows ≡ is_given (codes "rows") given) × (limit ≡ number_asked input_limit given)
IsAskedBy given (Trace setup echo) =
    HasSetup given × (setup ≡ setup_asked given) × (echo ≡ is_given (codes "echo") given)
IsAskedBy given (Audit limit) =
    HasNumber input_limit given × (limit ≡ number_asked input_limit given)
IsAskedBy given (Judge plan progress) =
    HasJudgePlan given × (plan ≡ judge_plan_asked given)
    × (progress ≡ is_given (codes "progress") given)
IsAskedBy given (Bench plan progress history) =
    HasPlan given × (plan ≡ plan_asked given) × (progress ≡ is_given (codes "progress") given)
    × (history ≡ is_given (codes "history") given)
IsAskedBy given (Rows plan) = HasRowsPlan given × (plan ≡ rows_plan_asked given)
IsAskedBy given (Calls plan) = HasCallsPlan given × (plan ≡ calls_plan_asked given)
IsAskedBy given (Explain word) = option_map (λ text. text.now) word ≡ word_asked given
IsAskedBy given task = Unit {0}

-- it is the command of this name, with what its words give
abbrev pub IsNamedBy : Text × List Row → Task → Type 0
IsNamedBy command task = (command.0 ≡ name_of task) × IsAskedBy command.1 task

-- the words, of which the first is the program's name, ask for the task
abbrev pub AskFor : List Text → Task → Type 0
AskFor words task =
    IsSomeAnd (subcommand_of command_line words) (λ command. IsNamedBy command task)

-- ---- a text
-- the parse ends with one of these: it was asked for help or for the version
abbrev pub IsForText : ErrorKind → Type 0
IsForText kind = (kind ≡ DisplayHelp) ⊎ (kind ≡ DisplayVersion)

-- the words ask for help or for the version
abbrev pub AskForText : List Text → Type 0
AskForText words =
    let kinds = fault_of command_line words in
    IsAmong DisplayHelp kinds ⊎ IsAmong DisplayVersion kinds

-- ---- answers
-- if there is a task to be done, it is such a one
abbrev pub IfDo : (Task → Type 0) → Asked → Type 0
IfDo IsSuch (Do task) = IsSuch task
IfDo IsSuch answer = Unit {0}

-- if a text is shown that was asked for, then this holds
abbrev pub IfShown : Type 0 → Asked → Type 0
IfShown holds (Show text) = holds
IfShown holds answer = Unit {0}

-- an error of this kind is answered by a text, which is shown where it was asked for, and else
-- refuses the words
abbrev pub IsToldOf : ErrorKind → Asked → Type 0
IsToldOf kind (Do task) = ⊥
IsToldOf kind (Show text) = IsForText kind
IsToldOf kind (Refuse text) = IsForText kind → ⊥
