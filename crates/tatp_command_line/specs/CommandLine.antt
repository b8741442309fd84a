-- The command line: its commands, and the options of each.
use Rattle.std.specs.Prelude.{◌≡◌, true, false, List, [], ◌∷◌, ◌++◌, Some, codes}
use Rattle.std.specs.Option.{option_map_or}
use Rattle.clap.specs.Walk.{Rule, Text}
use Rattle.clap.specs.Simple.{App, Shape, app_of, new_rule, new_shape}
use Rattle.clap.specs.declared.builder.action.ArgAction.TheVariants.{SetTrue}
use Rattle.clap.specs.declared.builder.command.Command.{Command}
use Rattle.clap.specs.declared.builder.command.Command.TheViews.{out-Command}
use Rattle.tatp_command_line.specs.Numbers.{Ranged}
use Rattle.tatp_command_line.specs.Options.{gen, subscribers, seed, partitions, clients, calls, moves, stops, chapter, input_limit, rows_gen, drawn_calls, client, most, any_part, parts}

-- ---- the rules by which words are parsed
-- an option that takes a number: any text, which is read afterwards
abbrev pub number_rule : Ranged → Rule
number_rule option = record (new_rule option.name) {
  long = Some option.name;
  value_names = 1;
  defaults = option_map_or (λ text. text ∷ []) option.default [];
  required = option.required;
}

abbrev pub switch_rule : Text → Rule
switch_rule name = record (new_rule name) { long = Some name; action = Some SetTrue }

-- a word with no option before it, any text
abbrev pub word_rule : Text → Rule
word_rule name = record (new_rule name) { value_names = 1 }

abbrev pub command_with : List Rule → Text → Shape
command_with rules name = record (new_shape name) { rules = rules }

-- ---- the commands
-- over rows that the input has, or that are drawn
abbrev pub rows_rules : List Rule
rows_rules = number_rule gen ∷ number_rule seed ∷ number_rule partitions ∷ []

abbrev pub call_rules : List Rule
call_rules = rows_rules ++ switch_rule (codes "rows") ∷ number_rule input_limit ∷ []

abbrev pub trace_rules : List Rule
trace_rules = rows_rules ++ number_rule clients ∷ switch_rule (codes "procedures")
    ∷ switch_rule (codes "echo") ∷ number_rule input_limit ∷ []

abbrev pub audit_rules : List Rule
audit_rules = number_rule input_limit ∷ []

abbrev pub judge_rules : List Rule
judge_rules = number_rule gen ∷ number_rule seed ∷ number_rule most
    ∷ switch_rule (codes "final") ∷ switch_rule (codes "progress") ∷ []

abbrev pub part_rules : List Rule
part_rules = number_rule any_part ∷ number_rule parts ∷ []

abbrev pub bench_rules : List Rule
bench_rules = number_rule subscribers ∷ number_rule partitions ∷ number_rule clients
    ∷ number_rule calls ∷ number_rule seed ∷ []

abbrev pub meanwhile_rules : List Rule
meanwhile_rules = switch_rule (codes "uniform") ∷ number_rule moves ∷ number_rule stops
    ∷ number_rule chapter ∷ switch_rule (codes "progress") ∷ switch_rule (codes "history") ∷ []

abbrev pub drawn_rows_rules : List Rule
drawn_rows_rules = number_rule rows_gen ∷ number_rule seed ∷ []

abbrev pub drawn_calls_rules : List Rule
drawn_calls_rules = number_rule subscribers ∷ number_rule drawn_calls ∷ number_rule client
    ∷ number_rule seed ∷ switch_rule (codes "uniform") ∷ []

abbrev pub commands : List Shape
commands =
    command_with call_rules (codes "call")
    ∷ command_with trace_rules (codes "trace")
    ∷ command_with [] (codes "asm")
    ∷ command_with [] (codes "dis")
    ∷ command_with [] (codes "check")
    ∷ command_with audit_rules (codes "audit")
    ∷ command_with (judge_rules ++ part_rules) (codes "judge")
    ∷ command_with (bench_rules ++ meanwhile_rules) (codes "bench")
    ∷ command_with drawn_rows_rules (codes "rows")
    ∷ command_with drawn_calls_rules (codes "calls")
    ∷ command_with (word_rule (codes "word") ∷ []) (codes "explain")
    ∷ []

-- ---- the whole
-- each command has the program's version, and one of them has to be given
abbrev pub program : Shape
program = record (new_shape (codes "tatp")) {
  is_leaf = false;
  has_version = true;
  propagate_version = true;
  arg_required_else_help = true;
  subcommand_required = true;
}

abbrev pub command_line : App
command_line = record { top = program; subs = commands }

-- ---- commands as they are built
-- the command parses words as `app` does, and no argument of it is one of its subcommands' too
abbrev pub IsApp : App → Command → Type 0
IsApp app command = (app_of command ≡ app) × ((out-Command command).has_globals ≡ false)

-- the same, of a command without subcommands
abbrev pub IsLeaf : Shape → Command → Type 0
IsLeaf shape command = IsApp (record { top = shape; subs = [] }) command
