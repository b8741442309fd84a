-- Commands that are built option by option.
use Rattle.std.proofs.Common.{◌≡◌, ◌∙◌, ap, ap₂, false, ◌||◌}
use Rattle.clap.specs.Built.{AddsArg, AddsSubcommand}
use Rattle.clap.specs.Simple.{App, app_of_fields, with_rule, with_subcommand}
use Rattle.clap.specs.Walk.{Rule, rule_of}
use Rattle.clap.specs.declared.builder.arg.Arg.{Arg}
use Rattle.clap.specs.declared.builder.command.Command.{Command}
use Rattle.clap.specs.declared.builder.command.Command.TheOpen.{Command-F}
use Rattle.clap.specs.declared.builder.command.Command.TheViews.{out-Command}
use Rattle.tatp_command_line.specs.CommandLine.{IsApp}

-- the command has these fields
pub has_fields : (app : App) (command : Command) (fields : Command-F Command) → out-Command command ≡ fields
    → app_of_fields fields ≡ app → fields.has_globals ≡ false → IsApp app command
has_fields app command fields e shape own = (ap app_of_fields e ∙ shape, ap (λ (f : Command-F Command). f.has_globals) e ∙ own)

pub one_option_more : (app : App) (rule : Rule) (old new : Command) (arg : Arg) → IsApp app old → AddsArg old arg new
    → rule_of arg ≡ rule → arg.global ≡ false → IsApp (with_rule app rule) new
one_option_more app rule old new arg is adds e own = (adds.shape own ∙ ap₂ with_rule is.0 e, adds.globals ∙ ap₂ ◌||◌ is.1 own)

pub one_command_more : (app sub : App) (old command new : Command) → IsApp app old → IsApp sub command
    → AddsSubcommand old command new → IsApp (with_subcommand app sub.top) new
one_command_more app sub old command new is of adds =
    (adds.shape of.1 ∙ ap₂ with_subcommand is.0 (ap (λ (a : App). a.top) of.0), adds.globals ∙ ap₂ ◌||◌ is.1 of.1)
