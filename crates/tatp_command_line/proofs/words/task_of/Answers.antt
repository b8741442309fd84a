use Rattle.std.proofs.Common.{rules, map, ap, subst, ◌∙◌}
use Rattle.std.proofs.lemmas.Result.{IfOk-weaker}
use Rattle.std.specs.Prelude.{IsSomeAnd}
use Rattle.std.specs.String.{string_bytes}
use Rattle.clap.specs.Faults.{fault_of, is_simple_and_free}
use Rattle.clap.specs.Kinds.{HasKind}
use Rattle.clap.specs.Simple.{App, is_simple, subcommand_of, subcommand_rows_of}
use Rattle.clap.specs.Values.{kind_of}
use Rattle.tatp_command_line.specs.Asked.{IsNamedBy}
use Rattle.tatp_command_line.specs.CommandLine.{command_line}
use Rattle.tatp_command_line.proofs.AnswerLaws.{what_is_shown_is_asked_for}
use Rattle.tatp_command_line.proofs.words.task_of.Goals as goal

pub returns-in-Err-clause-shown : goal.returns-in-Err-clause-shown
returns-in-Err-clause-shown c =
    let words = map string_bytes c.args.words.now in
    let line = c.in_ok-command.ensures.0 in
    let fails = c.in-Err.ensures.kinds (ap is_simple_and_free line) in
    let has : HasKind (fault_of command_line words) c.in-Err.error = subst (λ (app : App). HasKind (fault_of app words) c.in-Err.error) line fails in
    IfOk-weaker c.answered.result _ _ (λ asked told. what_is_shown_is_asked_for asked (kind_of c.in-Err.error) words has told) c.answered.ensures

pub returns-in-Ok-Some-clause-asked : goal.returns-in-Ok-Some-clause-asked
returns-in-Ok-Some-clause-asked c =
    let line = c.in_ok-command.ensures.0 in
    let found = (c.in-Ok.ensures.matches (ap is_simple line)).1 in
    let named = found ∙ ap (λ (app : App). subcommand_of app (map string_bytes c.args.words.now)) line in
    let asked : IsSomeAnd (subcommand_rows_of c.in-Ok.matches) (λ it. IsNamedBy it c.in-Ok-Some.task) = search rules in
    subst (λ command. IsSomeAnd command (λ it. IsNamedBy it c.in-Ok-Some.task)) named asked
