use Rattle.std.proofs.Common.{rules, [], codes}
use Rattle.std.proofs.lemmas.Result.{IfOk-weaker}
use Rattle.tatp_command_line.specs.CommandLine.{command_with, IsLeaf}
use Rattle.tatp_command_line.proofs.CommandLaws.{one_option_more}
use Rattle.tatp_command_line.proofs.commands.judge.Goals as goal

pub returns : goal.returns
returns c =
    let none : IsLeaf (command_with [] (codes "judge")) c.after_help.result = search rules in
    let one = one_option_more _ _ _ _ _ none c.in_ok-arg.ensures c.arg.ensures.rule c.arg.ensures.own in
    let two = one_option_more _ _ _ _ _ one c.in_ok-arg-2.ensures c.arg-3.ensures.rule c.arg-3.ensures.own in
    let three = one_option_more _ _ _ _ _ two c.in_ok-arg-3.ensures c.arg-5.ensures.rule c.arg-5.ensures.own in
    let four = one_option_more _ _ _ _ _ three c.in_ok-arg-4.ensures c.switch.ensures.rule c.switch.ensures.own in
    IfOk-weaker c.arg-8.result _ _ (λ command adds. one_option_more _ _ _ _ _ four adds c.switch-2.ensures.rule c.switch-2.ensures.own) c.arg-8.ensures
