use Rattle.std.proofs.lemmas.Result.{IfOk-weaker}
use Rattle.tatp_command_line.proofs.CommandLaws.{one_command_more}
use Rattle.tatp_command_line.proofs.commands.command.Goals as goal

pub returns : goal.returns
returns c =
    let one = one_command_more _ _ _ _ _ c.program.ensures c.in_ok-call.ensures c.in_ok-subcommand.ensures in
    let two = one_command_more _ _ _ _ _ one c.in_ok-trace.ensures c.in_ok-subcommand-2.ensures in
    let three = one_command_more _ _ _ _ _ two c.plain.ensures c.in_ok-subcommand-3.ensures in
    let four = one_command_more _ _ _ _ _ three c.plain-2.ensures c.in_ok-subcommand-4.ensures in
    let five = one_command_more _ _ _ _ _ four c.plain-3.ensures c.in_ok-subcommand-5.ensures in
    let six = one_command_more _ _ _ _ _ five c.in_ok-audit.ensures c.in_ok-subcommand-6.ensures in
    let seven = one_command_more _ _ _ _ _ six c.in_ok-judge_with_parts.ensures c.in_ok-subcommand-7.ensures in
    let eight = one_command_more _ _ _ _ _ seven c.in_ok-bench_with_moves.ensures c.in_ok-subcommand-8.ensures in
    let nine = one_command_more _ _ _ _ _ eight c.in_ok-rows.ensures c.in_ok-subcommand-9.ensures in
    let ten = one_command_more _ _ _ _ _ nine c.in_ok-calls.ensures c.in_ok-subcommand-10.ensures in
    IfOk-weaker c.subcommand-11.result _ _ (λ command adds. one_command_more _ _ _ _ _ ten c.in_ok-explain.ensures adds) c.subcommand-11.ensures
