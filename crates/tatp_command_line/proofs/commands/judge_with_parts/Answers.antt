use Rattle.std.proofs.lemmas.Result.{IfOk-weaker}
use Rattle.tatp_command_line.proofs.CommandLaws.{one_option_more}
use Rattle.tatp_command_line.proofs.commands.judge_with_parts.Goals as goal

pub returns : goal.returns
returns c =
    let one = one_option_more _ _ _ _ _ c.in_ok-judge.ensures c.in_ok-arg.ensures c.arg.ensures.rule c.arg.ensures.own in
    IfOk-weaker c.arg-4.result _ _ (λ command adds. one_option_more _ _ _ _ _ one adds c.arg-3.ensures.rule c.arg-3.ensures.own) c.arg-4.ensures
