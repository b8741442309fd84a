use Rattle.std.proofs.lemmas.Result.{IfOk-weaker}
use Rattle.tatp_command_line.proofs.CommandLaws.{one_option_more}
use Rattle.tatp_command_line.proofs.commands.bench_with_moves.Goals as goal

pub returns : goal.returns
returns c =
    let one = one_option_more _ _ _ _ _ c.in_ok-bench.ensures c.in_ok-arg.ensures c.switch.ensures.rule c.switch.ensures.own in
    let two = one_option_more _ _ _ _ _ one c.in_ok-arg-2.ensures c.arg-2.ensures.rule c.arg-2.ensures.own in
    let three = one_option_more _ _ _ _ _ two c.in_ok-arg-3.ensures c.arg-4.ensures.rule c.arg-4.ensures.own in
    let four = one_option_more _ _ _ _ _ three c.in_ok-arg-4.ensures c.arg-6.ensures.rule c.arg-6.ensures.own in
    let five = one_option_more _ _ _ _ _ four c.in_ok-arg-5.ensures c.switch-2.ensures.rule c.switch-2.ensures.own in
    IfOk-weaker c.arg-9.result _ _ (λ command adds. one_option_more _ _ _ _ _ five adds c.switch-3.ensures.rule c.switch-3.ensures.own) c.arg-9.ensures
