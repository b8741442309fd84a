use Rattle.tatp_command_line.proofs.CommandLaws.{has_fields, one_option_more}
use Rattle.tatp_command_line.proofs.commands.trace.Goals as goal

pub returns : goal.returns
returns c =
    let one = one_option_more _ _ _ _ _ c.in_ok-command.ensures c.in_ok-arg.ensures c.arg.ensures.rule c.arg.ensures.own in
    let two = one_option_more _ _ _ _ _ one c.in_ok-arg-2.ensures c.switch.ensures.rule c.switch.ensures.own in
    let three = one_option_more _ _ _ _ _ two c.in_ok-arg-3.ensures c.switch-2.ensures.rule c.switch-2.ensures.own in
    let four = one_option_more _ _ _ _ _ three c.in_ok-command-2.ensures c.arg-5.ensures.rule c.arg-5.ensures.own in
    has_fields _ _ _ c.after_help.ensures four.0 four.1
