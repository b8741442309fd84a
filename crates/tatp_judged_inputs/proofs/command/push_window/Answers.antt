use Rattle.std.specs.String.{string_bytes}
use Rattle.std.proofs.Common.{◌++◌, ◌∙◌, ap, take_all}
use Rattle.tatp_judged_inputs.specs.Judging.{window_lines}
use Rattle.tatp_judged_inputs.proofs.TellingLaws.{one_line}
use Rattle.tatp_judged_inputs.proofs.command.push_window.Goals as goal

pub window-preserved : goal.window-preserved
window-preserved c =
    one_line c.args.window.now c.window.i (string_bytes c.args.text.now) (string_bytes c.window.text) (string_bytes c.push_number_line.new.text) c.window.invariant c.window-test.true c.in_ok-push_number_line.ensures

pub returns : goal.returns
returns c = c.window.invariant ∙ ap (λ xs. string_bytes c.args.text.now ++ window_lines xs) (take_all c.window.i c.args.window.now c.window-test.false)
