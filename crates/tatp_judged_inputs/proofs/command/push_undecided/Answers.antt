use Rattle.std.specs.String.{string_bytes}
use Rattle.std.proofs.Common.{◌++◌, ◌∙◌, ap, take_all}
use Rattle.tatp_judged_inputs.specs.Judging.{undecided_lines}
use Rattle.tatp_judged_inputs.proofs.TellingLaws.{one_undecided}
use Rattle.tatp_judged_inputs.proofs.command.push_undecided.Goals as goal

pub aside-preserved : goal.aside-preserved
aside-preserved c =
    one_undecided c.args.aside.now c.aside.i _ (string_bytes c.args.text.now) (string_bytes c.aside.text) (string_bytes c.push_one_undecided.new.text) c.aside.invariant c.aside-test.true c.in_ok-push_one_undecided.ensures

pub returns : goal.returns
returns c = c.aside.invariant ∙ ap (λ xs. string_bytes c.args.text.now ++ undecided_lines xs) (take_all c.aside.i c.args.aside.now c.aside-test.false)
