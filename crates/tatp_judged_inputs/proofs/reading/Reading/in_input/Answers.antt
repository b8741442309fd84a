use Rattle.std.proofs.Common.{◌∙◌, ap, take_all, arith}
use Rattle.tatp_judged_inputs.specs.Judged.{in_input}
use Rattle.tatp_judged_inputs.proofs.TellingLaws.{one_told}
use Rattle.tatp_judged_inputs.proofs.reading.Reading.in_input.Goals as goal

pub overflow_sub-line : goal.overflow_sub-line
overflow_sub-line c = (c.requires c.lines.i 0 c.lines-test.true).0

pub at-number-requires : goal.at-number-requires
at-number-requires c =
    let bounds = c.requires c.lines.i 0 c.lines-test.true in
    omega (arith, bounds.0, bounds.1)

pub lines-preserved : goal.lines-preserved
lines-preserved c =
    let numbers = c.args.self.now.numbers.items in
    c.in_ok-push.ensures.items ∙ one_told numbers c.args.lines.now c.lines.told.items c.lines.i c.at-number.result c.lines.invariant c.lines-test.true c.at-number.ensures

pub returns : goal.returns
returns c = c.lines.invariant ∙ ap (in_input c.args.self.now.numbers.items) (take_all c.lines.i c.args.lines.now c.lines-test.false)
