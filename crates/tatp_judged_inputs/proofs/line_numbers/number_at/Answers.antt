use Rattle.tatp_judged_inputs.proofs.NumbersLaws.{found_here, found_later, still_within}
use Rattle.tatp_judged_inputs.proofs.line_numbers.number_at.Goals as goal

pub returns-then-left-run : goal.returns-then-left-run
returns-then-left-run c = found_here c.args.runs.now c.runs.i c.runs.left c.args.place (record { first = 0; count = 0 }) c.runs-test.true c.runs.invariant.is c.if-left-run.true

pub runs-preserved : goal.runs-preserved
runs-preserved c = record {
  within = still_within c.args.runs.now c.runs.i c.runs.left c.args.place (record { first = 0; count = 0 }) c.runs-test.true c.runs.invariant.is c.runs.invariant.within c.if-left-run.false;
  is = found_later c.args.runs.now c.runs.i c.runs.left c.args.place (record { first = 0; count = 0 }) c.runs-test.true c.runs.invariant.is c.if-left-run.false;
}
