use Rattle.std.specs.Prelude.{ℕ}
use Rattle.std.proofs.Common.{◌≡◌}
use Rattle.tatp_streams.specs.LineReading.{lines_left, steps_left}
use Rattle.tatp_judged_inputs.specs.Views.{IsBegun, View}
use Rattle.tatp_judged_inputs.proofs.RowsAtEndLaws.{ToDotSoFar}
use Rattle.tatp_judged_inputs.proofs.to_rows.judge_to_dot.Given as goal

abbrev pub invariant-lines : goal.invariant-lines
invariant-lines g l = record {
  told : (u : View) (most : ℕ) → IsBegun u most l.fn.part l.fn.judge
      → ToDotSoFar u most l.judge l.reading l.fn.lines.number l.lines.number (lines_left l.fn.lines (g.R.Read.remaining l.fn.reader)) (lines_left l.lines (g.R.Read.remaining l.reader));
  exact : l.judge.exact ≡ l.fn.judge.exact;
}

abbrev pub decreases-lines : goal.decreases-lines
decreases-lines g l = steps_left l.lines
