use Rattle.tatp_streams.specs.LineReading.{lines_left, Relates, steps_left}
use Rattle.tatp_inputs.proofs.PartLaws.{TextSoFar}
use Rattle.tatp_inputs.proofs.text.read_text.Given as goal

abbrev pub invariant-lines : goal.invariant-lines
invariant-lines g l = record {
  so_far : Relates (lines_left l.fn.lines (g.R.Read.remaining l.fn.reader)) (lines_left l.lines (g.R.Read.remaining l.reader)) (TextSoFar l.text.items l.fn.lines.number l.lines.number);
}

abbrev pub decreases-lines : goal.decreases-lines
decreases-lines g l = steps_left l.lines
