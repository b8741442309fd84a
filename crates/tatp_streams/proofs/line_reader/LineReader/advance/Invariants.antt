use Rattle.std.proofs.Common.{◌≡◌, ◌≤◌}
use Rattle.tatp_streams.specs.LineReading.{lines_left, Stays, steps_left}
use Rattle.tatp_streams.proofs.line_reader.LineReader.advance.Given as goal

abbrev pub invariant-pieces : goal.invariant-pieces
invariant-pieces g l = record {
  left : Stays (lines_left l.fn.self (g.R.Read.remaining l.fn.reader)) (lines_left l.self (g.R.Read.remaining l.reader));
  number : l.self.number ≡ l.fn.self.number;
  fewer : steps_left l.self ≤ steps_left l.fn.self;
}

abbrev pub decreases-pieces : goal.decreases-pieces
decreases-pieces g l = steps_left l.self
