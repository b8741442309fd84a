use Rattle.std.specs.String.{string_bytes}
use Rattle.tatp_streams.specs.LineReading.{lines_left, Relates, steps_left}
use Rattle.tatp_console.proofs.AnswerLaws.{GoingOn}
use Rattle.tatp_console.proofs.lines.answer_lines.Given as goal

abbrev pub invariant-lines : goal.invariant-lines
invariant-lines g l = record {
  ready : g.C.LineCommand.ready l.lines.number l.world;
  goes : Relates (lines_left l.fn.lines (g.R.Read.remaining l.fn.reader)) (lines_left l.lines (g.R.Read.remaining l.reader))
      (GoingOn g.C.LineCommand.answers l.fn.world (g.W.Write.contents l.fn.writer) (g.W.Write.contents l.writer) (string_bytes l.pending) l.world);
}

abbrev pub decreases-lines : goal.decreases-lines
decreases-lines g l = steps_left l.lines
