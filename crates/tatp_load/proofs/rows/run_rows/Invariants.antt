use Rattle.std.specs.String.{string_bytes}
use Rattle.tatp_driver.specs.DrawnWords.{words_of}
use Rattle.tatp_load.specs.Rows.{words_drawn}
use Rattle.tatp_load.proofs.RowLaws.{RowsAreWritten}
use Rattle.tatp_load.proofs.rows.run_rows.Given as goal

abbrev pub invariant-loop-before : goal.invariant-loop-before
invariant-loop-before g l = RowsAreWritten (words_drawn l.plan) l.before (g.W.Write.contents l.fn.writer) (g.W.Write.contents l.writer) (string_bytes l.pending) (words_of l.words)
