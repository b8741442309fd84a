use Rattle.std.proofs.Common.{sum_by, length}
use Rattle.std.specs.String.{string_bytes}
use Rattle.tatp_logs.specs.Receipts.{receipts_of}
use Rattle.tatp_logs.specs.Lists.{lists_of}
use Rattle.tatp_run_history.specs.ClientLines.{all_lines}
use Rattle.tatp_run_history.specs.Parts.{rests_of}
use Rattle.tatp_run_history.proofs.WritingLaws.{IsMerged}
use Rattle.tatp_run_history.proofs.history.write_history.Given as goal

abbrev pub invariant-lines : goal.invariant-lines
invariant-lines g l =
    IsMerged (all_lines 0 (lists_of l.lists) (receipts_of l.receipts)) (rests_of l.parts.items) (string_bytes l.fn.head) (g.W.Write.contents l.fn.writer) (g.W.Write.contents l.writer)
    (string_bytes l.pending)

abbrev pub decreases-lines : goal.decreases-lines
decreases-lines g l = sum_by length (rests_of l.parts.items)
