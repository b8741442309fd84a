use Rattle.std.proofs.Common.{◌≡◌, ◌++◌, drop}
use Rattle.tatp_logs.specs.Receipts.{receipts_of}
use Rattle.tatp_logs.specs.Lists.{lists_of}
use Rattle.tatp_run_history.specs.ClientLines.{all_lines}
use Rattle.tatp_run_history.specs.Parts.{rests_of}
use Rattle.tatp_run_history.proofs.history.parts_of.Given as goal

abbrev pub invariant-loop-client : goal.invariant-loop-client
invariant-loop-client l =
    rests_of l.parts.items ++ all_lines l.client (lists_of (drop l.client l.lists)) (receipts_of (drop l.client l.receipts))
    ≡ all_lines 0 (lists_of l.lists) (receipts_of l.receipts)
