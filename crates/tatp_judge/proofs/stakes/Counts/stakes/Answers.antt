use Rattle.std.proofs.Common.{arith}
use Rattle.tatp_history.specs.HistoryLines.{calls_of}
use Rattle.tatp_judge.proofs.CountLaws.{each_ends}
use Rattle.tatp_judge.proofs.stakes.Counts.stakes.Goals as goal

pub overflow_sub-result : goal.overflow_sub-result
overflow_sub-result c = let q = c.requires in let all = each_ends (calls_of q.1) in omega (arith, all, q.2.calls.asked_is, q.2.calls.answered_is, q.2.calls.aborted_is)

pub overflow_sub-result-2 : goal.overflow_sub-result-2
overflow_sub-result-2 c = let q = c.requires in let all = each_ends (calls_of q.1) in omega (arith, all, q.2.calls.asked_is, q.2.calls.answered_is, q.2.calls.aborted_is)

pub returns : goal.returns
returns c = λ u lines is.
    let all = each_ends (calls_of lines) in
    record {
      answered = is.calls.answered_is;
      aborted = is.calls.aborted_is;
      unanswered = omega (arith, all, is.calls.asked_is, is.calls.answered_is, is.calls.aborted_is);
      subscribers = is.calls.subscribers_is;
      overlapped = is.calls.overlapped_is;
      conflicted = is.conflicts.conflicted_is;
      widest = is.calls.widest_is;
    }
