use Rattle.std.proofs.Common.{sym, subst}
use Rattle.tatp_judge.specs.declared.conflicts.Conflicts.{Conflicts}
use Rattle.tatp_judge.specs.Conflicts.{HasConflicts}
use Rattle.tatp_judge.proofs.stakes.Counts.count.Goals as goal

pub count_call-requires : goal.count_call-requires
count_call-requires c = let q = c.requires in (q.0, q.1, q.2, q.3, q.4.calls)

pub count-requires : goal.count-requires
count-requires c = let q = c.requires in (q.0, q.1, q.2, q.3, subst (λ (k : Conflicts). HasConflicts q.0 q.2 k) (sym c.count_call.ensures.conflicts) q.4.conflicts)

pub returns : goal.returns
returns c = λ u most lines followed has.
    let calls = c.count_call.ensures.calls u most lines followed has.calls in
    record {
      calls = record {
        asked_is = calls.asked_is;
        answered_is = calls.answered_is;
        aborted_is = calls.aborted_is;
        marks = calls.marks;
        subscribers_is = calls.subscribers_is;
        subscribers_few = calls.subscribers_few;
        overlapped_is = calls.overlapped_is;
        overlapped_few = calls.overlapped_few;
        widest_is = calls.widest_is;
        widest_few = calls.widest_few;
      };
      conflicts = c.count.ensures u most lines followed (subst (λ (k : Conflicts). HasConflicts u lines k) (sym c.count_call.ensures.conflicts) has.conflicts);
    }
