use Rattle.std.proofs.Common.{inl, sym, ap, subst, ◌∙◌}
use Rattle.std.proofs.lemmas.Result.{err_from_is_err_and}
use Rattle.std.specs.String.{string_bytes}
use Rattle.tatp_streams.proofs.StreamLaws.{appends_none}
use Rattle.tatp_logs.specs.Lists.{lists_of}
use Rattle.tatp_bench.specs.Benching.{ReceivesPlan}
use Rattle.tatp_bench.proofs.ReportLaws.{IsTold, history_written, history_left}
use Rattle.tatp_bench.proofs.report.report_history.Goals as goal

pub returns-in_err-recorder-clause-faults : goal.returns-in_err-recorder-clause-faults
returns-in_err-recorder-clause-faults g c =
    let p = err_from_is_err_and c.from_residual.result c.from_residual.ensures.1 in
    rw (p.1, p.2) (inl (appends_none (g.W.Write.contents c.args.writer.now)))

pub returns-in_err-head-clause-faults : goal.returns-in_err-head-clause-faults
returns-in_err-head-clause-faults g c =
    let p = err_from_is_err_and c.from_residual-in_err-head.result c.from_residual-in_err-head.ensures.1 in
    rw (p.1, p.2) (inl (appends_none (g.W.Write.contents c.args.writer.now)))

pub returns-in_err-write_history-clause-faults : goal.returns-in_err-write_history-clause-faults
returns-in_err-write_history-clause-faults g c =
    let p = err_from_is_err_and c.from_residual-in_err-write_history.result c.from_residual-in_err-write_history.ensures.1 in
    let plan = c.args.plan.now in
    let run = c.in_ok-run.run' in
    let asked = c.deref.result.now in
    let received = c.deref-2.result.now in
    let is : IsTold plan asked received run.settled = record {
      received = subst (λ receipts. ReceivesPlan plan receipts run.settled) (sym c.deref-2.ensures.value) c.in_ok-run.ensures.settled;
      drawn = ap lists_of c.deref.ensures.value ∙ c.in_ok-run.ensures.asked;
      calls = c.in_ok-run.ensures.calls;
      kinds = c.in_ok-run.ensures.kinds;
    } in
    rw (p.1, p.2)
    (history_left plan asked received run.settled (string_bytes c.in_ok-head.head) (g.W.Write.contents c.args.writer.now) (g.W.Write.contents c.write_history.new.writer) c.in_err-write_history.field-0.0
    is c.in_ok-head.ensures c.in_err-write_history.ensures.faults c.in_err-write_history.ensures.front)

pub returns-clause-written : goal.returns-clause-written
returns-clause-written g c =
    let plan = c.args.plan.now in
    let run = c.in_ok-run.run' in
    let asked = c.deref.result.now in
    let received = c.deref-2.result.now in
    let is : IsTold plan asked received run.settled = record {
      received = subst (λ receipts. ReceivesPlan plan receipts run.settled) (sym c.deref-2.ensures.value) c.in_ok-run.ensures.settled;
      drawn = ap lists_of c.deref.ensures.value ∙ c.in_ok-run.ensures.asked;
      calls = c.in_ok-run.ensures.calls;
      kinds = c.in_ok-run.ensures.kinds;
    } in
    history_written plan asked received run.settled (string_bytes c.in_ok-head.head) (g.W.Write.contents c.args.writer.now) (g.W.Write.contents c.write_history.new.writer)
    is c.in_ok-head.ensures c.in_ok-write_history.ensures.written
