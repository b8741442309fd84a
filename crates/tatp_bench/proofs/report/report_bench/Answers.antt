use Rattle.std.proofs.Common.{rules}
use Rattle.std.proofs.lemmas.Result.{err_from_is_err_and}
use Rattle.tatp_streams.proofs.StreamLaws.{appends_none}
use Rattle.tatp_bench.specs.Reports.{TellsSettled}
use Rattle.tatp_bench.proofs.ReportLaws.{settled_cut, plan_received}
use Rattle.tatp_bench.proofs.report.report_bench.Goals as goal

pub returns-in_err-text-clause-faults : goal.returns-in_err-text-clause-faults
returns-in_err-text-clause-faults g c =
    let p = err_from_is_err_and c.from_residual-in_err-text.result c.from_residual-in_err-text.ensures.1 in
    rw (p.1, p.2) (appends_none (g.W.Write.contents c.args.writer.now))

pub returns-in_err-write_last-clause-faults : goal.returns-in_err-write_last-clause-faults
returns-in_err-write_last-clause-faults g c =
    let p = err_from_is_err_and c.from_residual-in_err-write_last.result c.from_residual-in_err-write_last.ensures.1 in
    let tells : TellsSettled c.args.plan.now c.as_bytes.result.now = record {
      settled = c.in_ok-run.run'.settled;
      settles = plan_received c.args.plan.now c.in_ok-run.run'.receipts.items c.in_ok-run.run'.settled c.in_ok-run.ensures.settled;
      calls = c.in_ok-run.ensures.calls;
      mix = c.in_ok-run.ensures.kinds;
      told = search rules;
    } in
    rw (p.1, p.2)
    (settled_cut c.args.plan.now (g.W.Write.contents c.args.writer.now) (g.W.Write.contents c.write_last.new.writer) c.as_bytes.result.now c.in_err-write_last.field-0.0
    tells c.in_err-write_last.ensures.faults c.in_err-write_last.ensures.front)
