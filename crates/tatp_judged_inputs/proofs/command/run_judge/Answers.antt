use Rattle.std.specs.Io.KnownBytes.{Appends}
use Rattle.std.proofs.Common.{◌∙◌, subst}
use Rattle.std.proofs.lemmas.Option.{IfSome_then}
use Rattle.std.proofs.lemmas.Result.{err_from_is_err_and}
use Rattle.tatp_streams.proofs.WritingLaws.{cut_of_known}
use Rattle.tatp_judged_inputs.specs.Judging.{TellsJudged}
use Rattle.tatp_judged_inputs.proofs.command.run_judge.Goals as goal

pub returns-in_err-write_last-clause-faults : goal.returns-in_err-write_last-clause-faults
returns-in_err-write_last-clause-faults g c =
    let p = err_from_is_err_and c.from_residual-in_err-write_last.result c.from_residual-in_err-write_last.ensures.1 in
    let known = g.R.Read.remaining c.args.reader.now in
    let left =
    cut_of_known (TellsJudged c.args.plan.now) known c.as_bytes.result.now (g.W.Write.contents c.args.writer.now) (g.W.Write.contents c.write_last.new.writer) c.in_err-write_last.field-0.0
    (IfSome_then known c.in_ok-judgement.ensures.judged (λ input is. record { judgement = c.in_ok-judgement.judgement; is = is; told = c.as_bytes.ensures.value ∙ c.in_ok-lines.ensures }))
    c.in_err-write_last.ensures.faults c.in_err-write_last.ensures.front
    in
    rw (p.1, p.2) left

pub returns-clause-written : goal.returns-clause-written
returns-clause-written g c =
    let known = g.R.Read.remaining c.args.reader.now in
    let told = c.as_bytes.ensures.value ∙ c.in_ok-lines.ensures in
    IfSome_then known c.in_ok-judgement.ensures.judged (λ input is. record {
      is = is;
      written = subst (Appends (g.W.Write.contents c.args.writer.now) (g.W.Write.contents c.write_last.new.writer)) told c.in_ok-write_last.ensures.ok;
    })
