use Rattle.std.proofs.Common.{rules}
use Rattle.std.proofs.lemmas.Result.{err_from_is_err_and}
use Rattle.tatp_explanations.specs.Numbers.{all_numbers}
use Rattle.tatp_explanations.specs.Texts.{IsListing}
use Rattle.tatp_explanations.proofs.FaultLaws.{front_left}
use Rattle.tatp_explanations.proofs.commands.run_explain_all.Goals as goal

pub returns-in_err-write_last-clause-faults : goal.returns-in_err-write_last-clause-faults
returns-in_err-write_last-clause-faults g c =
    let p = err_from_is_err_and c.from_residual-in_err-write_last.result c.from_residual-in_err-write_last.ensures.1 in
    rw (p.1, p.2)
    (front_left (IsListing all_numbers) (g.W.Write.contents c.args.writer.now) (g.W.Write.contents c.write_last.new.writer) c.as_bytes.result.now c.in_err-write_last.field-0.0
    (search rules) c.in_err-write_last.ensures.faults c.in_err-write_last.ensures.front)
