use Rattle.std.proofs.Common.{sym, ap, ◌∙◌}
use Rattle.tatp_asm.specs.Words.{line_of}
use Rattle.tatp_asm.proofs.FieldLaws.{text_yes, text_no}
use Rattle.tatp_asm.proofs.line.bytes_line.Goals as goal

pub returns-in-Ok : goal.returns-in-Ok
returns-in-Ok c =
    let same = c.in-Ok.ensures.cases.0 in
    c.text_line.ensures ∙ (ap line_of same ∙ sym (text_yes c.args.line.now c.in-Ok.ensures.cases.1))

pub returns-in-Err : goal.returns-in-Err
returns-in-Err c = sym (text_no c.args.line.now c.in-Err.ensures.cases.0)
