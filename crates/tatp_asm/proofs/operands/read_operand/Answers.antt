use Rattle.std.proofs.Common.{None, sym, lit<}
use Rattle.std.proofs.lemmas.Str.Pattern.{strip_prefix_char}
use Rattle.tatp_asm.proofs.FieldLaws.{no_operand}
use Rattle.tatp_asm.proofs.operands.read_operand.Goals as goal

pub returns-in_err-label : goal.returns-in_err-label
returns-in_err-label c =
    let text = c.args.text.now in
    rw c.from_residual-in_err-label.ensures (sym (no_operand text
    (strip_prefix_char 114 text None c.in_default.ensures.cases (lit< tt))
    (strip_prefix_char 35 text None c.in_default-strip_prefix.ensures.cases (lit< tt))
    (strip_prefix_char 64 text None c.in_err-label.ensures.cases (lit< tt))))
