use Rattle.std.proofs.Common.{None, Some, sym, ◌∙◌, lit<}
use Rattle.std.proofs.lemmas.Str.Pattern.{strip_suffix_char}
use Rattle.tatp_asm.proofs.FieldLaws.{word_other, with_colon, with_no_colon}
use Rattle.tatp_asm.proofs.line.word_line.Goals as goal

pub returns-in-Some : goal.returns-in-Some
returns-in-Some c =
    let word = c.args.word.now in
    let colon = strip_suffix_char 58 word (Some c.in-Some.label) c.in-Some.ensures.cases (lit< tt) in
    c.label_line.ensures ∙ sym (word_other word (sym c.eq.ensures ∙ c.if-eq.false) ∙ with_colon word c.in-Some.label.now colon)

pub returns-in-None : goal.returns-in-None
returns-in-None c =
    let word = c.args.word.now in
    let none = strip_suffix_char 58 word None c.in-None.ensures.cases (lit< tt) in
    c.instruction_with.ensures ∙ sym (word_other word (sym c.eq.ensures ∙ c.if-eq.false) ∙ with_no_colon word none)
