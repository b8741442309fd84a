use Rattle.std.proofs.Common.{◌∙◌, sym}
use Rattle.tatp_texts.proofs.RowTextLaws.{row_of_other}
use Rattle.tatp_texts.proofs.text.row_of_line.Goals as goal

pub returns-in_default : goal.returns-in_default
returns-in_default c =
    sym (row_of_other c.args.line.now c.in_ok-next.field-0.now c.next.new.self (sym c.new-fields.ensures ∙ c.in_ok-next.ensures.field) c.in_default.not-S c.in_default.not-A c.in_default.not-F c.in_default.not-C)
