use Rattle.std.proofs.Common.{◌∙◌, sym, ap, Some, None, lit<}
use Rattle.std.proofs.lemmas.Str.Pattern.{split_once_first}
use Rattle.tatp_texts.specs.Text.{fields_left}
use Rattle.tatp_texts.proofs.FieldLaws.{fields_first, fields_last}
use Rattle.tatp_texts.proofs.fields.Fields.next.Goals as goal

pub returns-in-Some-clause-field : goal.returns-in-Some-clause-field
returns-in-Some-clause-field c =
    let parts = split_once_first 32 c.in_ok-line.line.now (Some (c.in-Some.field, c.in-Some.rest)) c.in-Some.ensures.cases (lit< tt) in
    sym c.self.view_is ∙ (ap fields_left c.in_ok-line.was ∙ fields_first c.in_ok-line.line.now _ _ parts.0 parts.1 parts.2)

pub returns-in-None-clause-field : goal.returns-in-None-clause-field
returns-in-None-clause-field c =
    sym c.self.view_is ∙ (ap fields_left c.in_ok-line.was ∙ fields_last c.in_ok-line.line.now (split_once_first 32 c.in_ok-line.line.now None c.in-None.ensures.cases (lit< tt)))
