use Rattle.std.proofs.Common.{Some, None}
use Rattle.std.proofs.lemmas.Str.Pattern.{split_once_first}
use Rattle.tatp_asm.proofs.FieldLaws.{fields_first, fields_last}
use Rattle.tatp_asm.proofs.fields.cut.Goals as goal

pub returns-in-Some : goal.returns-in-Some
returns-in-Some c =
    let parts = split_once_first c.args.separator c.args.text.now (Some (c.in-Some.field, c.in-Some.rest)) c.in-Some.ensures.cases c.requires in
    fields_first c.args.separator c.args.text.now c.in-Some.field.now c.in-Some.rest.now parts.0 parts.1 parts.2

pub returns-in-None : goal.returns-in-None
returns-in-None c = fields_last c.args.separator c.args.text.now (split_once_first c.args.separator c.args.text.now None c.in-None.ensures.cases c.requires)
