use Rattle.std.proofs.Common.{ap, ◌∙◌, decimal}
use Rattle.std.specs.String.{string_bytes}
use Rattle.tatp_asm.proofs.PushLaws.{procedure_steps}
use Rattle.tatp_asm.proofs.printing.push_procedure.Goals as goal

pub returns-clause-lines : goal.returns-clause-lines
returns-clause-lines c =
    procedure_steps (string_bytes c.args.out.now) (string_bytes c.push_str.new.self) (string_bytes c.push_str-2.new.self) (string_bytes c.push_str-3.new.self) (string_bytes c.push_decimal.new.text)
    (string_bytes c.push_str-4.new.self) (string_bytes c.push_body.new.out) (string_bytes c.push_str-5.new.self) c.name.result.now (decimal c.from.result) c.code.result.now c.args.procedure.now
    c.name.ensures.value (ap decimal (c.from.ensures ∙ c.arity.ensures.value))
    c.code.ensures.value
    c.in_ok-push_str.ensures.bytes c.in_ok-push_str-2.ensures.bytes c.in_ok-push_str-3.ensures.bytes c.in_ok-push_decimal.ensures.ok c.in_ok-push_str-4.ensures.bytes c.in_ok-push_body.ensures.lines c.in_ok-push_str-5.ensures.bytes
