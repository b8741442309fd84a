use Rattle.std.proofs.Common.{◌∙◌, sym, ap, ◌++◌, lit<}
use Rattle.std.specs.String.{string_bytes}
use Rattle.tatp_calls.proofs.DecimalLaws.{spaced_in_decimal}
use Rattle.tatp_calls.proofs.values.push_spaced.Goals as goal

pub returns-then-is_decimal-clause-ok : goal.returns-then-is_decimal-clause-ok
returns-then-is_decimal-clause-ok c =
    spaced_in_decimal c.push_decimal.result (string_bytes c.args.text.now) _ _ c.args.column c.args.value (sym c.is_decimal.ensures ∙ c.if-is_decimal.true)
    (c.in_ok-push.ensures.bytes ∙ ap (λ space. string_bytes c.args.text.now ++ space) (c.in_ok-push.ensures.ascii (lit< tt)))
    c.push_decimal.ensures.ok
