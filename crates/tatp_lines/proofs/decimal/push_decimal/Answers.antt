use Rattle.std.specs.String.{string_bytes}
use Rattle.tatp_lines.proofs.NumberLaws.{digit_pushed}
use Rattle.tatp_lines.proofs.decimal.push_decimal.Goals as goal

pub returns-then-number-lt10-clause-ok : goal.returns-then-number-lt10-clause-ok
returns-then-number-lt10-clause-ok c = digit_pushed c.push.result (string_bytes c.args.text.now) _ c.from.result c.args.number c.if-number-lt10.true c.from.ensures c.push.ensures.bytes
