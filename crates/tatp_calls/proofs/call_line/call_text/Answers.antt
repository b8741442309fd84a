use Rattle.std.proofs.Common.{◌∙◌}
use Rattle.tatp_calls.proofs.CallTextLaws.{printed_read_back}
use Rattle.tatp_calls.proofs.call_line.call_text.Goals as goal

pub returns-clause-read_back : goal.returns-clause-read_back
returns-clause-read_back c =
    printed_read_back c.with_values.result c.args.call.now c.name.result.now c.columns.result.now c.deref.result.now c.name.ensures c.columns.ensures (c.deref.ensures.0 ∙ c.args-2.ensures) c.with_values.ensures.in_range c.with_values.ensures.text
