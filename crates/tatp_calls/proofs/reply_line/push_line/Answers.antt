use Rattle.std.proofs.Common.{ap}
use Rattle.std.specs.String.{string_bytes}
use Rattle.tatp_calls.specs.Replies.{reply_seen}
use Rattle.tatp_calls.proofs.PrintingLaws.{failure_printed}
use Rattle.tatp_calls.proofs.reply_line.push_line.Goals as goal

pub returns-in_ok-push_str-in-Failed-clause-ok : goal.returns-in_ok-push_str-in-Failed-clause-ok
returns-in_ok-push_str-in-Failed-clause-ok c =
    failure_printed c.push_decimal.result c.args.ask.now (reply_seen c.args.reply) c.in-Failed.number c.from.result (string_bytes c.args.text.now) (string_bytes c.push_str-in-Failed.new.self) (string_bytes c.push_decimal.new.text)
    (ap reply_seen c.in-Failed.is) c.from.ensures c.in_ok-push_str-in-Failed.ensures.bytes c.push_decimal.ensures.ok
