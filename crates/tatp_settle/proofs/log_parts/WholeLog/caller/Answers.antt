use Rattle.tatp_settle.proofs.WholeLogLaws.{within_part, call_of_part}
use Rattle.tatp_settle.proofs.log_parts.WholeLog.caller.Goals as goal

pub caller-requires : goal.caller-requires
caller-requires c = within_part c.args.self.now c.args.index c.in-Some.part.now c.requires c.in-Some.ensures.entry

pub returns : goal.returns
returns c = call_of_part c.args.self.now c.args.index c.in-Some.part.now c.caller.result.0 c.caller.result.1 c.in-Some.ensures.entry c.caller.ensures
