use Rattle.tatp_console.proofs.CallLaws.{rests_after, rests_on}
use Rattle.tatp_console.proofs.call.answer_line.Goals as goal

pub returns-in-Some-clause-ready : goal.returns-in-Some-clause-ready
returns-in-Some-clause-ready c = rests_after c.in-Some.call c.args.world.now c.answer_call.new.world c.answer_call.ensures.made

pub returns-in-None-clause-ready : goal.returns-in-None-clause-ready
returns-in-None-clause-ready c = rests_on c.args.world.now
