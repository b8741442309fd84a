use Rattle.std.proofs.Common.{true}
use Rattle.tatp_workers.proofs.ExecutorLaws.{executed}
use Rattle.tatp_workers.proofs.executor.execute_call.Goals as goal

pub returns-then-begin : goal.returns-then-begin
returns-then-begin g c =
    executed c.args.partition c.args.chapter c.args.item.now true
    (g.E.Answering.effects c.args.executing.now) (g.E.Answering.effects c.begin.new.executing) (g.E.Answering.effects c.run.new.executing)
    c.if-begin.ensures c.run.ensures
