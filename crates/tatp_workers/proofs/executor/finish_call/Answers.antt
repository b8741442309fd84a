use Rattle.tatp_workers.proofs.ExecutorLaws.{completed}
use Rattle.tatp_workers.proofs.executor.finish_call.Goals as goal

pub returns : goal.returns
returns g c =
    completed c.args.partition c.args.chapter c.args.completion.now c.args.logged
    (g.E.Answering.effects c.args.executing.now) (g.E.Answering.effects c.conclude.new.answering) (g.E.Answering.effects c.check_log.new.executing)
    c.conclude.ensures c.check_log.ensures
